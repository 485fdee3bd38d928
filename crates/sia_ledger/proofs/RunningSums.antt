-- Sums modulo 2^128, as facts come and go.
use Rattle.std.proofs.Common.{◌≡◌, ℕ, ◌+◌, ◌-◌, ◌*◌, ◌%◌, ◌^◌, ◌<◌, List, [], ◌∷◌, ◌++◌, refl, ap, sym, ◌∙◌, arith, add-zero}
use Rattle.std.specs.Prelude.{Option}
use Rattle.std.proofs.lemmas.List.Sums.{sum_by-append}
use Rattle.sia_ledger.specs.declared.fact.Fact.{Fact}
use Rattle.sia_ledger.specs.declared.fact.Deed.{Deed}
use Rattle.sia_ledger.specs.declared.running.Running.{Running}
use Rattle.sia_ledger.specs.Claiming.{all_shares, shares_in}
use Rattle.sia_ledger.specs.Facts.{last_deed, taxes}
use Rattle.sia_ledger.specs.Holdings.{held, coins_of, held_by}
use Rattle.sia_ledger.specs.Registered.{running, last_counts}
use Rattle.sia_ledger.proofs.Held.{held-push}
use Rattle.sia_ledger.proofs.Shares.{taxes_in_shares}

-- a number goes and another comes
pub moves : (sum before after gone come : ℕ) → gone < 2 ^ 128 → come < 2 ^ 128 → sum ≡ before % 2 ^ 128 → after + gone ≡ before + come → ((sum + (2 ^ 128 - gone)) % 2 ^ 128 + come) % 2 ^ 128 ≡ after % 2 ^ 128
moves sum before after gone come low small is step = omega (arith, is, step, low, small)

pub shares-push : (facts : List Fact) (x : Fact) → all_shares (facts ++ x ∷ []) ≡ all_shares facts + shares_in x.deed
shares-push facts x =
    let both = sum_by-append (λ (f : Fact). shares_in f.deed) facts (x ∷ []) in
    omega (arith, both)

-- what the outputs, the escrow or the shares are after and before one fact more
pub counts_more : (value : Deed → ℕ) (facts : List Fact) (x : Fact) (what : Deed) (before : Option Deed) → x.deed ≡ what → last_deed facts x.id ≡ before → held value (facts ++ x ∷ []) + last_counts value before ≡ held value facts + value what
counts_more value facts x what before is last =
    ap (λ found. held value (facts ++ x ∷ []) + last_counts value found) (sym last) ∙ held-push value facts x ∙ ap (λ d. held value facts + value d) is

pub running-nil : ◌≡◌ {A = Running} (record { outputs = 0; escrow = 0; shares = 0 }) (running [])
unfolding running held
running-nil = refl

abbrev sums : ℕ → ℕ → ℕ → Running
sums o e s = record { outputs = o; escrow = e; shares = s }

whole : (a b c d e f : ℕ) → a ≡ d → b ≡ e → c ≡ f → sums a b c ≡ sums d e f
whole a b c d e f p q r = rw (p, q, r) refl

-- what one step of a sum gives
abbrev pub Moves : ℕ → ℕ → ℕ → ℕ → Type 0
Moves sum gone come result = (before after : ℕ) → sum ≡ before % 2 ^ 128 → after + gone ≡ before + come → result ≡ after % 2 ^ 128

-- one fact more
pub running_more : (was now : Running) (facts : List Fact) (x : Fact) (what : Deed) (before : Option Deed) → was ≡ running facts → x.deed ≡ what → last_deed facts x.id ≡ before →
    Moves was.outputs (last_counts coins_of before) (coins_of what) now.outputs → Moves was.escrow (last_counts held_by before) (held_by what) now.escrow → Moves was.shares 0 (shares_in what) now.shares →
    now ≡ running (facts ++ x ∷ [])
unfolding running
running_more was now facts x what before is same last coins escrow shares =
    let o : now.outputs ≡ held coins_of (facts ++ x ∷ []) % 2 ^ 128 = coins (held coins_of facts) (held coins_of (facts ++ x ∷ [])) (ap (λ (r : Running). r.outputs) is) (counts_more coins_of facts x what before same last) in
    let e : now.escrow ≡ held held_by (facts ++ x ∷ []) % 2 ^ 128 = escrow (held held_by facts) (held held_by (facts ++ x ∷ [])) (ap (λ (r : Running). r.escrow) is) (counts_more held_by facts x what before same last) in
    let step : all_shares (facts ++ x ∷ []) + 0 ≡ all_shares facts + shares_in what = add-zero (all_shares (facts ++ x ∷ [])) ∙ shares-push facts x ∙ ap (λ d. all_shares facts + shares_in d) same in
    let s : now.shares ≡ all_shares (facts ++ x ∷ []) % 2 ^ 128 = shares (all_shares facts) (all_shares (facts ++ x ∷ [])) (ap (λ (r : Running). r.shares) is) step in
    whole now.outputs now.escrow now.shares _ _ _ o e s

-- one fact less
pub running_less : (was now : Running) (facts : List Fact) (x : Fact) (what : Deed) (before : Option Deed) → was ≡ running (facts ++ x ∷ []) → x.deed ≡ what → last_deed facts x.id ≡ before →
    Moves was.outputs (coins_of what) (last_counts coins_of before) now.outputs → Moves was.escrow (held_by what) (last_counts held_by before) now.escrow → Moves was.shares (shares_in what) 0 now.shares →
    now ≡ running facts
unfolding running
running_less was now facts x what before is same last coins escrow shares =
    let o : now.outputs ≡ held coins_of facts % 2 ^ 128 = coins (held coins_of (facts ++ x ∷ [])) (held coins_of facts) (ap (λ (r : Running). r.outputs) is) (sym (counts_more coins_of facts x what before same last)) in
    let e : now.escrow ≡ held held_by facts % 2 ^ 128 = escrow (held held_by (facts ++ x ∷ [])) (held held_by facts) (ap (λ (r : Running). r.escrow) is) (sym (counts_more held_by facts x what before same last)) in
    let step : all_shares facts + shares_in what ≡ all_shares (facts ++ x ∷ []) + 0 = sym (add-zero (all_shares (facts ++ x ∷ [])) ∙ shares-push facts x ∙ ap (λ d. all_shares facts + shares_in d) same) in
    let s : now.shares ≡ all_shares facts % 2 ^ 128 = shares (all_shares (facts ++ x ∷ [])) (all_shares facts) (ap (λ (r : Running). r.shares) is) step in
    whole now.outputs now.escrow now.shares _ _ _ o e s

-- what the sums are
pub outputs_is : (s : Running) (facts : List Fact) → s ≡ running facts → held coins_of facts < 2 ^ 128 → s.outputs ≡ held coins_of facts
unfolding running
outputs_is s facts is fits = omega (arith, ap (λ (r : Running). r.outputs) is, fits)

pub escrow_is : (s : Running) (facts : List Fact) → s ≡ running facts → held held_by facts < 2 ^ 128 → s.escrow ≡ held held_by facts
unfolding running
escrow_is s facts is fits = omega (arith, ap (λ (r : Running). r.escrow) is, fits)

pub shares_is : (s : Running) (facts : List Fact) → s ≡ running facts → s.shares ≡ all_shares facts % 2 ^ 128
unfolding running
shares_is s facts is = ap (λ (r : Running). r.shares) is

pub pool_is : (s : Running) (facts : List Fact) → s ≡ running facts → s.shares * 10000 % 2 ^ 128 ≡ taxes facts % 2 ^ 128
pool_is s facts is = omega (arith, shares_is s facts is, taxes_in_shares facts)
