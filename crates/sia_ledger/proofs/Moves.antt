-- What one fact more does to all that a chain holds.
use Rattle.std.proofs.Common.{◌≡◌, ℕ, ◌+◌, ◌*◌, ◌/◌, ◌≤◌, Bool, true, false, List, [], ◌∷◌, ◌++◌, refl, ap, sym, ◌∙◌, arith}
use Rattle.std.specs.Prelude.{Option, Some, None, if◌then◌else◌}
use Rattle.std.specs.Option.{option_or}
use Rattle.sia_ledger.specs.declared.fact.Deed.TheVariants as deed
use Rattle.std.proofs.Math.Nat.{mul-le-mul_right}
use Rattle.sia_ledger.specs.Facts.{fact, is_known, last_deed, terms_in, terms_at, tax_of, taxes, funds_of, share, claim_at}
use Rattle.sia_ledger.specs.Holdings.{coins_of, held_by, held}
use Rattle.sia_ledger.specs.Paying.{total}
use Rattle.sia_ledger.specs.declared.fact.Deed.{Deed}
use Rattle.sia_ledger.specs.declared.fact.Fact.{Fact}
use Rattle.sia_rules.specs.Amounts.{shares, tax, after_tax}
use Rattle.sia_types.specs.declared.coins.CoinOutput.{CoinOutput}
use Rattle.sia_types.specs.declared.funds.FundOutput.{FundOutput}
use Rattle.sia_types.specs.declared.terms.Terms.{Terms}
use Rattle.std.specs.Str.{bytes_eq}
use Rattle.sia_ledger.specs.Registered.{last_counts}
use Rattle.sia_ledger.proofs.Held.{held-push, known-some, unknown}
use Rattle.sia_ledger.proofs.Claims.{unclaimed-push, unclaimed-more}

-- what is held changes by a gain and a loss, and the live siafunds by what is brought and taken
pub record Moves (before after : List Fact) (gain loss brought taken : ℕ) : Type 0 where
  pub holds : total after + loss ≡ total before + gain
  pub funds : held funds_of after + taken ≡ held funds_of before + brought

pub stays : (facts : List Fact) → Moves facts facts 0 0 0 0
stays facts = record { holds = refl; funds = refl }

pub and_then : (a b c : List Fact) (g l f k g' l' f' k' : ℕ) → Moves a b g l f k → Moves b c g' l' f' k' → Moves a c (g + g') (l + l') (f + f') (k + k')
and_then a b c g l f k g' l' f' k' one two = record { holds = omega (arith, one.holds, two.holds); funds = omega (arith, one.funds, two.funds) }

exactly : (a b : List Fact) (g l f k g' l' f' k' : ℕ) → Moves a b g l f k → g ≡ g' → l ≡ l' → f ≡ f' → k ≡ k' → Moves a b g' l' f' k'
exactly a b g l f k g' l' f' k' moves eg el ef ek = record { holds = omega (arith, moves.holds, eg, el); funds = omega (arith, moves.funds, ef, ek) }

-- what is held rises by no more than a gain less a loss, and the live siafunds by no more than what is brought less what is taken
pub record Most (before after : List Fact) (gain loss brought taken : ℕ) : Type 0 where
  pub holds : total after + loss ≤ total before + gain
  pub funds : held funds_of after + taken ≤ held funds_of before + brought

pub at_most : (a b : List Fact) (g l f k : ℕ) → Moves a b g l f k → Most a b g l f k
at_most a b g l f k moves = record { holds = omega (arith, moves.holds); funds = omega (arith, moves.funds) }

pub and_most : (a b c : List Fact) (g l f k g' l' f' k' : ℕ) → Most a b g l f k → Most b c g' l' f' k' → Most a c (g + g') (l + l') (f + f') (k + k')
and_most a b c g l f k g' l' f' k' one two = record { holds = omega (arith, one.holds, two.holds); funds = omega (arith, one.funds, two.funds) }

-- what isn't a siafund output claims nothing
pub claimless : (facts : List Fact) (id : List ℕ) → last_counts funds_of (last_deed facts id) ≡ 0 → claim_at facts id ≡ 0
claimless [] id e = refl
claimless (fact ∷ rest) id e = by (is_known rest id) refl (claimless rest id)
  where
    nothing : (n : ℕ) → n ≡ 0 → n * taxes rest / 10000 ≡ 0
    nothing n z =
        let e : n * taxes rest ≡ 0 = ap (λ m. m * taxes rest) z ∙ omega arith in
        ap (λ m. m / 10000) e

    of_same : (b : Bool) → last_counts funds_of (if b then Some fact.deed else None) ≡ 0 → (if b then share fact.deed rest else 0) ≡ 0
    of_same true z = nothing (funds_of fact.deed) z
    of_same false z = refl

    by : (k : Bool) → is_known rest id ≡ k → (last_counts funds_of (last_deed rest id) ≡ 0 → claim_at rest id ≡ 0) → (if k then claim_at rest id else if bytes_eq fact.id id then share fact.deed rest else 0) ≡ 0
    by true k later =
        let there = known-some rest id k in
        let same : option_or (last_deed rest id) (if bytes_eq fact.id id then Some fact.deed else None) ≡ last_deed rest id = rw there.1 refl in
        later (ap (last_counts funds_of) (sym same) ∙ e)
    by false k later =
        let none = unknown rest id k in
        let same : option_or (last_deed rest id) (if bytes_eq fact.id id then Some fact.deed else None) ≡ (if bytes_eq fact.id id then Some fact.deed else None) = rw none refl in
        of_same (bytes_eq fact.id id) (ap (last_counts funds_of) (sym same) ∙ e)

-- a fact without a tax
pub push : (facts : List Fact) (x : Fact) → tax_of x.deed ≡ 0 → Moves facts (facts ++ x ∷ []) (coins_of x.deed + held_by x.deed) (last_counts coins_of (last_deed facts x.id) + last_counts held_by (last_deed facts x.id) + claim_at facts x.id) (funds_of x.deed) (last_counts funds_of (last_deed facts x.id))
push facts x untaxed =
    let coins = held-push coins_of facts x in
    let contracts = held-push held_by facts x in
    let claims = unclaimed-push facts x untaxed in
    record { holds = omega (arith, coins, contracts, claims); funds = held-push funds_of facts x }

-- a fact without a tax about what no fact was about
pub push_new : (facts : List Fact) (x : Fact) → tax_of x.deed ≡ 0 → is_known facts x.id ≡ false → Moves facts (facts ++ x ∷ []) (coins_of x.deed + held_by x.deed) 0 (funds_of x.deed) 0
push_new facts x untaxed new =
    let none = unknown facts x.id new in
    let coins : last_counts coins_of (last_deed facts x.id) ≡ 0 = ap (last_counts coins_of) none in
    let contracts : last_counts held_by (last_deed facts x.id) ≡ 0 = ap (last_counts held_by) none in
    let funds : last_counts funds_of (last_deed facts x.id) ≡ 0 = ap (last_counts funds_of) none in
    exactly facts (facts ++ x ∷ []) _ _ _ _ _ _ _ _ (push facts x untaxed) refl (omega (arith, coins, contracts, claimless facts x.id funds)) refl funds

pub tax-le : (payout : ℕ) → tax payout ≤ payout
unfolding tax shares
tax-le payout = omega arith

-- what a formation does to the sums, apart from the siafunds that are held
record Formation (facts : List Fact) (id : List ℕ) (terms : Terms) : Type 0 where
  holds : total (facts ++ fact id (deed.Formed terms) ∷ []) + shares terms.payout * 10000 ≡ total facts + terms.payout + held funds_of facts * shares terms.payout
  funds : held funds_of (facts ++ fact id (deed.Formed terms) ∷ []) ≡ held funds_of facts

formation : (facts : List Fact) (id : List ℕ) (terms : Terms) → is_known facts id ≡ false → Formation facts id terms
unfolding tax
formation facts id terms new =
    let x = fact id (deed.Formed terms) in
    let none = unknown facts id new in
    let coins_last : last_counts coins_of (last_deed facts id) ≡ 0 = ap (last_counts coins_of) none in
    let contracts_last : last_counts held_by (last_deed facts id) ≡ 0 = ap (last_counts held_by) none in
    let funds_last : last_counts funds_of (last_deed facts id) ≡ 0 = ap (last_counts funds_of) none in
    let coins = held-push coins_of facts x in
    let contracts = held-push held_by facts x in
    let funds = held-push funds_of facts x in
    let claims = unclaimed-more facts x (shares terms.payout) refl refl new in
    let low = tax-le terms.payout in
    record { holds = omega (arith, coins, contracts, claims, coins_last, contracts_last, low); funds = omega (arith, funds, funds_last) }

-- a formation, where all siafunds are held
pub push_formed : (facts : List Fact) (id : List ℕ) (terms : Terms) → is_known facts id ≡ false → held funds_of facts ≡ 10000 → Moves facts (facts ++ fact id (deed.Formed terms) ∷ []) terms.payout 0 0 0
push_formed facts id terms new whole =
    let does = formation facts id terms new in
    let product : held funds_of facts * shares terms.payout ≡ 10000 * shares terms.payout = ap (λ n. n * shares terms.payout) whole in
    record { holds = omega (arith, does.holds, product); funds = omega (arith, does.funds) }

-- a formation, where no more than all siafunds are held
pub push_formed_most : (facts : List Fact) (id : List ℕ) (terms : Terms) → is_known facts id ≡ false → held funds_of facts ≤ 10000 → Most facts (facts ++ fact id (deed.Formed terms) ∷ []) terms.payout 0 0 0
push_formed_most facts id terms new low =
    let does = formation facts id terms new in
    let product : held funds_of facts * shares terms.payout ≤ 10000 * shares terms.payout = mul-le-mul_right (shares terms.payout) low in
    record { holds = omega (arith, does.holds, product); funds = omega (arith, does.funds) }

-- what is spent, settled or revised

pub spend_coin : (facts : List Fact) (id : List ℕ) (output : CoinOutput) (from : ℕ) → last_deed facts id ≡ Some (deed.Coin output from) → Moves facts (facts ++ fact id deed.Spent ∷ []) 0 output.value 0 0
spend_coin facts id output from last =
    let coins : last_counts coins_of (last_deed facts id) ≡ output.value = ap (last_counts coins_of) last in
    let contracts : last_counts held_by (last_deed facts id) ≡ 0 = ap (last_counts held_by) last in
    let funds : last_counts funds_of (last_deed facts id) ≡ 0 = ap (last_counts funds_of) last in
    exactly facts _ _ _ _ _ _ _ _ _ (push facts (fact id deed.Spent) refl) refl (omega (arith, coins, contracts, claimless facts id funds)) refl funds

pub spend_fund : (facts : List Fact) (id : List ℕ) (output : FundOutput) → last_deed facts id ≡ Some (deed.Fund output) → Moves facts (facts ++ fact id deed.Spent ∷ []) 0 (claim_at facts id) 0 output.value
spend_fund facts id output last =
    let coins : last_counts coins_of (last_deed facts id) ≡ 0 = ap (last_counts coins_of) last in
    let contracts : last_counts held_by (last_deed facts id) ≡ 0 = ap (last_counts held_by) last in
    let funds : last_counts funds_of (last_deed facts id) ≡ output.value = ap (last_counts funds_of) last in
    exactly facts _ _ _ _ _ _ _ _ _ (push facts (fact id deed.Spent) refl) refl (omega (arith, coins, contracts)) refl funds

-- the last deed on a running contract
pub running : (found : Option Deed) (terms : Terms) → terms_in found ≡ Some terms → (last_counts coins_of found ≡ 0) × (last_counts held_by found ≡ after_tax terms.payout) × (last_counts funds_of found ≡ 0)
running None terms e = cc
running (Some deed.Block) terms e = cc
running (Some (deed.Coin output from)) terms e = cc
running (Some (deed.Fund output)) terms e = cc
running (Some (deed.Formed t)) terms e = let same : t ≡ terms = cc in (refl, ap (λ (x : Terms). after_tax x.payout) same, refl)
running (Some deed.Spent) terms e = cc
running (Some (deed.Revised t)) terms e = let same : t ≡ terms = cc in (refl, ap (λ (x : Terms). after_tax x.payout) same, refl)
running (Some (deed.Settled valid)) terms e = cc

pub settle : (facts : List Fact) (id : List ℕ) (valid : Bool) (terms : Terms) → terms_at facts id ≡ Some terms → Moves facts (facts ++ record { id = id; deed = deed.Settled valid } ∷ []) 0 (after_tax terms.payout) 0 0
settle facts id valid terms runs =
    let last = running (last_deed facts id) terms runs in
    exactly facts _ _ _ _ _ _ _ _ _ (push facts (record { id = id; deed = deed.Settled valid }) refl) refl (omega (arith, last.0, last.1, claimless facts id last.2)) refl last.2

pub revise : (facts : List Fact) (id : List ℕ) (terms new : Terms) → terms_at facts id ≡ Some terms → new.payout ≡ terms.payout → Moves facts (facts ++ record { id = id; deed = deed.Revised new } ∷ []) 0 0 0 0
revise facts id terms new runs same =
    let last = running (last_deed facts id) terms runs in
    let held_same : after_tax new.payout ≡ after_tax terms.payout = ap after_tax same in
    let moves = push facts (record { id = id; deed = deed.Revised new }) refl in
    record { holds = omega (arith, moves.holds, last.0, last.1, held_same, claimless facts id last.2); funds = omega (arith, moves.funds, last.2) }
