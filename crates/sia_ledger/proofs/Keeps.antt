-- What is known of a list of facts, and what one fact more leaves as it was.
use Rattle.std.proofs.Common.{◌≡◌, ℕ, ◌+◌, Bool, true, false, List, [], ◌∷◌, ◌++◌, map, refl, ap, sym, ◌∙◌, arith, subst}
use Rattle.std.specs.Prelude.{◌||◌, ◌&&◌, not, fold, nat_eq, Option, Some, None, if◌then◌else◌}
use Rattle.std.specs.Option.{option_or}
use Rattle.std.specs.List.{list_any}
use Rattle.std.specs.Cmp.Lexicographic.{same_text}
use Rattle.sia_ledger.specs.declared.fact.Deed.TheVariants as deed
use Rattle.sia_ledger.specs.Facts.{fact, is_known, last_deed, coin_in, fund_in, terms_in, fund_at, terms_at}
use Rattle.sia_ledger.specs.Holdings.{outputs}
use Rattle.sia_ledger.specs.Paying.{Pays, PaysOut, AllDeeds, AllPay}
use Rattle.sia_ledger.specs.State.{State, makes, add, add_all}
use Rattle.sia_ledger.specs.declared.fact.Deed.{Deed}
use Rattle.sia_ledger.specs.declared.fact.Fact.{Fact}
use Rattle.sia_types.specs.declared.coins.CoinOutput.{CoinOutput}
use Rattle.sia_types.specs.declared.funds.FundOutput.{FundOutput}
use Rattle.sia_types.specs.declared.terms.Terms.{Terms}
use Rattle.std.specs.Str.{bytes_eq}
use Rattle.sia_ledger.proofs.Held.{known-some, unknown, last-push, same-sym, same-self}

-- a fact that was made: it is new, and stands last
pub record IsAdded (s : State) (x : Fact) : Type 0 where
  pub facts : (add s x).facts ≡ s.facts ++ x ∷ []
  pub new : is_known s.facts x.id ≡ false
  pub before : s.twice ≡ None

some_none : {X : Type 0} (x : X) → Some x ≡ None → ⊥
some_none x e = cc

or_some : {X : Type 0} (found : Option X) (x : X) → option_or found (Some x) ≡ None → ⊥
or_some None x e = cc
or_some (Some y) x e = cc

pub added : (s : State) (x : Fact) → makes x.deed ≡ true → (add s x).twice ≡ None → IsAdded s x
unfolding add
added s x is none = by (makes x.deed) (is_known s.facts x.id) refl refl is none
  where
    by : (m k : Bool) → makes x.deed ≡ m → is_known s.facts x.id ≡ k → m ≡ true → (if m && k then record s { twice = option_or s.twice (Some x.id) } else record s { facts = s.facts ++ x ∷ [] }).twice ≡ None → IsAdded s x
    by true true p q e none = absurd (or_some s.twice x.id none)
    by true false p q e none = record { facts = rw (p, q) refl; new = q; before = none }
    by false k p q e none = cc

-- nothing was made twice before, where nothing was afterwards
pub back : (s : State) (x : Fact) → (add s x).twice ≡ None → s.twice ≡ None
unfolding add
back s x none = by (makes x.deed && is_known s.facts x.id) none
  where
    by : (b : Bool) → (if b then record s { twice = option_or s.twice (Some x.id) } else record s { facts = s.facts ++ x ∷ [] }).twice ≡ None → s.twice ≡ None
    by true none = absurd (or_some s.twice x.id none)
    by false none = none

pub back_all : (xs : List Fact) (s : State) → (add_all s xs).twice ≡ None → s.twice ≡ None
back_all [] s none = none
back_all (x ∷ xs) s none = back s x (back_all xs (add s x) none)

pub all-push : (P : Deed → Type 0) (facts : List Fact) (x : Fact) → AllDeeds P facts → P x.deed → AllDeeds P (facts ++ x ∷ [])
all-push P [] x all here = (here, tt)
all-push P (first ∷ facts) x all here = (all.0, all-push P facts x all.1 here)

pub all-add : (P : Deed → Type 0) (s : State) (x : Fact) → AllDeeds P s.facts → P x.deed → AllDeeds P (add s x).facts
unfolding add
all-add P s x all here = by (makes x.deed && is_known s.facts x.id)
  where
    by : (b : Bool) → AllDeeds P (if b then record s { twice = option_or s.twice (Some x.id) } else record s { facts = s.facts ++ x ∷ [] }).facts
    by true = all
    by false = all-push P s.facts x all here

last_holds : (P : Deed → Type 0) (facts : List Fact) (id : List ℕ) (what : Deed) → AllDeeds P facts → last_deed facts id ≡ Some what → P what
last_holds P [] id what all e = cc
last_holds P (x ∷ facts) id what all e = by (last_holds P facts id what all.1) (last_deed facts id) refl (bytes_eq x.id id) e
  where
    inside : (w : Deed) → Some w ≡ Some what → P w → P what
    inside w same p = let is : w ≡ what = cc in subst P is p

    by : (last_deed facts id ≡ Some what → P what) → (found : Option Deed) → last_deed facts id ≡ found → (b : Bool) → option_or found (if b then Some x.deed else None) ≡ Some what → P what
    by later (Some w) is b same = later (is ∙ same)
    by later None is true same = inside x.deed same all.0
    by later None is false same = cc

-- what holds of each formation and revision holds of a running contract
pub runs_hold : (P : Deed → Type 0) → ((terms : Terms) → P (deed.Revised terms) → P (deed.Formed terms)) → (facts : List Fact) (id : List ℕ) (terms : Terms) → AllDeeds P facts → terms_at facts id ≡ Some terms → P (deed.Formed terms)
runs_hold P alike facts id terms all runs = by (last_deed facts id) refl runs
  where
    by : (found : Option Deed) → last_deed facts id ≡ found → terms_in found ≡ Some terms → P (deed.Formed terms)
    by None is e = cc
    by (Some deed.Block) is e = cc
    by (Some (deed.Coin output from)) is e = cc
    by (Some (deed.Fund output)) is e = cc
    by (Some (deed.Formed t)) is e = let same : t ≡ terms = cc in subst (λ (u : Terms). P (deed.Formed u)) same (last_holds P facts id (deed.Formed t) all is)
    by (Some deed.Spent) is e = cc
    by (Some (deed.Revised t)) is e = let same : t ≡ terms = cc in subst (λ (u : Terms). P (deed.Formed u)) same (alike t (last_holds P facts id (deed.Revised t) all is))
    by (Some (deed.Settled valid)) is e = cc

pub all_pay-add : (s : State) (x : Fact) → AllPay s.facts → PaysOut x.deed → AllPay (add s x).facts
all_pay-add s x pays here = all-add PaysOut s x pays here

pub runs_pay : (facts : List Fact) (id : List ℕ) (terms : Terms) → AllPay facts → terms_at facts id ≡ Some terms → Pays terms
runs_pay facts id terms pays runs = runs_hold PaysOut (λ t same. same) facts id terms pays runs

-- live siafund outputs stay live, and running contracts stay running with their payouts
abbrev pub KeepsFunds : List Fact → List Fact → Type 0
KeepsFunds before after = (id : List ℕ) (output : FundOutput) → fund_at before id ≡ Some output → fund_at after id ≡ Some output

abbrev pub Runs : List Fact → List ℕ → ℕ → Type 0
Runs facts id payout = (terms : Terms) × (terms_at facts id ≡ Some terms) × (terms.payout ≡ payout)

abbrev pub KeepsTerms : List Fact → List Fact → Type 0
KeepsTerms before after = (id : List ℕ) (payout : ℕ) → Runs before id payout → Runs after id payout

-- another identifier's last deed stays
pub other_last : (facts : List Fact) (x : Fact) (id : List ℕ) → bytes_eq x.id id ≡ false → last_deed (facts ++ x ∷ []) id ≡ last_deed facts id
other_last facts x id other = last-push facts x id ∙ ap (λ b. if b then Some x.deed else last_deed facts id) other

-- what is about another identifier, or about one that isn't a live siafund output, keeps the funds
pub keeps_funds : (facts : List Fact) (x : Fact) → fund_in (last_deed facts x.id) ≡ None → KeepsFunds facts (facts ++ x ∷ [])
keeps_funds facts x none id output live = by (bytes_eq x.id id) refl
  where
    by : (b : Bool) → bytes_eq x.id id ≡ b → fund_at (facts ++ x ∷ []) id ≡ Some output
    by true same =
        let e : x.id ≡ id = same_text x.id id (sym same) in
        let there : fund_in (last_deed facts id) ≡ None = ap (λ i. fund_in (last_deed facts i)) (sym e) ∙ none in
        absurd (some_none output (sym live ∙ there))
    by false other = ap fund_in (other_last facts x id other) ∙ live

pub keeps_terms : (facts : List Fact) (x : Fact) → terms_in (last_deed facts x.id) ≡ None → KeepsTerms facts (facts ++ x ∷ [])
keeps_terms facts x none id payout (terms, runs, pays) = by (bytes_eq x.id id) refl
  where
    by : (b : Bool) → bytes_eq x.id id ≡ b → Runs (facts ++ x ∷ []) id payout
    by true same =
        let e : x.id ≡ id = same_text x.id id (sym same) in
        let there : terms_in (last_deed facts id) ≡ None = ap (λ i. terms_in (last_deed facts i)) (sym e) ∙ none in
        absurd (some_none terms (sym runs ∙ there))
    by false other = (terms, ap terms_in (other_last facts x id other) ∙ runs, pays)

-- a revision keeps the payout
pub keeps_revised : (facts : List Fact) (id : List ℕ) (old new : Terms) → terms_at facts id ≡ Some old → new.payout ≡ old.payout → KeepsTerms facts (facts ++ record { id = id; deed = deed.Revised new } ∷ [])
keeps_revised facts at old new runs_at same_payout id payout (terms, runs, pays) = by (bytes_eq at id) refl
  where
    x : Fact
    x = record { id = at; deed = deed.Revised new }

    by : (b : Bool) → bytes_eq at id ≡ b → Runs (facts ++ x ∷ []) id payout
    by true same =
        let e : at ≡ id = same_text at id (sym same) in
        let old_is : Some old ≡ Some terms = sym runs_at ∙ ap (terms_at facts) e ∙ runs in
        let is : old ≡ terms = cc in
        (new, ap terms_in (last-push facts x id ∙ ap (λ b. if b then Some x.deed else last_deed facts id) same), same_payout ∙ ap (λ (t : Terms). t.payout) is ∙ pays)
    by false other = (terms, ap terms_in (other_last facts x id other) ∙ runs, pays)

-- what was made is new or left out: all is kept
pub keeps_made : (s : State) (x : Fact) → makes x.deed ≡ true → KeepsFunds s.facts (add s x).facts × KeepsTerms s.facts (add s x).facts
unfolding add
keeps_made s x is = by (makes x.deed) (is_known s.facts x.id) refl is
  where
    by : (m k : Bool) → is_known s.facts x.id ≡ k → m ≡ true → KeepsFunds s.facts (if m && k then record s { twice = option_or s.twice (Some x.id) } else record s { facts = s.facts ++ x ∷ [] }).facts × KeepsTerms s.facts (if m && k then record s { twice = option_or s.twice (Some x.id) } else record s { facts = s.facts ++ x ∷ [] }).facts
    by true true q e = (λ id output live. live, λ id payout runs. runs)
    by true false q e = (keeps_funds s.facts x (ap fund_in (unknown s.facts x.id q)), keeps_terms s.facts x (ap terms_in (unknown s.facts x.id q)))
    by false k q e = cc

-- a live siafund output is what its last deed made
pub fund_last : (found : Option Deed) (output : FundOutput) → fund_in found ≡ Some output → found ≡ Some (deed.Fund output)
fund_last None output e = cc
fund_last (Some deed.Block) output e = cc
fund_last (Some (deed.Coin o from)) output e = cc
fund_last (Some (deed.Fund o)) output e = let same : o ≡ output = cc in ap (λ (x : FundOutput). Some (deed.Fund x)) same
fund_last (Some (deed.Formed t)) output e = cc
fund_last (Some deed.Spent) output e = cc
fund_last (Some (deed.Revised t)) output e = cc
fund_last (Some (deed.Settled valid)) output e = cc

pub coin_last : (found : Option Deed) (coin : CoinOutput × ℕ) → coin_in found ≡ Some coin → found ≡ Some (deed.Coin coin.0 coin.1)
coin_last None coin e = cc
coin_last (Some deed.Block) coin e = cc
coin_last (Some (deed.Coin o from)) coin e = let same : (o, from) ≡ coin = cc in ap (λ (x : CoinOutput × ℕ). Some (deed.Coin x.0 x.1)) same
coin_last (Some (deed.Fund o)) coin e = cc
coin_last (Some (deed.Formed t)) coin e = cc
coin_last (Some deed.Spent) coin e = cc
coin_last (Some (deed.Revised t)) coin e = cc
coin_last (Some (deed.Settled valid)) coin e = cc

-- what runs is no fund
pub runs_no_fund : (found : Option Deed) (terms : Terms) → terms_in found ≡ Some terms → fund_in found ≡ None
runs_no_fund None terms e = refl
runs_no_fund (Some deed.Block) terms e = refl
runs_no_fund (Some (deed.Coin output from)) terms e = refl
runs_no_fund (Some (deed.Fund output)) terms e = cc
runs_no_fund (Some (deed.Formed t)) terms e = refl
runs_no_fund (Some deed.Spent) terms e = refl
runs_no_fund (Some (deed.Revised t)) terms e = refl
runs_no_fund (Some (deed.Settled valid)) terms e = refl
