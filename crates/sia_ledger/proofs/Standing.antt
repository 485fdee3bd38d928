-- What is known of a transaction that breaks no rule.
use Rattle.std.proofs.Common.{◌≡◌, ℕ, ◌+◌, ◌-◌, ◌^◌, ◌<◌, ◌≤◌, Bool, true, false, List, [], ◌∷◌, map, refl, ap, sym, ◌∙◌, arith}
use Rattle.std.specs.Prelude.{◌||◌, ◌&&◌, ◌==◌, not, nat_lt, nat_eq, Option, Some, None, if◌then◌else◌, is_some}
use Rattle.std.specs.Option.{option_or, option_map, option_and_then}
use Rattle.std.specs.List.{sum_by, list_any}
use Rattle.std.specs.Cmp.Lexicographic.{same_text}
use Rattle.std.proofs.lemmas.List.Sums.{sum_by-cons}
use Rattle.std.proofs.lemmas.Bool.{eqb-true, ltb-false}
use Rattle.sia_ledger.specs.declared.fact.Deed.TheVariants as deed
use Rattle.sia_rules.specs.declared.fault.BlockFault.TheVariants as block_fault
use Rattle.sia_encoding.specs.Firsts.{broken, first_at}
use Rattle.sia_ledger.specs.Facts.{last_deed, coin_at, fund_at, terms_at}
use Rattle.sia_ledger.specs.Refusal.{transaction_refusal}
use Rattle.sia_ledger.specs.Rules.{no_coin, immature_coin, no_contract, unrevisable, unprovable, no_fund, wrong_conditions, locked, rev_number, rev_window, rev_sum, proof_window, bad_proof, coin_value, fund_value, coins_in, funds_in, unbalanced}
use Rattle.sia_ledger.specs.State.{State, next}
use Rattle.sia_ledger.specs.declared.fact.Fact.{Fact}
use Rattle.sia_rules.specs.Amounts.{after_tax}
use Rattle.sia_rules.specs.FileContracts.{form_window, pays_out, form_sum, revision_sum}
use Rattle.sia_rules.specs.Shape.{names_twice, coin_parents, fund_parents, proof_parents, proof_mix, repeated}
use Rattle.sia_rules.specs.Sums.{coin_sum, coins_out, funds_out}
use Rattle.sia_sign.specs.Faults.{signatures_fault}
use Rattle.sia_sign.specs.Needs.{needs}
use Rattle.sia_types.specs.declared.coins.CoinInput.{CoinInput}
use Rattle.sia_types.specs.declared.coins.CoinOutput.{CoinOutput}
use Rattle.sia_types.specs.declared.file_contracts.FileContract.{FileContract}
use Rattle.sia_types.specs.declared.file_contracts.Revision.{Revision}
use Rattle.sia_types.specs.declared.file_contracts.StorageProof.{StorageProof}
use Rattle.sia_types.specs.declared.funds.FundInput.{FundInput}
use Rattle.sia_types.specs.declared.signature.Signature.{Signature}
use Rattle.sia_types.specs.declared.terms.Terms.{Terms}
use Rattle.sia_types.specs.declared.transaction.Transaction.{Transaction}
use Rattle.sia_ledger.proofs.Keeps.{Runs, fund_last, coin_last}
use Rattle.sia_ledger.proofs.Stages.{LiveCoins, LiveFunds, AllForm, AllRevise}

pub or_none : {X : Type 0} (a b : Option X) → option_or a b ≡ None → (a ≡ None) × (b ≡ None)
or_none None b none = (refl, none)
or_none (Some x) b none = cc

pub unbroken : {F : Type 0} (test : Bool) (fault : F) → broken test fault ≡ None → test ≡ false
unbroken true fault none = cc
unbroken false fault none = refl

pub not-false : (b : Bool) → not b ≡ false → b ≡ true
not-false true e = refl
not-false false e = cc

pub and-true : (a b : Bool) → (a && b) ≡ true → (a ≡ true) × (b ≡ true)
and-true true b e = (refl, e)
and-true false b e = cc

pub or-false : (a b : Bool) → (a || b) ≡ false → (a ≡ false) × (b ≡ false)
or-false true b e = cc
or-false false b e = (refl, e)

pub there : {X : Type 0} (found : Option X) → not (is_some found) ≡ false → (x : X) × (found ≡ Some x)
there None e = cc
there (Some x) e = (x, refl)

pub live_coins : (facts : List Fact) (t i : ℕ) (inputs : List CoinInput) → first_at (no_coin facts t) i inputs ≡ None → LiveCoins facts inputs (sum_by (λ (input : CoinInput). coin_value (coin_at facts input.parent)) inputs)
live_coins facts t i [] none = refl
live_coins facts t i (input ∷ inputs) none =
    let both = or_none (no_coin facts t i input) _ none in
    let found = there (coin_at facts input.parent) (unbroken _ _ both.0) in
    let coin = found.0 in
    let split = sum_by-cons (λ (input : CoinInput). coin_value (coin_at facts input.parent)) input inputs in
    let value : coin_value (coin_at facts input.parent) ≡ coin.0.value = ap coin_value found.1 in
    (coin.0, coin.1, sum_by (λ (input : CoinInput). coin_value (coin_at facts input.parent)) inputs, coin_last (last_deed facts input.parent) coin found.1, omega (arith, split, value), live_coins facts t (i + 1) inputs both.1)

pub live_funds : (facts : List Fact) (t i : ℕ) (inputs : List FundInput) → first_at (no_fund facts t) i inputs ≡ None → LiveFunds facts inputs (sum_by (λ (input : FundInput). fund_value (fund_at facts input.parent)) inputs)
live_funds facts t i [] none = refl
live_funds facts t i (input ∷ inputs) none =
    let both = or_none (no_fund facts t i input) _ none in
    let found = there (fund_at facts input.parent) (unbroken _ _ both.0) in
    let split = sum_by-cons (λ (input : FundInput). fund_value (fund_at facts input.parent)) input inputs in
    let value : fund_value (fund_at facts input.parent) ≡ found.0.value = ap fund_value found.1 in
    (found.0, sum_by (λ (input : FundInput). fund_value (fund_at facts input.parent)) inputs, fund_last (last_deed facts input.parent) found.0 found.1, omega (arith, split, value), live_funds facts t (i + 1) inputs both.1)

pays-from : (payout : ℕ) (valid missed : List CoinOutput) → pays_out payout valid missed ≡ true → (coin_sum valid ≡ after_tax payout) × (coin_sum missed ≡ after_tax payout)
pays-from payout valid missed e =
    let both = and-true (coin_sum valid == after_tax payout) (coin_sum missed == after_tax payout) e in
    (eqb-true (coin_sum valid) (after_tax payout) both.0, eqb-true (coin_sum missed) (after_tax payout) both.1)

all_form : (t i : ℕ) (contracts : List FileContract) → first_at (form_sum t) i contracts ≡ None → AllForm contracts
unfolding form_sum
all_form t i [] none = tt
all_form t i (contract ∷ contracts) none =
    let both = or_none (form_sum t i contract) _ none in
    let pays = pays-from contract.payout contract.valid contract.missed (not-false _ (unbroken _ _ both.0)) in
    (record { valid = pays.0; missed = pays.1 }, all_form t (i + 1) contracts both.1)

all_revise : (facts : List Fact) (t i : ℕ) (revisions : List Revision) → first_at (unrevisable facts t) i revisions ≡ None → first_at (rev_sum facts t) i revisions ≡ None → AllRevise facts revisions
unfolding revision_sum
all_revise facts t i [] none sums = tt
all_revise facts t i (revision ∷ revisions) none sums =
    let both = or_none (unrevisable facts t i revision) _ none in
    let pay = or_none (rev_sum facts t i revision) _ sums in
    let found = there (terms_at facts revision.parent) (unbroken _ _ both.0) in
    let terms = found.0 in
    let test : revision_sum t i terms revision ≡ None = sym (ap (option_and_then (λ (terms : Terms). revision_sum t i terms revision)) found.1) ∙ pay.0 in
    let pays = pays-from terms.payout revision.valid revision.missed (not-false _ (unbroken _ _ test)) in
    ((terms.payout, (terms, found.1, refl), pays.0, pays.1), all_revise facts t (i + 1) revisions both.1 pay.1)

-- a transaction that breaks no rule
pub record Stands (s : State) (tx : Transaction) : Type 0 where
  pub coins : LiveCoins s.facts tx.coin_inputs (coins_in s.facts tx)
  pub coins_once : names_twice (coin_parents tx.coin_inputs) ≡ false
  pub funds : LiveFunds s.facts tx.fund_inputs (funds_in s.facts tx)
  pub funds_once : names_twice (fund_parents tx.fund_inputs) ≡ false
  pub forms : AllForm tx.contracts
  pub revises : AllRevise s.facts tx.revisions
  pub balanced : coins_in s.facts tx ≡ coins_out tx
  pub funds_balanced : funds_in s.facts tx ≡ funds_out tx

balance : (facts : List Fact) (t : ℕ) (tx : Transaction) → unbalanced facts t tx ≡ None → (coins_in facts tx ≡ coins_out tx) × (funds_in facts tx ≡ funds_out tx)
unfolding unbalanced
balance facts t tx none =
    let both = or_none _ _ none in
    (eqb-true (coins_in facts tx) (coins_out tx) (not-false _ (unbroken _ _ both.0)), eqb-true (funds_in facts tx) (funds_out tx) (not-false _ (unbroken _ _ both.1)))

pub once : (t : ℕ) (tx : Transaction) → repeated t tx ≡ None → (names_twice (coin_parents tx.coin_inputs) ≡ false) × (names_twice (fund_parents tx.fund_inputs) ≡ false)
unfolding repeated
once t tx none =
    let first = or-false _ _ (unbroken _ _ none) in
    let second = or-false _ _ first.0 in
    let third = or-false _ _ second.0 in
    (third.0, third.1)

-- the rules that a transaction doesn't break
pub record BreaksNone (s : State) (t : ℕ) (tx : Transaction) : Type 0 where
  pub once : repeated t tx ≡ None
  pub coins : first_at (no_coin s.facts t) 0 tx.coin_inputs ≡ None
  pub rested : first_at (immature_coin (next s) s.facts t) 0 tx.coin_inputs ≡ None
  pub revisable : first_at (unrevisable s.facts t) 0 tx.revisions ≡ None
  pub provable : first_at (unprovable s.facts t) 0 tx.proofs ≡ None
  pub funds : first_at (no_fund s.facts t) 0 tx.fund_inputs ≡ None
  pub windows : first_at (form_window (next s) t) 0 tx.contracts ≡ None
  pub sums : first_at (form_sum t) 0 tx.contracts ≡ None
  pub rev_windows : first_at (rev_window (next s) s.facts t) 0 tx.revisions ≡ None
  pub rev_sums : first_at (rev_sum s.facts t) 0 tx.revisions ≡ None
  pub proof_windows : first_at (proof_window (next s) s.facts t) 0 tx.proofs ≡ None
  pub right : first_at (bad_proof s t) 0 tx.proofs ≡ None
  pub balanced : unbalanced s.facts t tx ≡ None

pub breaks_none : (accepts : List ℕ → List ℕ → List ℕ → Bool) (s : State) (t : ℕ) (tx : Transaction) → transaction_refusal accepts s t tx ≡ None → BreaksNone s t tx
unfolding transaction_refusal
breaks_none accepts s t tx none =
    let b7 = or_none (proof_mix t tx) _ none in
    let b8 = or_none (repeated t tx) _ b7.1 in
    let b9 = or_none (first_at (no_coin s.facts t) 0 tx.coin_inputs) _ b8.1 in
    let b10 = or_none (first_at (immature_coin (next s) s.facts t) 0 tx.coin_inputs) _ b9.1 in
    let b11 = or_none (first_at (unrevisable s.facts t) 0 tx.revisions) _ b10.1 in
    let b11b = or_none (first_at (unprovable s.facts t) 0 tx.proofs) _ b11.1 in
    let b12 = or_none (first_at (no_fund s.facts t) 0 tx.fund_inputs) _ b11b.1 in
    let b13 = or_none (first_at (wrong_conditions s.facts t) 0 (needs tx)) _ b12.1 in
    let b14 = or_none (first_at (locked (next s) t) 0 (needs tx)) _ b13.1 in
    let b15 = or_none (first_at (form_window (next s) t) 0 tx.contracts) _ b14.1 in
    let b16 = or_none (first_at (form_sum t) 0 tx.contracts) _ b15.1 in
    let b17 = or_none (first_at (rev_number s.facts t) 0 tx.revisions) _ b16.1 in
    let b18 = or_none (first_at (rev_window (next s) s.facts t) 0 tx.revisions) _ b17.1 in
    let b19 = or_none (first_at (rev_sum s.facts t) 0 tx.revisions) _ b18.1 in
    let b20 = or_none (first_at (proof_window (next s) s.facts t) 0 tx.proofs) _ b19.1 in
    let b21 = or_none (first_at (bad_proof s t) 0 tx.proofs) _ b20.1 in
    let b22 = or_none (unbalanced s.facts t tx) (option_map (block_fault.Signature t) (signatures_fault accepts (next s) tx)) b21.1 in
    record {
      once = b8.0;
      coins = b9.0;
      rested = b10.0;
      revisable = b11.0;
      provable = b11b.0;
      funds = b12.0;
      windows = b15.0;
      sums = b16.0;
      rev_windows = b18.0;
      rev_sums = b19.0;
      proof_windows = b20.0;
      right = b21.0;
      balanced = b22.0;
    }

pub transaction_stands : (accepts : List ℕ → List ℕ → List ℕ → Bool) (s : State) (t : ℕ) (tx : Transaction) → transaction_refusal accepts s t tx ≡ None → Stands s tx
unfolding coins_in funds_in
transaction_stands accepts s t tx none =
    let rules = breaks_none accepts s t tx none in
    let twice = once t tx rules.once in
    let sums = balance s.facts t tx rules.balanced in
    record {
      coins = live_coins s.facts t 0 tx.coin_inputs rules.coins;
      coins_once = twice.0;
      funds = live_funds s.facts t 0 tx.fund_inputs rules.funds;
      funds_once = twice.1;
      forms = all_form t 0 tx.contracts rules.sums;
      revises = all_revise s.facts t 0 tx.revisions rules.revisable rules.rev_sums;
      balanced = sums.0;
      funds_balanced = sums.1;
    }
