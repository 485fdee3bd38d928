-- The texts by which a transaction that breaks no rule makes identifiers are new.
use Rattle.std.proofs.Common.{◌≡◌, ℕ, ◌+◌, ◌-◌, ◌^◌, ◌<◌, ◌≤◌, Bool, true, false, List, [], ◌∷◌, ◌++◌, length, map, refl, ap, sym, ◌∙◌, subst, arith, inl, inr}
use Rattle.std.specs.Prelude.{◌||◌, ◌==◌, ◌⊎◌, ◌≢◌, codes, fold, not, Option, Some, None}
use Rattle.std.specs.List.{All, list_any, sum_by}
use Rattle.std.proofs.lemmas.Bool.{eqb-false}
use Rattle.std.proofs.lemmas.List.Folds.{list_any-append}
use Rattle.std.proofs.lemmas.List.Sums.{sum_by-cons}
use Rattle.sia_types.specs.declared.coins.CoinInput.{CoinInput}
use Rattle.sia_types.specs.declared.coins.CoinOutput.{CoinOutput}
use Rattle.sia_types.specs.declared.file_contracts.FileContract.{FileContract}
use Rattle.sia_types.specs.declared.funds.FundInput.{FundInput}
use Rattle.sia_types.specs.declared.funds.FundOutput.{FundOutput}
use Rattle.sia_types.specs.declared.transaction.Transaction.{Transaction}
use Rattle.sia_types.specs.FileContracts.{file_contract}
use Rattle.sia_ids.specs.Transactions.{coin_id, fund_id, contract_id, made_text}
use Rattle.sia_rules.specs.Shape.{coin_parents, fund_parents}
use Rattle.sia_rules.specs.Sums.{coin_sum, fund_sum, payouts_of, fees_of, coins_out, funds_out}
use Rattle.sia_rules.specs.Values.{bad_value, pays_nothing}
use Rattle.sia_ledger.specs.declared.fact.Fact.{Fact}
use Rattle.sia_ledger.specs.declared.fact.Deed.TheVariants as deed
use Rattle.sia_ledger.specs.Bounded.{IsMost}
use Rattle.sia_ledger.specs.Facts.{fact, spent, last_deed}
use Rattle.sia_ledger.specs.State.{State, next, add_all, numbered}
use Rattle.sia_ledger.specs.Effects.{formed, with_revision, with_coin_inputs, with_coin_outputs, with_contracts, with_revisions, with_proofs, with_fund_input, with_fund_inputs, with_fund_outputs, after_transaction}
use Rattle.sia_ledger.specs.Refusal.{transaction_refusal}
use Rattle.sia_ledger.specs.Rules.{coins_in, funds_in}
use Rattle.sia_ledger.specs.Texts.{IsNumbered, IsTransactionText}
use Rattle.sia_ledger.proofs.Always.{make_each, revise_one, each, spend_all, claim_one}
use Rattle.sia_ledger.proofs.Conserved.{PassesAll, spent_coins, made_coins, formed_contracts, revised_contracts, proved_contracts, spent_funds, transaction_passes}
use Rattle.sia_ledger.proofs.Consumed.{Consumes, Made, Fits, IsMade, inputs_of, made_differ, made_label, coin_contract, coin_fund, contract_fund}
use Rattle.sia_ledger.proofs.Covering.{IsCovered, IsNew, IsShort, covered_as, covered_numbered}
use Rattle.sia_ledger.proofs.Lengths.{length-made_text}
use Rattle.sia_ledger.proofs.NewTexts.{IsTold, Besides, RevisionFits, ProofFits, FundInputFits, covered_later, covered_inputs, covered_revisions, covered_proofs, covered_fund_inputs, over_coins, over_funds}
use Rattle.sia_ledger.proofs.Stages.{LiveCoins, LiveFunds}
use Rattle.sia_ledger.proofs.Standing.{unbroken, or-false}
use Rattle.sia_ledger.proofs.Told.{Told, OfUse, Later, is_over, some_over, some_over-later, later_same, later_then, later_stays, told_later, not_used}

-- what is known besides is known of each text that consumes something
pub record Aside (Text Side : List ℕ → Type 0) : Type 0 where
  pub inside : (text : List ℕ) → Side text → Text text
  pub apart : (text : List ℕ) (ids : List (List ℕ)) → Consumes text ids → Text text → Side text

-- Inputs that are live aren't over.

fresh_coins : (facts : List Fact) (inputs : List CoinInput) (n : ℕ) → LiveCoins facts inputs n → some_over facts (coin_parents inputs) ≡ false
fresh_coins facts [] n live = refl
fresh_coins facts (input ∷ inputs) n (output, from, rest, last, whole, live) = ap (λ b. b || some_over facts (coin_parents inputs)) (ap is_over last) ∙ fresh_coins facts inputs rest live

fresh_funds : (facts : List Fact) (inputs : List FundInput) (n : ℕ) → LiveFunds facts inputs n → some_over facts (fund_parents inputs) ≡ false
fresh_funds facts [] n live = refl
fresh_funds facts (input ∷ inputs) n (output, rest, last, whole, live) = ap (λ b. b || some_over facts (fund_parents inputs)) (ap is_over last) ∙ fresh_funds facts inputs rest live

split_over : (facts : List Fact) (tx : Transaction) → some_over facts (inputs_of tx) ≡ (some_over facts (coin_parents tx.coin_inputs) || some_over facts (fund_parents tx.fund_inputs))
split_over facts tx = list_any-append (λ (id : List ℕ). is_over (last_deed facts id)) (coin_parents tx.coin_inputs) (fund_parents tx.fund_inputs)

or_left : (a b : Bool) → a ≡ true → (a || b) ≡ true
or_left true b e = refl
or_left false b e = cc

or_right : (a b : Bool) → b ≡ true → (a || b) ≡ true
or_right true b e = refl
or_right false b e = e

-- What makes something of value spends something.

some_coins : (facts : List Fact) (inputs : List CoinInput) (n : ℕ) → LiveCoins facts inputs n → 0 < n → (input : CoinInput) × ((rest : List CoinInput) × (inputs ≡ input ∷ rest))
some_coins facts [] n live some = absurd (none n live some)
  where
    none : (n : ℕ) → n ≡ 0 → 0 < n → ⊥
    none n e some = omega (arith, e, some)
some_coins facts (input ∷ inputs) n live some = (input, (inputs, refl))

some_funds : (facts : List Fact) (inputs : List FundInput) (n : ℕ) → LiveFunds facts inputs n → 0 < n → (input : FundInput) × ((rest : List FundInput) × (inputs ≡ input ∷ rest))
some_funds facts [] n live some = absurd (none n live some)
  where
    none : (n : ℕ) → n ≡ 0 → 0 < n → ⊥
    none n e some = omega (arith, e, some)
some_funds facts (input ∷ inputs) n live some = (input, (inputs, refl))

none_below : (i : ℕ) → i < 0 → ⊥
none_below i low = omega (arith, low)

outputs_pay : (outputs : List CoinOutput) (i : ℕ) → i < length outputs → pays_nothing outputs ≡ false → 0 < coin_sum outputs
outputs_pay [] i low none = absurd (none_below i low)
outputs_pay (output ∷ outputs) i low none =
    let differ : output.value ≢ 0 = eqb-false output.value 0 (or-false (output.value == 0) _ none).0 in
    omega (arith, sum_by-cons (λ (o : CoinOutput). o.value) output outputs, differ)

contracts_pay : (contracts : List FileContract) (i : ℕ) → i < length contracts → list_any (λ (contract : FileContract). contract.payout == 0) contracts ≡ false → 0 < sum_by (λ (contract : FileContract). contract.payout) contracts
contracts_pay [] i low none = absurd (none_below i low)
contracts_pay (contract ∷ contracts) i low none =
    let differ : contract.payout ≢ 0 = eqb-false contract.payout 0 (or-false (contract.payout == 0) _ none).0 in
    omega (arith, sum_by-cons (λ (c : FileContract). c.payout) contract contracts, differ)

funds_hold : (funds : List FundOutput) (i : ℕ) → i < length funds → list_any (λ (output : FundOutput). (output.value == 0) || not (output.claim_start == 0)) funds ≡ false → 0 < fund_sum funds
funds_hold [] i low none = absurd (none_below i low)
funds_hold (fund ∷ funds) i low none =
    let differ : fund.value ≢ 0 = eqb-false fund.value 0 (or-false (fund.value == 0) _ (or-false ((fund.value == 0) || not (fund.claim_start == 0)) _ none).0).0 in
    omega (arith, sum_by-cons (λ (f : FundOutput). f.value) fund funds, differ)

-- a transaction whose values are right
record HasValue (tx : Transaction) : Type 0 where
  coins : pays_nothing tx.coin_outputs ≡ false
  contracts : list_any (λ (contract : FileContract). contract.payout == 0) tx.contracts ≡ false
  funds : list_any (λ (output : FundOutput). (output.value == 0) || not (output.claim_start == 0)) tx.fund_outputs ≡ false

has_value : (t : ℕ) (tx : Transaction) → bad_value t tx ≡ None → HasValue tx
unfolding bad_value
has_value t tx none =
    let first = or-false _ (list_any (λ (fee : ℕ). fee == 0) tx.fees) (unbroken _ _ none) in
    let second = or-false _ (list_any (λ (output : FundOutput). (output.value == 0) || not (output.claim_start == 0)) tx.fund_outputs) first.0 in
    let third = or-false (pays_nothing tx.coin_outputs) (list_any (λ (contract : FileContract). contract.payout == 0) tx.contracts) second.0 in
    record { coins = third.0; contracts = third.1; funds = second.1 }

-- the siacoin inputs of a transaction that pays siacoins are over
coins_over : (tx : Transaction) (s : State) (n : ℕ) → LiveCoins s.facts tx.coin_inputs n → 0 < n → some_over (spent_coins tx s).facts (inputs_of tx) ≡ true
unfolding with_coin_inputs
coins_over tx s n live some =
    let found = some_coins s.facts tx.coin_inputs n live some in
    let P : List CoinInput → Type 0 = λ inputs. some_over (add_all s (map (λ (i : CoinInput). spent i.parent) inputs)).facts (coin_parents inputs) ≡ true in
    let over : P tx.coin_inputs = subst P (sym found.1.1) (over_coins found.0 found.1.0 s) in
    split_over (spent_coins tx s).facts tx ∙ or_left _ _ over

-- the siafund inputs of a transaction that pays siafunds are over
funds_over : (maturity : ℕ) (tx : Transaction) (s : State) (n : ℕ) → LiveFunds s.facts tx.fund_inputs n → 0 < n → some_over (with_fund_inputs maturity tx s).facts (inputs_of tx) ≡ true
unfolding with_fund_inputs
funds_over maturity tx s n live some =
    let found = some_funds s.facts tx.fund_inputs n live some in
    let P : List FundInput → Type 0 = λ inputs. some_over (fold (with_fund_input maturity) s inputs).facts (fund_parents inputs) ≡ true in
    let over : P tx.fund_inputs = subst P (sym found.1.1) (over_funds maturity found.0 found.1.0 s) in
    split_over (fold (with_fund_input maturity) s tx.fund_inputs).facts tx ∙ or_right _ _ over

-- each part of a contract is of its type
abbrev ContractFits : FileContract → Type 0
ContractFits contract = file_contract.fits (2 ^ 64 - 1) contract

contract_short : (contract : FileContract) → ContractFits contract → IsShort (deed.Formed (formed contract))
contract_short contract fits = (fits.1.1.1.1.1.0.0.1, fits.1.1.1.1.1.1.0.0.1)

-- of anything nothing is asked
abbrev pub Anything : {X : Type 0} → X → Type 0
Anything x = Unit {0}

pub short_by : (n m k : ℕ) → n < m → m < k → n < k
short_by n m k low fits = omega (arith, low, fits)

-- What is known besides, and that it is none of the texts of the transaction's siafund outputs.
abbrev Later-funds : Transaction → (List ℕ → Type 0) → List ℕ → Type 0
Later-funds tx Side text = Side text × ((i : ℕ) → text ≢ made_text (codes "siafund output") tx i)

too_long : (n : ℕ) → n ≤ 57 → 96 ≤ n → ⊥
too_long n low high = omega (arith, low, high)

beside_funds : (Text Side : List ℕ → Type 0) (tx : Transaction) → Aside Text Side → Besides Text (Later-funds tx Side)
beside_funds Text Side tx aside = record {
  inside = λ text kind. aside.inside text kind.0;
  besides = λ text ids uses low own. (aside.apart text ids uses own, λ i same. too_long (length text) low (long text i same));
}
  where
    long : (text : List ℕ) (i : ℕ) → text ≡ made_text (codes "siafund output") tx i → 96 ≤ length text
    long text i same = let e : length text ≡ length (made_text (codes "siafund output") tx i) = ap length same in let l = length-made_text (codes "siafund output") tx i (made_label (codes "siafund output") (inr (inr refl))) in omega (arith, e, l)

pub covered_transaction : (accepts : List ℕ → List ℕ → List ℕ → Bool) (maturity : ℕ) (s : State) (t : ℕ) (tx : Transaction) (fees sum : ℕ) (Text Side : List ℕ → Type 0) (tip : List ℕ) → IsMost s fees sum → transaction_refusal accepts s t tx ≡ None → bad_value t tx ≡ None → Fits tx → Aside Text Side → ((text : List ℕ) → IsTransactionText tx text → Text text)
    → IsCovered Text (IsTold tip s.facts Side) s → IsCovered Text (IsTold tip (after_transaction maturity s tx).facts Side) (after_transaction maturity s tx)
unfolding after_transaction with_coin_inputs with_coin_outputs with_contracts with_revisions with_proofs with_fund_inputs with_fund_outputs coin_id contract_id fund_id coins_out funds_out
covered_transaction accepts maturity s t tx fees sum Text Side tip most accepted values fits aside own was = of_fields (transaction_passes accepts maturity s t tx fees sum most accepted) (has_value t tx values)
  where
    T0 : List ℕ → Type 0
    T0 text = IsTold tip s.facts Side text

    T1 : List ℕ → Type 0
    T1 text = T0 text ⊎ IsNumbered (made_text (codes "siacoin output") tx) (length tx.coin_outputs) text

    T2 : List ℕ → Type 0
    T2 text = T1 text ⊎ IsNumbered (made_text (codes "file contract") tx) (length tx.contracts) text

    T6 : List ℕ → Type 0
    T6 text = IsTold tip (spent_funds maturity tx s).facts (Later-funds tx Side) text

    own_told : (what : List ℕ) (i : ℕ) (facts : List Fact) (text : List ℕ) → IsMade what → text ≡ made_text what tx i → some_over facts (inputs_of tx) ≡ true → Text text → IsTold tip facts Side text
    own_told what i facts text kind is over mine =
        let uses : Consumes text (inputs_of tx) = Made what tx i kind fits is refl in
        (OfUse (inputs_of tx) uses over, aside.apart text (inputs_of tx) uses mine)

    new_coins : some_over s.facts (inputs_of tx) ≡ false → IsNew Text T0 (made_text (codes "siacoin output") tx) (length tx.coin_outputs)
    new_coins fresh = record {
      own = λ i low. own (made_text (codes "siacoin output") tx i) (inl (i, low, refl));
      inside = λ text kind. aside.inside text kind.1;
      new = λ text kind i low same. not_used tip s.facts text (inputs_of tx) kind.0 (Made (codes "siacoin output") tx i (inl refl) fits same refl) fresh;
      differ = λ i j low below. made_differ (codes "siacoin output") tx (inl refl) i j low (short_by j (length tx.coin_outputs) (2 ^ 64) below fits.1.0.0.1);
    }

    new_contracts : some_over s.facts (inputs_of tx) ≡ false → IsNew Text T1 (made_text (codes "file contract") tx) (length tx.contracts)
    new_contracts fresh = record {
      own = λ i low. own (made_text (codes "file contract") tx i) (inr (inl (i, low, refl)));
      inside = inside;
      new = new;
      differ = λ i j low below. made_differ (codes "file contract") tx (inr (inl refl)) i j low (short_by j (length tx.contracts) (2 ^ 64) below fits.1.1.0.0.1);
    }
      where
        inside : (text : List ℕ) → T1 text → Text text
        inside text (inl kind) = aside.inside text kind.1
        inside text (inr kind) = own text (inl kind)

        new : (text : List ℕ) → T1 text → (i : ℕ) → i < length tx.contracts → text ≢ made_text (codes "file contract") tx i
        new text (inl kind) i low same = not_used tip s.facts text (inputs_of tx) kind.0 (Made (codes "file contract") tx i (inr (inl refl)) fits same refl) fresh
        new text (inr (j, below, is)) i low same = coin_contract tx tx j i (sym is ∙ same)

    tell_made : (facts : List Fact) → some_over s.facts (inputs_of tx) ≡ false → Later s.facts facts → ((i : ℕ) → i < length tx.coin_outputs → some_over facts (inputs_of tx) ≡ true) → ((i : ℕ) → i < length tx.contracts → some_over facts (inputs_of tx) ≡ true) → (text : List ℕ) → T2 text → IsTold tip facts (Later-funds tx Side) text
    tell_made facts fresh later coins contracts text (inl (inl kind)) = (told_later tip s.facts facts text later kind.0, (kind.1, λ i same. not_used tip s.facts text (inputs_of tx) kind.0 (Made (codes "siafund output") tx i (inr (inr refl)) fits same refl) fresh))
    tell_made facts fresh later coins contracts text (inl (inr (j, low, is))) =
        let told = own_told (codes "siacoin output") j facts text (inl refl) is (coins j low) (own text (inl (j, low, is))) in
        (told.0, (told.1, λ i same. coin_fund tx tx j i (sym is ∙ same)))
    tell_made facts fresh later coins contracts text (inr (j, low, is)) =
        let told = own_told (codes "file contract") j facts text (inr (inl refl)) is (contracts j low) (own text (inr (inl (j, low, is)))) in
        (told.0, (told.1, λ i same. contract_fund tx tx j i (sym is ∙ same)))

    new_funds : IsNew Text T6 (made_text (codes "siafund output") tx) (length tx.fund_outputs)
    new_funds = record {
      own = λ i low. own (made_text (codes "siafund output") tx i) (inr (inr (inr (inr (i, low, refl)))));
      inside = λ text kind. aside.inside text kind.1.0;
      new = λ text kind i low same. kind.1.1 i same;
      differ = λ i j low below. made_differ (codes "siafund output") tx (inr (inr refl)) i j low (short_by j (length tx.fund_outputs) (2 ^ 64) below fits.1.1.1.1.1.1.0.0.1);
    }

    tell_funds : (facts : List Fact) → Later (spent_funds maturity tx s).facts facts → ((i : ℕ) → i < length tx.fund_outputs → some_over facts (inputs_of tx) ≡ true) → (text : List ℕ) → T6 text ⊎ IsNumbered (made_text (codes "siafund output") tx) (length tx.fund_outputs) text → IsTold tip facts Side text
    tell_funds facts later funds text (inl kind) = (told_later tip (spent_funds maturity tx s).facts facts text later kind.0, kind.1.0)
    tell_funds facts later funds text (inr (j, low, is)) = own_told (codes "siafund output") j facts text (inr (inr refl)) is (funds j low) (own text (inr (inr (inr (inr (j, low, is))))))

    of_fields : PassesAll maturity s tx → HasValue tx → IsCovered Text (IsTold tip (after_transaction maturity s tx).facts Side) (after_transaction maturity s tx)
    of_fields all value =
        let s1 = spent_coins tx s in
        let s2 = made_coins tx s in
        let s3 = formed_contracts tx s in
        let s4 = revised_contracts tx s in
        let s5 = proved_contracts maturity tx s in
        let s6 = spent_funds maturity tx s in
        let s7 = after_transaction maturity s tx in
        let beside = beside_funds Text Side tx aside in
        let coin_fact : ℕ → CoinOutput → Fact = λ i output. fact (coin_id tx i) (deed.Coin output (next s1)) in
        let contract_fact : ℕ → FileContract → Fact = λ i contract. fact (contract_id tx i) (deed.Formed (formed contract)) in
        let fund_fact : ℕ → FundOutput → Fact = λ i output. fact (fund_id tx i) (deed.Fund output) in
        let fresh : some_over s.facts (inputs_of tx) ≡ false = split_over s.facts tx ∙ ap (λ b. b || some_over s.facts (fund_parents tx.fund_inputs)) (fresh_coins s.facts tx.coin_inputs (coins_in s.facts tx) all.stands.coins) ∙ fresh_funds s.facts tx.fund_inputs (funds_in s.facts tx) all.stands.funds in
        let balanced : coins_in s.facts tx ≡ coin_sum tx.coin_outputs + payouts_of tx + fees_of tx = all.stands.balanced in
        let funds_balanced : funds_in s.facts tx ≡ fund_sum tx.fund_outputs = all.stands.funds_balanced in
        let c1 : IsCovered Text T0 s1 = covered_inputs Text T0 tx.coin_inputs s (coins_in s.facts tx) all.stands.coins all.stands.coins_once was in
        let c2 : IsCovered Text T1 s2 = covered_numbered Text T0 (made_text (codes "siacoin output") tx) coin_fact Anything (length tx.coin_outputs) (λ i x. refl) (λ i x u. tt) (λ i x. refl) 0 tx.coin_outputs s1 (λ k d low. tt) (omega arith) (λ none. new_coins fresh)
        (covered_as Text T0 (λ text. T0 text ⊎ IsNumbered (made_text (codes "siacoin output") tx) 0 text) s1 (λ none text kind. inl kind) c1) in
        let c3 : IsCovered Text T2 s3 = covered_numbered Text T1 (made_text (codes "file contract") tx) contract_fact ContractFits (length tx.contracts) (λ i x. refl) (λ i x sized. contract_short x sized) (λ i x. refl) 0 tx.contracts s2 fits.1.1.0.1 (omega arith) (λ none. new_contracts fresh)
        (covered_as Text T1 (λ text. T1 text ⊎ IsNumbered (made_text (codes "file contract") tx) 0 text) s2 (λ none text kind. inl kind) c2) in
        let l1 : Later s.facts s1.facts = spend_all (Later s.facts) (later_stays s.facts) tx.coin_inputs s (later_same s.facts) in
        let l12 : Later s1.facts s2.facts = make_each (Later s1.facts) (later_stays s1.facts) coin_fact (λ i output. refl) 0 tx.coin_outputs s1 (later_same s1.facts) in
        let l13 : Later s1.facts s3.facts = make_each (Later s1.facts) (later_stays s1.facts) contract_fact (λ i contract. refl) 0 tx.contracts s2 l12 in
        let l3 : Later s.facts s3.facts = later_then s.facts s1.facts s3.facts l1 l13 in
        let coins : (i : ℕ) → i < length tx.coin_outputs → some_over s3.facts (inputs_of tx) ≡ true = λ i low.
        let paid = outputs_pay tx.coin_outputs i low value.coins in
        let some : 0 < coins_in s.facts tx = omega (arith, balanced, paid) in
        some_over-later s1.facts s3.facts l13 (inputs_of tx) (coins_over tx s (coins_in s.facts tx) all.stands.coins some) in
        let contracts : (i : ℕ) → i < length tx.contracts → some_over s3.facts (inputs_of tx) ≡ true = λ i low.
        let paid = contracts_pay tx.contracts i low value.contracts in
        let some : 0 < coins_in s.facts tx = omega (arith, balanced, paid) in
        some_over-later s1.facts s3.facts l13 (inputs_of tx) (coins_over tx s (coins_in s.facts tx) all.stands.coins some) in
        let told3 : IsCovered Text (IsTold tip s3.facts (Later-funds tx Side)) s3 = covered_as Text T2 (IsTold tip s3.facts (Later-funds tx Side)) s3 (λ none text kind. tell_made s3.facts fresh l3 coins contracts text kind) c3 in
        let c4 : IsCovered Text (IsTold tip s3.facts (Later-funds tx Side)) s4 = covered_revisions Text (IsTold tip s3.facts (Later-funds tx Side)) tx.revisions s3 fits.1.1.1.0.1 told3 in
        let l34 : Later s3.facts s4.facts = each (Later s3.facts) with_revision (revise_one (Later s3.facts) (later_stays s3.facts)) tx.revisions s3 (later_same s3.facts) in
        let told4 = covered_later Text (Later-funds tx Side) tip s3.facts s4.facts s4 l34 c4 in
        let c5 : IsCovered Text (IsTold tip s5.facts (Later-funds tx Side)) s5 = covered_proofs Text (Later-funds tx Side) tip maturity tx.proofs s4 beside fits.1.1.1.1.0.1 (λ text kind. own text (inr (inr (inl kind)))) told4 in
        let c6 : IsCovered Text T6 s6 = covered_fund_inputs Text (Later-funds tx Side) tip maturity tx.fund_inputs s5 (funds_in s.facts tx) beside fits.1.1.1.1.1.0.1 (λ text kind. own text (inr (inr (inr (inl kind))))) all.live all.stands.funds_once all.proofs.pays c5 in
        let c7 = covered_numbered Text T6 (made_text (codes "siafund output") tx) fund_fact Anything (length tx.fund_outputs) (λ i x. refl) (λ i x u. tt) (λ i x. refl) 0 tx.fund_outputs s6 (λ k d low. tt) (omega arith) (λ none. new_funds)
        (covered_as Text T6 (λ text. T6 text ⊎ IsNumbered (made_text (codes "siafund output") tx) 0 text) s6 (λ none text kind. inl kind) c6) in
        let l67 : Later s6.facts s7.facts = make_each (Later s6.facts) (later_stays s6.facts) fund_fact (λ i output. refl) 0 tx.fund_outputs s6 (later_same s6.facts) in
        let funds : (i : ℕ) → i < length tx.fund_outputs → some_over s7.facts (inputs_of tx) ≡ true = λ i low.
        let held = funds_hold tx.fund_outputs i low value.funds in
        let some : 0 < funds_in s.facts tx = omega (arith, funds_balanced, held) in
        some_over-later s6.facts s7.facts l67 (inputs_of tx) (funds_over maturity tx s5 (funds_in s.facts tx) all.live some) in
        covered_as Text (λ text. T6 text ⊎ IsNumbered (made_text (codes "siafund output") tx) (length tx.fund_outputs) text) (IsTold tip s7.facts Side) s7 (λ none text kind. tell_funds s7.facts l67 funds text kind) c7
