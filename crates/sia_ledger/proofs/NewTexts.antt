-- The texts by which contracts are settled and claims are made are new.
use Rattle.std.proofs.Common.{◌≡◌, ℕ, ◌+◌, ◌-◌, ◌^◌, ◌<◌, ◌≤◌, Bool, true, false, List, [], ◌∷◌, ◌++◌, length, map, refl, ap, sym, ◌∙◌, subst, arith, inl, inr}
use Rattle.std.specs.Prelude.{◌||◌, ◌&&◌, ◌==◌, ◌⊎◌, ◌≢◌, fold, not, Option, Some, None, if◌then◌else◌}
use Rattle.std.specs.Option.{option_or}
use Rattle.std.specs.List.{All, list_any}
use Rattle.std.specs.Str.{bytes_eq}
use Rattle.std.proofs.lemmas.List.Elements.{All-head, All-tail}
use Rattle.sia_blake.proofs.Bytes.{blake2b_256-length}
use Rattle.sia_types.specs.declared.coins.CoinInput.{CoinInput}
use Rattle.sia_types.specs.declared.coins.CoinOutput.{CoinOutput}
use Rattle.sia_types.specs.declared.file_contracts.Revision.{Revision}
use Rattle.sia_types.specs.declared.file_contracts.StorageProof.{StorageProof}
use Rattle.sia_types.specs.declared.funds.FundInput.{FundInput}
use Rattle.sia_types.specs.declared.funds.FundOutput.{FundOutput}
use Rattle.sia_types.specs.declared.terms.Terms.{Terms}
use Rattle.sia_types.specs.FileContracts.{revision as revision_codec, storage_proof}
use Rattle.sia_types.specs.Funds.{fund_input}
use Rattle.sia_ids.specs.Transactions.{claim_id, claim_text, settlement_text}
use Rattle.sia_rules.specs.Shape.{names_twice, coin_parents, fund_parents}
use Rattle.sia_ledger.specs.declared.fact.Fact.{Fact}
use Rattle.sia_ledger.specs.declared.fact.Deed.{Deed}
use Rattle.sia_ledger.specs.declared.fact.Deed.TheVariants as deed
use Rattle.sia_ledger.specs.Facts.{fact, spent, is_known, last_deed, terms_in, terms_at, claim_at}
use Rattle.sia_ledger.specs.State.{State, next, makes, add, add_all}
use Rattle.sia_ledger.specs.Effects.{revised, revised_with, with_revision, settlement_facts, settled_with, settled, with_proof, claim_facts, with_fund_input}
use Rattle.sia_ledger.specs.Paying.{AllPay}
use Rattle.sia_ledger.specs.Texts.{IsNumbered, IsProofText, IsClaimText, IsMissedText}
use Rattle.sia_ledger.proofs.Always.{each, make, make_settlement, settle_one, claim_one, spend_all}
use Rattle.sia_ledger.proofs.Consumed.{Consumes, Claimed, Settling, settlement_differ}
use Rattle.sia_ledger.proofs.Covering.{IsCovered, IsFresh, IsNew, IsShort, covered_as, covered_name, covered_make, covered_settlement, last_known}
use Rattle.sia_ledger.proofs.Held.{last-push, same-self, or_false}
use Rattle.sia_ledger.proofs.Keeps.{back_all, runs_hold}
use Rattle.sia_ledger.proofs.Lengths.{length-claim_text, length-settlement_text}
use Rattle.sia_ledger.proofs.Stages.{LiveCoins, LiveFunds, live_coins-after, or_both, spend_fund_input}
use Rattle.sia_ledger.proofs.Told.{Told, OfUse, Later, is_over, some_over, later_same, later_stays, told_later, not_used, runs_on}

-- what is told of a text, and what is known of it besides
abbrev pub IsTold : List ℕ → List Fact → (List ℕ → Type 0) → List ℕ → Type 0
IsTold tip facts Side text = Told tip facts text × Side text

-- what is known besides is known of claims and settlements
pub record Besides (Text Side : List ℕ → Type 0) : Type 0 where
  pub inside : (text : List ℕ) → Side text → Text text
  pub besides : (text : List ℕ) (ids : List (List ℕ)) → Consumes text ids → length text ≤ 57 → Text text → Side text

pub covered_later : (Text Side : List ℕ → Type 0) (tip : List ℕ) (before after : List Fact) (s : State) → Later before after → IsCovered Text (IsTold tip before Side) s → IsCovered Text (IsTold tip after Side) s
covered_later Text Side tip before after s later was = covered_as Text (IsTold tip before Side) (IsTold tip after Side) s (λ none text kind. (told_later tip before after text later kind.0, kind.1)) was

-- what runs is known
pub runs_known : (facts : List Fact) (id : List ℕ) (terms : Terms) → terms_at facts id ≡ Some terms → is_known facts id ≡ true
runs_known facts id terms runs = by (last_deed facts id) refl runs
  where
    by : (found : Option Deed) → last_deed facts id ≡ found → terms_in found ≡ Some terms → is_known facts id ≡ true
    by None is e = cc
    by (Some what) is e = last_known facts id what is

at_same : (facts : List Fact) (id : List ℕ) (what : Deed) → last_deed (facts ++ fact id what ∷ []) id ≡ Some what
at_same facts id what = last-push facts (fact id what) id ∙ ap (λ b. if b then Some what else last_deed facts id) (same-self id)

or_left : (a b : Bool) → a ≡ true → (a || b) ≡ true
or_left true b e = refl
or_left false b e = cc

-- Siacoin inputs and revisions make nothing.

pub covered_inputs : (Text T : List ℕ → Type 0) (inputs : List CoinInput) (s : State) (n : ℕ) → LiveCoins s.facts inputs n → names_twice (coin_parents inputs) ≡ false → IsCovered Text T s → IsCovered Text T (add_all s (map (λ (input : CoinInput). spent input.parent) inputs))
unfolding add
covered_inputs Text T [] s n live once was = was
covered_inputs Text T (input ∷ inputs) s n (output, from, rest, last, whole, live) once was =
    let both = or_both (list_any (bytes_eq input.parent) (coin_parents inputs)) _ once in
    let s1 : State = record s { facts = s.facts ++ spent input.parent ∷ [] } in
    covered_inputs Text T inputs s1 rest (live_coins-after s.facts input.parent inputs rest both.0 live) both.1 (covered_name Text T s (spent input.parent) (last_known s.facts input.parent (deed.Coin output from) last) tt was)

-- each part of a revision is of its type
abbrev pub RevisionFits : Revision → Type 0
RevisionFits revision = revision_codec.fits (2 ^ 64 - 1) revision

pub covered_revisions : (Text T : List ℕ → Type 0) (revisions : List Revision) (s : State) → All RevisionFits revisions → IsCovered Text T s → IsCovered Text T (fold with_revision s revisions)
unfolding add
covered_revisions Text T [] s fits was = was
covered_revisions Text T (revision ∷ revisions) s fits was = covered_revisions Text T revisions (with_revision s revision) (All-tail RevisionFits revision revisions fits) (by (terms_at s.facts revision.parent) refl (All-head RevisionFits revision revisions fits))
  where
    by : (found : Option Terms) → terms_at s.facts revision.parent ≡ found → RevisionFits revision → IsCovered Text T (revised_with s revision found)
    by None is sized = was
    by (Some terms) is sized = covered_name Text T s (fact revision.parent (deed.Revised (revised terms revision))) (runs_known s.facts revision.parent terms is) (sized.1.1.1.1.1.1.1.0.0.1, sized.1.1.1.1.1.1.1.1.0.0.1) was

-- Settlements.

outputs_short : (valid : Bool) (terms : Terms) → IsShort (deed.Formed terms) → length (if valid then terms.valid else terms.missed) < 2 ^ 64
outputs_short true terms short = short.0
outputs_short false terms short = short.1

pub covered_settled : (Text Side : List ℕ → Type 0) (tip : List ℕ) (from : ℕ) (valid : Bool) (s : State) (contract : List ℕ) → Besides Text Side → ((terms : Terms) → terms_at s.facts contract ≡ Some terms → s.twice ≡ None → length contract ≡ 32) → ((i : ℕ) → Text (settlement_text contract valid i)) → IsCovered Text (IsTold tip s.facts Side) s
    → IsCovered Text (IsTold tip (settled from valid s contract).facts Side) (settled from valid s contract)
unfolding add
covered_settled Text Side tip from valid s contract aside sized own was = by (terms_at s.facts contract) refl (settle_one (Later s.facts) (later_stays s.facts) from valid s contract (later_same s.facts))
  where
    T : List ℕ → Type 0
    T text = IsTold tip s.facts Side text

    w : ℕ → List ℕ
    w i = settlement_text contract valid i

    by : (found : Option Terms) → terms_at s.facts contract ≡ found → Later s.facts (settled_with from valid s contract (terms_at s.facts contract)).facts → IsCovered Text (IsTold tip (settled_with from valid s contract found).facts Side) (settled_with from valid s contract found)
    by None is later = was
    by (Some terms) is later =
        let x = fact contract (deed.Settled valid) in
        let outputs = if valid then terms.valid else terms.missed in
        let s1 : State = record s { facts = s.facts ++ x ∷ [] } in
        let s2 = add_all s1 (settlement_facts from contract valid 0 outputs) in
        let short = outputs_short valid terms (runs_hold IsShort (λ t same. same) s.facts contract terms was.short is) in
        let fresh : some_over s.facts (contract ∷ []) ≡ false = or_false (is_over (last_deed s.facts contract)) ∙ runs_on (last_deed s.facts contract) terms is in
        let named : IsCovered Text (λ text. T text ⊎ IsNumbered (settlement_text contract valid) 0 text) s1 = covered_as Text T (λ text. T text ⊎ IsNumbered (settlement_text contract valid) 0 text) s1 (λ none text kind. inl kind) (covered_name Text T s x (runs_known s.facts contract terms is) tt was) in
        let made = covered_settlement Text T from contract valid (length outputs) 0 outputs s1 (omega arith) (λ none. are (length outputs) short (sized terms is none) fresh) named in
        let over1 : is_over (last_deed s1.facts contract) ≡ true = ap is_over (at_same s.facts contract (deed.Settled valid)) in
        let later2 = make_settlement (Later s1.facts) (later_stays s1.facts) from contract valid 0 outputs s1 (later_same s1.facts) in
        let over2 : some_over s2.facts (contract ∷ []) ≡ true = or_left (is_over (last_deed s2.facts contract)) false (later2.over contract over1) in
        let moved : Later s.facts s2.facts = subst (λ (found : Option Terms). Later s.facts (settled_with from valid s contract found).facts) is later in
        covered_as Text _ (IsTold tip s2.facts Side) s2 (λ none text kind. tell s2.facts (length outputs) moved over2 (sized terms is (back_all (settlement_facts from contract valid 0 outputs) s1 none)) text kind) made
      where
        are : (end : ℕ) → end < 2 ^ 64 → length contract ≡ 32 → some_over s.facts (contract ∷ []) ≡ false → IsNew Text T (settlement_text contract valid) end
        are end short long fresh = record {
          own = λ i low. own i;
          inside = λ text kind. aside.inside text kind.1;
          new = λ text kind i low same. not_used tip s.facts text (contract ∷ []) kind.0 (Settling contract valid i long same refl) fresh;
          differ = λ i j low below. settlement_differ contract valid i j low (omega (arith, below, short));
        }

        tell : (after : List Fact) (end : ℕ) → Later s.facts after → some_over after (contract ∷ []) ≡ true → length contract ≡ 32 → (text : List ℕ) → T text ⊎ IsNumbered (settlement_text contract valid) end text → IsTold tip after Side text
        tell after end later over long text (inl kind) = (told_later tip s.facts after text later kind.0, kind.1)
        tell after end later over long text (inr (i, low, e)) =
            let uses : Consumes text (contract ∷ []) = Settling contract valid i long e refl in
            let size : length text ≡ 57 = ap length e ∙ length-settlement_text contract valid i long in
            (OfUse (contract ∷ []) uses over, aside.besides text (contract ∷ []) uses (omega (arith, size)) (subst Text (sym e) (own i)))

-- each part of a storage proof is of its type
abbrev pub ProofFits : StorageProof → Type 0
ProofFits proof = storage_proof.fits (2 ^ 64 - 1) proof

pub covered_proofs : (Text Side : List ℕ → Type 0) (tip : List ℕ) (maturity : ℕ) (proofs : List StorageProof) (s : State) → Besides Text Side → All ProofFits proofs → ((text : List ℕ) → IsProofText proofs text → Text text) → IsCovered Text (IsTold tip s.facts Side) s
    → IsCovered Text (IsTold tip (fold (with_proof maturity) s proofs).facts Side) (fold (with_proof maturity) s proofs)
covered_proofs Text Side tip maturity [] s aside fits own was = was
covered_proofs Text Side tip maturity (proof ∷ proofs) s aside fits own was =
    let here = All-head ProofFits proof proofs fits in
    covered_proofs Text Side tip maturity proofs (with_proof maturity s proof) aside (All-tail ProofFits proof proofs fits) (λ text kind. own text (inr kind))
    (covered_settled Text Side tip (next s + maturity) true s proof.parent aside (λ terms runs none. here.0.0) (λ i. own (settlement_text proof.parent true i) (inl (i, refl))) was)

-- Claims.

-- each part of a siafund input is of its type
abbrev pub FundInputFits : FundInput → Type 0
FundInputFits input = fund_input.fits (2 ^ 64 - 1) input

covered_fund_input : (Text Side : List ℕ → Type 0) (tip : List ℕ) (maturity : ℕ) (s : State) (input : FundInput) (output : FundOutput) → Besides Text Side → length input.parent ≡ 32 → Text (claim_text input.parent) → last_deed s.facts input.parent ≡ Some (deed.Fund output) → IsCovered Text (IsTold tip s.facts Side) s
    → IsCovered Text (IsTold tip (with_fund_input maturity s input).facts Side) (with_fund_input maturity s input)
unfolding add claim_id
covered_fund_input Text Side tip maturity s input output aside long own last was = by (claim_at s.facts input.parent == 0) refl (claim_one (Later s.facts) (later_stays s.facts) maturity s input (later_same s.facts))
  where
    T : List ℕ → Type 0
    T text = IsTold tip s.facts Side text

    s1 : State
    s1 = record s { facts = s.facts ++ spent input.parent ∷ [] }

    x : Fact
    x = fact (claim_id input.parent) (deed.Coin (record { value = claim_at s.facts input.parent; address = input.claim_address }) (next s + maturity))

    named : IsCovered Text T s1
    named = covered_name Text T s (spent input.parent) (last_known s.facts input.parent (deed.Fund output) last) tt was

    fresh : some_over s.facts (input.parent ∷ []) ≡ false
    fresh = or_false (is_over (last_deed s.facts input.parent)) ∙ ap is_over last

    over1 : is_over (last_deed s1.facts input.parent) ≡ true
    over1 = ap is_over (at_same s.facts input.parent deed.Spent)

    are : IsFresh Text T (claim_text input.parent)
    are = record {
      own = own;
      inside = λ text kind. aside.inside text kind.1;
      new = λ text kind same. not_used tip s.facts text (input.parent ∷ []) kind.0 (Claimed input.parent long same refl) fresh;
    }

    tell : (facts : List Fact) → Later s.facts facts → is_over (last_deed facts input.parent) ≡ true → (text : List ℕ) → T text ⊎ (text ≡ claim_text input.parent) → IsTold tip facts Side text
    tell facts later over text (inl kind) = (told_later tip s.facts facts text later kind.0, kind.1)
    tell facts later over text (inr e) =
        let uses : Consumes text (input.parent ∷ []) = Claimed input.parent long e refl in
        let size : length text ≡ 48 = ap length e ∙ length-claim_text input.parent long in
        (OfUse (input.parent ∷ []) uses (or_left (is_over (last_deed facts input.parent)) false over), aside.besides text (input.parent ∷ []) uses (omega (arith, size)) (subst Text (sym e) own))

    by : (b : Bool) → (claim_at s.facts input.parent == 0) ≡ b → Later s.facts (add_all s1 (if claim_at s.facts input.parent == 0 then [] else x ∷ [])).facts → IsCovered Text (IsTold tip (add_all s1 (if b then [] else x ∷ [])).facts Side) (add_all s1 (if b then [] else x ∷ []))
    by true is later = covered_later Text Side tip s.facts s1.facts s1 (subst (λ (b : Bool). Later s.facts (add_all s1 (if b then [] else x ∷ [])).facts) is later) named
    by false is later =
        let moved : Later s.facts (add s1 x).facts = subst (λ (b : Bool). Later s.facts (add_all s1 (if b then [] else x ∷ [])).facts) is later in
        let made = covered_make Text T s1 x (claim_text input.parent) refl tt refl (λ none. are) named in
        covered_as Text (λ text. T text ⊎ (text ≡ claim_text input.parent)) (IsTold tip (add s1 x).facts Side) (add s1 x) (λ none text kind. tell (add s1 x).facts moved (later1.over input.parent over1) text kind) made
      where
        later1 : Later s1.facts (add s1 x).facts
        later1 = make (Later s1.facts) (later_stays s1.facts) s1 x refl (later_same s1.facts)

pub covered_fund_inputs : (Text Side : List ℕ → Type 0) (tip : List ℕ) (maturity : ℕ) (inputs : List FundInput) (s : State) (n : ℕ) → Besides Text Side → All FundInputFits inputs → ((text : List ℕ) → IsClaimText inputs text → Text text) → LiveFunds s.facts inputs n → names_twice (fund_parents inputs) ≡ false → AllPay s.facts → IsCovered Text (IsTold tip s.facts Side) s
    → IsCovered Text (IsTold tip (fold (with_fund_input maturity) s inputs).facts Side) (fold (with_fund_input maturity) s inputs)
covered_fund_inputs Text Side tip maturity [] s n aside fits own live once pays was = was
covered_fund_inputs Text Side tip maturity (input ∷ inputs) s n aside fits own (output, rest, last, whole, live) once pays was =
    let both = or_both (list_any (bytes_eq input.parent) (fund_parents inputs)) _ once in
    let here = spend_fund_input maturity s input inputs output rest pays last both.0 live in
    let sized = All-head FundInputFits input inputs fits in
    covered_fund_inputs Text Side tip maturity inputs (with_fund_input maturity s input) rest aside (All-tail FundInputFits input inputs fits) (λ text kind. own text (inr kind)) here.live both.1 here.one.pays
    (covered_fund_input Text Side tip maturity s input output aside sized.0.0 (own (claim_text input.parent) (inl refl)) last was)

-- What is spent is over.

spent_over : (maturity : ℕ) (s : State) (input : FundInput) → is_over (last_deed (with_fund_input maturity s input).facts input.parent) ≡ true
unfolding add
spent_over maturity s input = by (claim_at s.facts input.parent == 0)
  where
    s1 : State
    s1 = record s { facts = s.facts ++ spent input.parent ∷ [] }

    x : Fact
    x = fact (claim_id input.parent) (deed.Coin (record { value = claim_at s.facts input.parent; address = input.claim_address }) (next s + maturity))

    over1 : is_over (last_deed s1.facts input.parent) ≡ true
    over1 = ap is_over (at_same s.facts input.parent deed.Spent)

    by : (b : Bool) → is_over (last_deed (add_all s1 (if b then [] else x ∷ [])).facts input.parent) ≡ true
    by true = over1
    by false = let later = make (Later s1.facts) (later_stays s1.facts) s1 x refl (later_same s1.facts) in later.over input.parent over1

pub over_coins : (input : CoinInput) (inputs : List CoinInput) (s : State) → some_over (add_all s (map (λ (i : CoinInput). spent i.parent) (input ∷ inputs))).facts (coin_parents (input ∷ inputs)) ≡ true
unfolding add
over_coins input inputs s =
    let s1 : State = record s { facts = s.facts ++ spent input.parent ∷ [] } in
    let later = spend_all (Later s1.facts) (later_stays s1.facts) inputs s1 (later_same s1.facts) in
    or_left (is_over (last_deed (add_all s1 (map (λ (i : CoinInput). spent i.parent) inputs)).facts input.parent)) (some_over (add_all s1 (map (λ (i : CoinInput). spent i.parent) inputs)).facts (coin_parents inputs)) (later.over input.parent (ap is_over (at_same s.facts input.parent deed.Spent)))

pub over_funds : (maturity : ℕ) (input : FundInput) (inputs : List FundInput) (s : State) → some_over (fold (with_fund_input maturity) s (input ∷ inputs)).facts (fund_parents (input ∷ inputs)) ≡ true
over_funds maturity input inputs s =
    let s1 = with_fund_input maturity s input in
    let later = each (Later s1.facts) (with_fund_input maturity) (claim_one (Later s1.facts) (later_stays s1.facts) maturity) inputs s1 (later_same s1.facts) in
    or_left (is_over (last_deed (fold (with_fund_input maturity) s1 inputs).facts input.parent)) (some_over (fold (with_fund_input maturity) s1 inputs).facts (fund_parents inputs)) (later.over input.parent (spent_over maturity s input))

-- contracts that end without a storage proof
pub covered_missed : (Text Side : List ℕ → Type 0) (tip : List ℕ) (from : ℕ) (contracts : List (List ℕ)) (s : State) → Besides Text Side → ((text : List ℕ) → IsMissedText contracts text → Text text) → IsCovered Text (IsTold tip s.facts Side) s
    → IsCovered Text (IsTold tip (fold (settled from false) s contracts).facts Side) (fold (settled from false) s contracts)
covered_missed Text Side tip from [] s aside own was = was
covered_missed Text Side tip from (contract ∷ contracts) s aside own was =
    covered_missed Text Side tip from contracts (settled from false s contract) aside (λ text kind. own text (inr kind))
    (covered_settled Text Side tip from false s contract aside sized (λ i. own (settlement_text contract false i) (inl (i, refl))) was)
  where
    sized : (terms : Terms) → terms_at s.facts contract ≡ Some terms → s.twice ≡ None → length contract ≡ 32
    sized terms runs none =
        let made = was.known none contract (runs_known s.facts contract terms runs) in
        sym (ap length made.makes) ∙ blake2b_256-length made.text
