-- Proofs, siafund inputs and missed settlements, and how contracts stand behind them.
use Rattle.std.proofs.Common.{◌≡◌, ℕ, ◌+◌, ◌<◌, ◌≤◌, Bool, true, false, List, [], ◌∷◌, ◌++◌, map, refl, ap, sym, ◌∙◌, arith, subst}
use Rattle.std.specs.Prelude.{◌||◌, ◌&&◌, ◌==◌, not, fold, Option, Some, None, if◌then◌else◌}
use Rattle.std.specs.Option.{option_or}
use Rattle.std.specs.List.{list_any, filter}
use Rattle.std.specs.Ordering.{nat_cmp, is_le}
use Rattle.std.specs.Cmp.Lexicographic.{same_text, slice_cmp}
use Rattle.std.proofs.lemmas.Bool.{eqb-true}
use Rattle.sia_ledger.specs.declared.fact.Deed.TheVariants as deed
use Rattle.sia_ids.specs.Transactions.{claim_id, settlement_id}
use Rattle.sia_ledger.specs.Blocks.{ends_at, ending}
use Rattle.sia_ledger.specs.Chain.{height}
use Rattle.sia_ledger.specs.Courses.{final_in, proves, settlements}
use Rattle.sia_ledger.specs.Effects.{is_paying, settlement_facts, settled_with, settled, with_fund_input}
use Rattle.sia_ledger.specs.Facts.{fact, spent, is_known, last_deed, terms_in, terms_at, standing, claim_at}
use Rattle.sia_ledger.specs.Holdings.{outputs}
use Rattle.sia_ledger.specs.Order.{put_by, ascending_by}
use Rattle.sia_ledger.specs.Paying.{AllPay}
use Rattle.sia_ledger.specs.State.{State, next, add, add_all}
use Rattle.sia_ledger.specs.declared.fact.Deed.{Deed}
use Rattle.sia_ledger.specs.declared.fact.Fact.{Fact}
use Rattle.sia_rules.specs.Shape.{names_twice, fund_parents, proof_parents}
use Rattle.sia_types.specs.declared.coins.CoinOutput.{CoinOutput}
use Rattle.sia_types.specs.declared.file_contracts.StorageProof.{StorageProof}
use Rattle.sia_types.specs.declared.funds.FundInput.{FundInput}
use Rattle.sia_types.specs.declared.terms.Terms.{Terms}
use Rattle.std.specs.Str.{bytes_eq}
use Rattle.sia_ledger.proofs.Held.{unknown, known-some, last-push, same-self, or_false}
use Rattle.sia_ledger.proofs.Keeps.{other_last, Runs, KeepsTerms, keeps_made}
use Rattle.sia_ledger.proofs.Stages.{or_both, LiveFunds, spend_fund_input}
use Rattle.sia_ledger.proofs.Course.{Course, CourseAt, course_other, course_here, running, course_add, coin_begins, course_settlement}

none_some : {X : Type 0} (x : X) → None ≡ Some x → ⊥
none_some x e = cc

keeps_settlement : (from : ℕ) (contract : List ℕ) (valid : Bool) (index : ℕ) (outputs : List CoinOutput) (s : State) → KeepsTerms s.facts (add_all s (settlement_facts from contract valid index outputs)).facts
keeps_settlement from contract valid index [] s = λ id payout runs. runs
keeps_settlement from contract valid index (output ∷ outputs) s = by (is_paying output) (λ t. keeps_settlement from contract valid (index + 1) outputs t)
  where
    x : Fact
    x = fact (settlement_id contract valid index) (deed.Coin output from)

    by : (b : Bool) → ((t : State) → KeepsTerms t.facts (add_all t (settlement_facts from contract valid (index + 1) outputs)).facts) → KeepsTerms s.facts (add_all s (if b then x ∷ settlement_facts from contract valid (index + 1) outputs else settlement_facts from contract valid (index + 1) outputs)).facts
    by true later = λ id payout runs. later (add s x) id payout ((keeps_made s x refl).1 id payout runs)
    by false later = later s

-- Proofs.

-- each proof names a running contract
abbrev pub AllRun : List Fact → List StorageProof → Type 0
AllRun facts [] = Unit {0}
AllRun facts (proof ∷ proofs) = ((payout : ℕ) × Runs facts proof.parent payout) × AllRun facts proofs

pub all_run-kept : (before after : List Fact) (proofs : List StorageProof) → KeepsTerms before after → AllRun before proofs → AllRun after proofs
all_run-kept before after [] keeps run = tt
all_run-kept before after (proof ∷ proofs) keeps ((payout, runs), rest) = ((payout, keeps proof.parent payout runs), all_run-kept before after proofs keeps rest)

all_run-other : (facts : List Fact) (x : Fact) (proofs : List StorageProof) → list_any (bytes_eq x.id) (proof_parents proofs) ≡ false → AllRun facts proofs → AllRun (facts ++ x ∷ []) proofs
all_run-other facts x [] other run = tt
all_run-other facts x (proof ∷ proofs) other ((payout, (terms, runs, is)), rest) =
    let both = or_both (bytes_eq x.id proof.parent) _ other in
    ((payout, (terms, ap terms_in (other_last facts x proof.parent both.0) ∙ runs, is)), all_run-other facts x proofs both.1 rest)

or_assoc : (a b c : Bool) → ((a || b) || c) ≡ (a || (b || c))
or_assoc true b c = refl
or_assoc false b c = refl

pub second : (a b : Bool) → b ≡ true → (a || b) ≡ true
second true b e = refl
second false b e = e

pub course_proofs : (low : ℕ) (past : Bool → ℕ → Bool) (proved : Bool) (id : List ℕ) (maturity : ℕ) (proofs : List StorageProof) (s : State) → AllRun s.facts proofs → names_twice (proof_parents proofs) ≡ false → (proves id proofs ≡ true → (end : ℕ) → low ≤ end → past true end ≡ true) → CourseAt low past proved id s.facts → CourseAt low past (proved || proves id proofs) id (fold (λ t (proof : StorageProof). settled (next t + maturity) true t proof.parent) s proofs).facts
unfolding add
course_proofs low past proved id maturity [] s run once early was = subst (λ p. CourseAt low past p id s.facts) (sym (or_false proved)) was
course_proofs low past proved id maturity (proof ∷ proofs) s ((payout, (terms, runs, is)), rest) once early was =
    let both = or_both (list_any (bytes_eq proof.parent) (proof_parents proofs)) _ once in
    let x = fact proof.parent (deed.Settled true) in
    let s1 : State = record s { facts = s.facts ++ x ∷ [] } in
    let s2 = add_all s1 (settlement_facts (next s + maturity) proof.parent true 0 terms.valid) in
    let same : settled (next s + maturity) true s proof.parent ≡ s2 = ap (settled_with (next s + maturity) true s proof.parent) runs in
    let here = course_settlement low past (proved || bytes_eq proof.parent id) id (next s + maturity) proof.parent true 0 terms.valid s1 (by (bytes_eq proof.parent id) refl) in
    let run2 = all_run-kept s1.facts s2.facts proofs (keeps_settlement (next s + maturity) proof.parent true 0 terms.valid s1) (all_run-other s.facts x proofs both.0 rest) in
    let later = course_proofs low past (proved || bytes_eq proof.parent id) id maturity proofs s2 run2 both.1 (λ e. early (second (bytes_eq proof.parent id) (proves id proofs) e)) here in
    let P : State → Type 0 = λ u. CourseAt low past (proved || (bytes_eq proof.parent id || proves id proofs)) id (fold (λ t (p : StorageProof). settled (next t + maturity) true t p.parent) u proofs).facts in
    let Q : Bool → Type 0 = λ p. CourseAt low past p id (fold (λ t (p : StorageProof). settled (next t + maturity) true t p.parent) s2 proofs).facts in
    subst P (sym same) (subst Q (or_assoc proved (bytes_eq proof.parent id) (proves id proofs)) later)
  where
    by : (b : Bool) → bytes_eq proof.parent id ≡ b → CourseAt low past (proved || bytes_eq proof.parent id) id (s.facts ++ fact proof.parent (deed.Settled true) ∷ [])
    by false other = course_other low past (proved || bytes_eq proof.parent id) id s.facts (fact proof.parent (deed.Settled true)) other (subst (λ p. CourseAt low past p id s.facts) (sym (ap (λ b. proved || b) other ∙ or_false proved)) was)
    by true same =
        let runs_id : terms_at s.facts id ≡ Some terms = ap (terms_at s.facts) (sym (same_text proof.parent id (sym same))) ∙ runs in
        let known = running low past proved (final_in s.facts id) (last_deed s.facts id) terms runs_id was in
        let now : (proved || bytes_eq proof.parent id) ≡ true = ap (λ p. p || bytes_eq proof.parent id) known.2 ∙ same in
        course_here low past (proved || bytes_eq proof.parent id) id s.facts (fact proof.parent (deed.Settled true)) same (now, (terms, with_nothing (final_in s.facts id) ∙ known.0, early (ap (λ b. b || proves id proofs) same) terms.end known.1))
      where
        with_nothing : (final : Option Terms) → option_or None final ≡ final
        with_nothing final = refl

-- Siafund inputs are no contracts.

pub course_fund_inputs : (low : ℕ) (past : Bool → ℕ → Bool) (proved : Bool) (id : List ℕ) (maturity : ℕ) (inputs : List FundInput) (s : State) (n : ℕ) → LiveFunds s.facts inputs n → names_twice (fund_parents inputs) ≡ false → AllPay s.facts → CourseAt low past proved id s.facts → CourseAt low past proved id (fold (with_fund_input maturity) s inputs).facts
unfolding add
course_fund_inputs low past proved id maturity [] s n live once pays was = was
course_fund_inputs low past proved id maturity (input ∷ inputs) s n (output, rest, last, whole, live) once pays was =
    let both = or_both (list_any (bytes_eq input.parent) (fund_parents inputs)) _ once in
    let one = spend_fund_input maturity s input inputs output rest pays last both.0 live in
    course_fund_inputs low past proved id maturity inputs (with_fund_input maturity s input) rest one.live both.1 one.one.pays (claimed (claim_at s.facts input.parent == 0))
  where
    s1 : State
    s1 = record s { facts = s.facts ++ spent input.parent ∷ [] }

    x : Fact
    x = fact (claim_id input.parent) (deed.Coin (record { value = claim_at s.facts input.parent; address = input.claim_address }) (next s + maturity))

    by : (b : Bool) → bytes_eq input.parent id ≡ b → CourseAt low past proved id s1.facts
    by false other = course_other low past proved id s.facts (spent input.parent) other was
    by true same =
        let is : last_deed s.facts id ≡ Some (deed.Fund output) = ap (last_deed s.facts) (sym (same_text input.parent id (sym same))) ∙ last in
        let both : (proved ≡ false) × (final_in s.facts id ≡ None) = subst (Course low past proved (final_in s.facts id)) is was in
        course_here low past proved id s.facts (spent input.parent) same both

    claimed : (b : Bool) → CourseAt low past proved id (add_all s1 (if b then [] else x ∷ [])).facts
    claimed true = by (bytes_eq input.parent id) refl
    claimed false = course_add low past proved id s1 x refl (coin_begins low past proved (record { value = claim_at s.facts input.parent; address = input.claim_address }) (next s + maturity)) (by (bytes_eq input.parent id) refl)

-- Missed settlements.

-- what runs afterwards ran before, with the same terms
abbrev pub KeepsBack : List Fact → List Fact → Type 0
KeepsBack before after = (id : List ℕ) (terms : Terms) → terms_at after id ≡ Some terms → terms_at before id ≡ Some terms

back_push : (facts : List Fact) (x : Fact) → terms_in (Some x.deed) ≡ None → KeepsBack facts (facts ++ x ∷ [])
back_push facts x none id terms now = by (bytes_eq x.id id) refl
  where
    by : (b : Bool) → bytes_eq x.id id ≡ b → terms_at facts id ≡ Some terms
    by false other = sym (ap terms_in (other_last facts x id other)) ∙ now
    by true same = absurd (none_some terms (sym none ∙ sym (ap terms_in (last-push facts x id ∙ ap (λ b. if b then Some x.deed else last_deed facts id) same)) ∙ now))

back_coin : (s : State) (id : List ℕ) (output : CoinOutput) (from : ℕ) → KeepsBack s.facts (add s (fact id (deed.Coin output from))).facts
unfolding add
back_coin s id output from = by (is_known s.facts id)
  where
    x : Fact
    x = fact id (deed.Coin output from)

    by : (k : Bool) → KeepsBack s.facts (if k then record s { twice = option_or s.twice (Some x.id) } else record s { facts = s.facts ++ x ∷ [] }).facts
    by true = λ i terms now. now
    by false = back_push s.facts x refl

back_settlement : (from : ℕ) (contract : List ℕ) (valid : Bool) (index : ℕ) (outputs : List CoinOutput) (s : State) → KeepsBack s.facts (add_all s (settlement_facts from contract valid index outputs)).facts
back_settlement from contract valid index [] s = λ id terms now. now
back_settlement from contract valid index (output ∷ outputs) s = by (is_paying output) (λ t. back_settlement from contract valid (index + 1) outputs t)
  where
    x : Fact
    x = fact (settlement_id contract valid index) (deed.Coin output from)

    by : (b : Bool) → ((t : State) → KeepsBack t.facts (add_all t (settlement_facts from contract valid (index + 1) outputs)).facts) → KeepsBack s.facts (add_all s (if b then x ∷ settlement_facts from contract valid (index + 1) outputs else settlement_facts from contract valid (index + 1) outputs)).facts
    by true later = λ id terms now. back_coin s (settlement_id contract valid index) output from id terms (later (add s x) id terms now)
    by false later = later s

abbrev pub Gone : List Fact → List ℕ → Type 0
Gone facts id = (terms : Terms) → terms_at facts id ≡ Some terms → ⊥

-- what one missed settlement does
pub record Missed (low : ℕ) (past : Bool → ℕ → Bool) (proved : Bool) (id : List ℕ) (s t : State) (contract : List ℕ) : Type 0 where
  course : CourseAt low past proved id t.facts
  back : KeepsBack s.facts t.facts
  gone : bytes_eq contract id ≡ true → Gone t.facts id

miss_one : (low : ℕ) (past : Bool → ℕ → Bool) (proved : Bool) (id : List ℕ) (from : ℕ) (contract : List ℕ) (s : State) → ((terms : Terms) → terms_at s.facts contract ≡ Some terms → past false terms.end ≡ true) → CourseAt low past proved id s.facts → Missed low past proved id s (settled from false s contract) contract
unfolding add
miss_one low past proved id from contract s ends was = by (terms_at s.facts contract) refl
  where
    by : (found : Option Terms) → terms_at s.facts contract ≡ found → Missed low past proved id s (settled_with from false s contract found) contract
    by None is = record {
      course = was;
      back = λ i terms now. now;
      gone = λ same terms now. none_some terms (sym is ∙ ap (terms_at s.facts) (same_text contract id (sym same)) ∙ now);
    }
    by (Some terms) is = record {
      course = course_settlement low past proved id from contract false 0 terms.missed s1 (here (bytes_eq contract id) refl);
      back = λ i t now. back_push s.facts x refl i t (back_settlement from contract false 0 terms.missed s1 i t now);
      gone = λ same t now. none_some t (sym (ap terms_in (last-push s.facts x id ∙ ap (λ b. if b then Some x.deed else last_deed s.facts id) same)) ∙ back_settlement from contract false 0 terms.missed s1 id t now);
    }
      where
        x : Fact
        x = fact contract (deed.Settled false)

        s1 : State
        s1 = record s { facts = s.facts ++ x ∷ [] }

        here : (b : Bool) → bytes_eq contract id ≡ b → CourseAt low past proved id (s.facts ++ x ∷ [])
        here false other = course_other low past proved id s.facts x other was
        here true same =
            let runs : terms_at s.facts id ≡ Some terms = ap (terms_at s.facts) (sym (same_text contract id (sym same))) ∙ is in
            let known = running low past proved (final_in s.facts id) (last_deed s.facts id) terms runs was in
            course_here low past proved id s.facts x same (known.2, (terms, known.0, ends terms is))

-- contracts whose ends have come
abbrev pub AllEnd : (ℕ → Bool) → List Fact → List (List ℕ) → Type 0
AllEnd ended facts [] = Unit {0}
AllEnd ended facts (contract ∷ contracts) = ((terms : Terms) → terms_at facts contract ≡ Some terms → ended terms.end ≡ true) × AllEnd ended facts contracts

all_end-back : (ended : ℕ → Bool) (before after : List Fact) (contracts : List (List ℕ)) → KeepsBack before after → AllEnd ended before contracts → AllEnd ended after contracts
all_end-back ended before after [] back ends = tt
all_end-back ended before after (contract ∷ contracts) back ends = (λ terms now. ends.0 terms (back contract terms now), all_end-back ended before after contracts back ends.1)

pub record AllMissed (low : ℕ) (past : Bool → ℕ → Bool) (proved : Bool) (id : List ℕ) (s t : State) (contracts : List (List ℕ)) : Type 0 where
  pub course : CourseAt low past proved id t.facts
  pub back : KeepsBack s.facts t.facts
  pub gone : list_any (λ contract. bytes_eq contract id) contracts ≡ true → Gone t.facts id

pub miss_all : (low : ℕ) (past : Bool → ℕ → Bool) (proved : Bool) (id : List ℕ) (from : ℕ) (contracts : List (List ℕ)) (s : State) → AllEnd (past false) s.facts contracts → CourseAt low past proved id s.facts → AllMissed low past proved id s (fold (settled from false) s contracts) contracts
miss_all low past proved id from [] s ends was = record { course = was; back = λ i terms now. now; gone = λ e. absurd (false_true e) }
  where
    false_true : false ≡ true → ⊥
    false_true e = cc
miss_all low past proved id from (contract ∷ contracts) s ends was =
    let one = miss_one low past proved id from contract s ends.0 was in
    let rest = miss_all low past proved id from contracts (settled from false s contract) (all_end-back (past false) s.facts (settled from false s contract).facts contracts one.back ends.1) one.course in
    record {
      course = rest.course;
      back = λ i terms now. one.back i terms (rest.back i terms now);
      gone = λ e terms now. by (bytes_eq contract id) refl e one.gone rest.gone terms now (rest.back id terms now);
    }
  where
    by : (b : Bool) → bytes_eq contract id ≡ b → (b || list_any (λ c. bytes_eq c id) contracts) ≡ true → (bytes_eq contract id ≡ true → Gone (settled from false s contract).facts id) → (list_any (λ c. bytes_eq c id) contracts ≡ true → Gone (fold (settled from false) (settled from false s contract) contracts).facts id) → (terms : Terms) → terms_at (fold (settled from false) (settled from false s contract) contracts).facts id ≡ Some terms → terms_at (settled from false s contract).facts id ≡ Some terms → ⊥
    by true same e here later terms now before = here same terms before
    by false other e here later terms now before = later e terms now
