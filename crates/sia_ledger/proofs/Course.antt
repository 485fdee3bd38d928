-- How a contract stands with the proofs that blocks hold for it.
use Rattle.std.proofs.Common.{◌≡◌, ℕ, ◌+◌, ◌<◌, ◌≤◌, Bool, true, false, List, [], ◌∷◌, ◌++◌, length, map, take, refl, ap, sym, ◌∙◌, arith, subst}
use Rattle.std.specs.Prelude.{◌||◌, ◌&&◌, ◌==◌, not, fold, nat_lt, Option, Some, None, if◌then◌else◌}
use Rattle.std.specs.Option.{option_or, option_and_then}
use Rattle.std.specs.List.{list_any, sum_by}
use Rattle.std.specs.Cmp.Lexicographic.{same_text}
use Rattle.std.proofs.lemmas.Bool.{ltb-true, eqb-true}
use Rattle.sia_ledger.specs.declared.fact.Deed.TheVariants as deed
use Rattle.sia_rules.specs.declared.fault.BlockFault.TheVariants as block_fault
use Rattle.sia_encoding.specs.Firsts.{first_at}
use Rattle.sia_ids.specs.Transactions.{settlement_id}
use Rattle.sia_ledger.specs.Blocks.{facts}
use Rattle.sia_ledger.specs.Chain.{height}
use Rattle.sia_ledger.specs.Courses.{final_in, is_proved}
use Rattle.sia_ledger.specs.Effects.{formed, revised, is_paying, settlement_facts, settled, revised_with, with_revision}
use Rattle.sia_ledger.specs.Facts.{fact, spent, is_known, last_deed, terms_in, terms_at}
use Rattle.sia_ledger.specs.Holdings.{held, outputs}
use Rattle.sia_ledger.specs.State.{State, makes, add, add_all, numbered}
use Rattle.sia_ledger.specs.declared.fact.Deed.{Deed}
use Rattle.sia_ledger.specs.declared.fact.Fact.{Fact}
use Rattle.sia_rules.specs.FileContracts.{form_window}
use Rattle.sia_rules.specs.Shape.{names_twice, coin_parents}
use Rattle.sia_types.specs.declared.block.Block.{Block}
use Rattle.sia_types.specs.declared.coins.CoinInput.{CoinInput}
use Rattle.sia_types.specs.declared.coins.CoinOutput.{CoinOutput}
use Rattle.sia_types.specs.declared.file_contracts.FileContract.{FileContract}
use Rattle.sia_types.specs.declared.file_contracts.Revision.{Revision}
use Rattle.sia_types.specs.declared.funds.FundOutput.{FundOutput}
use Rattle.sia_types.specs.declared.terms.Terms.{Terms}
use Rattle.std.specs.Str.{bytes_eq}
use Rattle.sia_ledger.proofs.Held.{unknown, last-push, same-self}
use Rattle.sia_ledger.proofs.Keeps.{other_last, Runs, KeepsTerms, keeps_made}
use Rattle.sia_ledger.proofs.Stages.{or_both, LiveCoins, LiveFunds, live_coins-after}
use Rattle.sia_ledger.proofs.Standing.{or_none, unbroken, not-false}

or_assoc : {X : Type 0} (a b c : Option X) → option_or (option_or a b) c ≡ option_or a (option_or b c)
or_assoc None b c = refl
or_assoc (Some x) b c = refl

or_nothing : {X : Type 0} (a : Option X) → option_or None a ≡ option_or a None
or_nothing None = refl
or_nothing (Some x) = refl

final-push : (facts : List Fact) (x : Fact) (id : List ℕ) → final_in (facts ++ x ∷ []) id ≡ option_or (if bytes_eq x.id id then terms_in (Some x.deed) else None) (final_in facts id)
final-push [] x id = or_nothing (if bytes_eq x.id id then terms_in (Some x.deed) else None)
final-push (f ∷ rest) x id = ap (λ found. option_or found (if bytes_eq f.id id then terms_in (Some f.deed) else None)) (final-push rest x id) ∙ or_assoc (if bytes_eq x.id id then terms_in (Some x.deed) else None) (final_in rest id) (if bytes_eq f.id id then terms_in (Some f.deed) else None)

-- What has come to pass of a settled contract with an end: up to the end of a valid one a block holds a storage proof for it, and
-- the end of a missed one has come.
abbrev pub past_of : List ℕ → List Block → Bool → ℕ → Bool
past_of contract blocks true end = is_proved contract (take end blocks)
past_of contract blocks false end = not (nat_lt (length blocks) end)

-- What a last deed says, where proofs were held or not: a running contract ends at `low` or later and has no proof; a
-- settled one is valid exactly where it has a proof, and what has to has come to `past`.
abbrev pub Course : ℕ → (Bool → ℕ → Bool) → Bool → Option Terms → Option Deed → Type 0
Course low past proved final (Some (deed.Formed terms)) = (final ≡ Some terms) × (low ≤ terms.end) × (proved ≡ false)
Course low past proved final (Some (deed.Revised terms)) = (final ≡ Some terms) × (low ≤ terms.end) × (proved ≡ false)
Course low past proved final (Some (deed.Settled valid)) = (proved ≡ valid) × ((terms : Terms) × (final ≡ Some terms) × (past valid terms.end ≡ true))
Course low past proved final other = (proved ≡ false) × (final ≡ None)

abbrev pub CourseAt : ℕ → (Bool → ℕ → Bool) → Bool → List ℕ → List Fact → Type 0
CourseAt low past proved id facts = Course low past proved (final_in facts id) (last_deed facts id)

pub course_other : (low : ℕ) (past : Bool → ℕ → Bool) (proved : Bool) (id : List ℕ) (facts : List Fact) (x : Fact) → bytes_eq x.id id ≡ false → CourseAt low past proved id facts → CourseAt low past proved id (facts ++ x ∷ [])
course_other low past proved id facts x other was =
    let final : final_in (facts ++ x ∷ []) id ≡ final_in facts id = final-push facts x id ∙ ap (λ b. option_or (if b then terms_in (Some x.deed) else None) (final_in facts id)) other in
    rw (final, other_last facts x id other) was

pub course_here : (low : ℕ) (past : Bool → ℕ → Bool) (proved : Bool) (id : List ℕ) (facts : List Fact) (x : Fact) → bytes_eq x.id id ≡ true → Course low past proved (option_or (terms_in (Some x.deed)) (final_in facts id)) (Some x.deed) → CourseAt low past proved id (facts ++ x ∷ [])
course_here low past proved id facts x same here =
    let final : final_in (facts ++ x ∷ []) id ≡ option_or (terms_in (Some x.deed)) (final_in facts id) = final-push facts x id ∙ ap (λ b. option_or (if b then terms_in (Some x.deed) else None) (final_in facts id)) same in
    let last : last_deed (facts ++ x ∷ []) id ≡ Some x.deed = last-push facts x id ∙ ap (λ b. if b then Some x.deed else last_deed facts id) same in
    rw (final, last) here

-- what is known of a contract that runs
pub running : (low : ℕ) (past : Bool → ℕ → Bool) (proved : Bool) (final : Option Terms) (found : Option Deed) (terms : Terms) → terms_in found ≡ Some terms → Course low past proved final found → (final ≡ Some terms) × (low ≤ terms.end) × (proved ≡ false)
running low past proved final None terms e course = cc
running low past proved final (Some deed.Block) terms e course = cc
running low past proved final (Some (deed.Coin output from)) terms e course = cc
running low past proved final (Some (deed.Fund output)) terms e course = cc
running low past proved final (Some (deed.Formed t)) terms e course = let same : t ≡ terms = cc in (course.0 ∙ e, subst (λ (x : Terms). low ≤ x.end) same course.1, course.2)
running low past proved final (Some deed.Spent) terms e course = cc
running low past proved final (Some (deed.Revised t)) terms e course = let same : t ≡ terms = cc in (course.0 ∙ e, subst (λ (x : Terms). low ≤ x.end) same course.1, course.2)
running low past proved final (Some (deed.Settled valid)) terms e course = cc

-- what a new fact has to give
abbrev Begins : ℕ → (Bool → ℕ → Bool) → Bool → Deed → Type 0
Begins low past proved what = (final : Option Terms) → final ≡ None → proved ≡ false → Course low past proved (option_or (terms_in (Some what)) final) (Some what)

pub course_add : (low : ℕ) (past : Bool → ℕ → Bool) (proved : Bool) (id : List ℕ) (s : State) (x : Fact) → makes x.deed ≡ true → Begins low past proved x.deed → CourseAt low past proved id s.facts → CourseAt low past proved id (add s x).facts
unfolding add
course_add low past proved id s x is begins was = by (makes x.deed) (is_known s.facts x.id) refl is
  where
    here : is_known s.facts x.id ≡ false → (b : Bool) → bytes_eq x.id id ≡ b → CourseAt low past proved id (s.facts ++ x ∷ [])
    here new false other = course_other low past proved id s.facts x other was
    here new true same =
        let none : last_deed s.facts id ≡ None = unknown s.facts id (ap (is_known s.facts) (sym (same_text x.id id (sym same))) ∙ new) in
        let both : (proved ≡ false) × (final_in s.facts id ≡ None) = subst (Course low past proved (final_in s.facts id)) none was in
        course_here low past proved id s.facts x same (begins (final_in s.facts id) both.1 both.0)

    by : (m k : Bool) → is_known s.facts x.id ≡ k → m ≡ true → CourseAt low past proved id (if m && k then record s { twice = option_or s.twice (Some x.id) } else record s { facts = s.facts ++ x ∷ [] }).facts
    by true true known e = was
    by true false new e = here new (bytes_eq x.id id) refl
    by false k known e = cc

pub coin_begins : (low : ℕ) (past : Bool → ℕ → Bool) (proved : Bool) (output : CoinOutput) (from : ℕ) → Begins low past proved (deed.Coin output from)
coin_begins low past proved output from = λ final none unproved. (unproved, none)

fund_begins : (low : ℕ) (past : Bool → ℕ → Bool) (proved : Bool) (output : FundOutput) → Begins low past proved (deed.Fund output)
fund_begins low past proved output = λ final none unproved. (unproved, none)

pub course_coins : (low : ℕ) (past : Bool → ℕ → Bool) (proved : Bool) (id : List ℕ) (mk : ℕ → List ℕ) (from : ℕ) (index : ℕ) (outputs : List CoinOutput) (s : State) → CourseAt low past proved id s.facts → CourseAt low past proved id (add_all s (numbered (λ i output. fact (mk i) (deed.Coin output from)) index outputs)).facts
course_coins low past proved id mk from index [] s was = was
course_coins low past proved id mk from index (output ∷ outputs) s was =
    let x = fact (mk index) (deed.Coin output from) in
    course_coins low past proved id mk from (index + 1) outputs (add s x) (course_add low past proved id s x refl (coin_begins low past proved output from) was)

pub course_funds : (low : ℕ) (past : Bool → ℕ → Bool) (proved : Bool) (id : List ℕ) (mk : ℕ → List ℕ) (index : ℕ) (outputs : List FundOutput) (s : State) → CourseAt low past proved id s.facts → CourseAt low past proved id (add_all s (numbered (λ i output. fact (mk i) (deed.Fund output)) index outputs)).facts
course_funds low past proved id mk index [] s was = was
course_funds low past proved id mk index (output ∷ outputs) s was =
    let x = fact (mk index) (deed.Fund output) in
    course_funds low past proved id mk (index + 1) outputs (add s x) (course_add low past proved id s x refl (fund_begins low past proved output) was)

pub course_settlement : (low : ℕ) (past : Bool → ℕ → Bool) (proved : Bool) (id : List ℕ) (from : ℕ) (contract : List ℕ) (valid : Bool) (index : ℕ) (outputs : List CoinOutput) (s : State) → CourseAt low past proved id s.facts → CourseAt low past proved id (add_all s (settlement_facts from contract valid index outputs)).facts
course_settlement low past proved id from contract valid index [] s was = was
course_settlement low past proved id from contract valid index (output ∷ outputs) s was = by (is_paying output) (λ t. course_settlement low past proved id from contract valid (index + 1) outputs t)
  where
    x : Fact
    x = fact (settlement_id contract valid index) (deed.Coin output from)

    by : (b : Bool) → ((t : State) → CourseAt low past proved id t.facts → CourseAt low past proved id (add_all t (settlement_facts from contract valid (index + 1) outputs)).facts) → CourseAt low past proved id (add_all s (if b then x ∷ settlement_facts from contract valid (index + 1) outputs else settlement_facts from contract valid (index + 1) outputs)).facts
    by true later = later (add s x) (course_add low past proved id s x refl (coin_begins low past proved output from) was)
    by false later = later s was

-- the inputs that are spent are no contracts
pub course_inputs : (low : ℕ) (past : Bool → ℕ → Bool) (proved : Bool) (id : List ℕ) (inputs : List CoinInput) (s : State) (n : ℕ) → LiveCoins s.facts inputs n → names_twice (coin_parents inputs) ≡ false → CourseAt low past proved id s.facts → CourseAt low past proved id (add_all s (map (λ (input : CoinInput). spent input.parent) inputs)).facts
unfolding add
course_inputs low past proved id [] s n live once was = was
course_inputs low past proved id (input ∷ inputs) s n (output, from, rest, last, whole, live) once was =
    let both = or_both (list_any (bytes_eq input.parent) (coin_parents inputs)) _ once in
    let s1 : State = record s { facts = s.facts ++ spent input.parent ∷ [] } in
    course_inputs low past proved id inputs s1 rest (live_coins-after s.facts input.parent inputs rest both.0 live) both.1 (by (bytes_eq input.parent id) refl)
  where
    by : (b : Bool) → bytes_eq input.parent id ≡ b → CourseAt low past proved id (s.facts ++ spent input.parent ∷ [])
    by false other = course_other low past proved id s.facts (spent input.parent) other was
    by true same =
        let is : last_deed s.facts id ≡ Some (deed.Coin output from) = ap (last_deed s.facts) (sym (same_text input.parent id (sym same))) ∙ last in
        let both : (proved ≡ false) × (final_in s.facts id ≡ None) = subst (Course low past proved (final_in s.facts id)) is was in
        course_here low past proved id s.facts (spent input.parent) same both

-- contracts that end later
abbrev pub AllLater : ℕ → List FileContract → Type 0
AllLater height [] = Unit {0}
AllLater height (contract ∷ contracts) = (height ≤ contract.end) × AllLater height contracts

and-true : (a b : Bool) → (a && b) ≡ true → (a ≡ true) × (b ≡ true)
and-true true b e = (refl, e)
and-true false b e = cc

pub all_later : (height t i : ℕ) (contracts : List FileContract) → first_at (form_window height t) i contracts ≡ None → AllLater height contracts
unfolding form_window
all_later height t i [] none = tt
all_later height t i (contract ∷ contracts) none =
    let both = or_none (form_window height t i contract) _ none in
    let ahead = and-true (nat_lt height contract.start) (nat_lt contract.start contract.end) (not-false _ (unbroken _ _ both.0)) in
    let low : height ≤ contract.end = omega (arith, ltb-true height contract.start ahead.0, ltb-true contract.start contract.end ahead.1) in
    (low, all_later height t (i + 1) contracts both.1)

pub course_contracts : (low : ℕ) (past : Bool → ℕ → Bool) (proved : Bool) (id : List ℕ) (mk : ℕ → List ℕ) (index : ℕ) (contracts : List FileContract) (s : State) → AllLater low contracts → CourseAt low past proved id s.facts → CourseAt low past proved id (add_all s (numbered (λ i contract. fact (mk i) (deed.Formed (formed contract))) index contracts)).facts
course_contracts low past proved id mk index [] s later was = was
course_contracts low past proved id mk index (contract ∷ contracts) s later was =
    let x = fact (mk index) (deed.Formed (formed contract)) in
    course_contracts low past proved id mk (index + 1) contracts (add s x) later.1 (course_add low past proved id s x refl (λ final none unproved. (refl, later.0, unproved)) was)

-- revisions that end later
abbrev pub AllEndLater : ℕ → List Revision → Type 0
AllEndLater height [] = Unit {0}
AllEndLater height (revision ∷ revisions) = (height ≤ revision.end) × AllEndLater height revisions

pub course_revisions : (low : ℕ) (past : Bool → ℕ → Bool) (proved : Bool) (id : List ℕ) (revisions : List Revision) (s : State) → AllEndLater low revisions → CourseAt low past proved id s.facts → CourseAt low past proved id (fold with_revision s revisions).facts
unfolding add
course_revisions low past proved id [] s later was = was
course_revisions low past proved id (revision ∷ revisions) s later was =
    course_revisions low past proved id revisions (revised_with s revision (terms_at s.facts revision.parent)) later.1 (by (terms_at s.facts revision.parent) refl)
  where
    by : (found : Option Terms) → terms_at s.facts revision.parent ≡ found → CourseAt low past proved id (revised_with s revision found).facts
    by None is = was
    by (Some terms) is = go (bytes_eq revision.parent id) refl
      where
        go : (b : Bool) → bytes_eq revision.parent id ≡ b → CourseAt low past proved id (s.facts ++ fact revision.parent (deed.Revised (revised terms revision)) ∷ [])
        go false other = course_other low past proved id s.facts (fact revision.parent (deed.Revised (revised terms revision))) other was
        go true same =
            let runs : terms_at s.facts id ≡ Some terms = ap (terms_at s.facts) (sym (same_text revision.parent id (sym same))) ∙ is in
            let known = running low past proved (final_in s.facts id) (last_deed s.facts id) terms runs was in
            course_here low past proved id s.facts (fact revision.parent (deed.Revised (revised terms revision))) same (refl, later.0, known.2)
