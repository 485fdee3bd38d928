-- Writes and reads that were prepared with what they ask for.
use Rattle.std.proofs.Common.{◌≡◌, ◌⊎◌, inl, inr, ℕ, ◌+◌, nat_eq, Bool, true, false, cond, ◌&&◌, List, [], ◌∷◌, length, count_by, All, refl, sym, ap, ◌∙◌, eq-eqb, arith}
use Rattle.std.specs.List.{list_all}
use Rattle.std.specs.Cmp.Derive.{both_true}
use Rattle.std.proofs.lemmas.List.Elements.{All-tail}
use Rattle.std.proofs.lemmas.List.Sums.{sum_by-cons}
use Rattle.sia_rhp.specs.declared.action.Action.{Action}
use Rattle.sia_rhp.specs.declared.action.Action.TheVariants as actions
use Rattle.sia_rhp.specs.declared.request_bodies.Section.{Section}
use Rattle.sia_records.specs.Fitting.{range_fits, action_fits, actions_fit, section_fits, sections_fit, update_fits}
use Rattle.sia_records.specs.Reads.{Read, are_served, is_served}
use Rattle.sia_records.specs.Writes.{Prepared, is_prepared, is_update}
use Rattle.sia_records.proofs.Preparing.{both, has_length, one_more}

-- sectors of so many bytes pass the test
all_whole : (sector : ℕ) (fetched : List (List ℕ)) → All (λ old. length old ≡ sector) fetched → list_all (has_length sector) fetched ≡ true
all_whole sector [] whole = refl
all_whole sector (old ∷ fetched) whole =
    both_true (eq-eqb (length old) sector (whole 0 old (omega arith))) (all_whole sector fetched (All-tail (λ have. length have ≡ sector) old fetched whole))

-- an update that is fit is one more of these
one_fit : (sector place offset : ℕ) (bytes : List ℕ) (others : List Action) → range_fits sector offset (length bytes) ≡ true → count_by (update_fits sector) (actions.Update place offset bytes ∷ others) ≡ 1 + count_by (update_fits sector) others
one_fit sector place offset bytes others fits =
    sum_by-cons (λ x. cond (update_fits sector x) 1 0) (actions.Update place offset bytes) others ∙ ap (λ b. cond b 1 0 + count_by (update_fits sector) others) fits

-- where all actions are fit, each update is one whose range is fit
all_fit : (sector : ℕ) (steps : List Action) → list_all (action_fits sector) steps ≡ true → count_by (update_fits sector) steps ≡ count_by is_update steps
all_fit sector [] fit = refl
all_fit sector (actions.Append bytes ∷ others) fit = all_fit sector others (both _ _ fit).1
all_fit sector (actions.Trim count ∷ others) fit = all_fit sector others fit
all_fit sector (actions.Swap one other ∷ others) fit = all_fit sector others fit
all_fit sector (actions.Update place offset bytes ∷ others) fit =
    one_fit sector place offset bytes others (both _ _ fit).0 ∙ ap (λ n. 1 + n) (all_fit sector others (both _ _ fit).1) ∙ sym (one_more place offset bytes others)

-- what is prepared as it asks is prepared exactly where its actions are fit
pub asked_prepared : (sector : ℕ) (write : Prepared) → length write.fetched ≡ count_by (update_fits sector) write.request.actions → All (λ old. length old ≡ sector) write.fetched → is_prepared sector write ≡ actions_fit sector write.request.actions
unfolding is_prepared
asked_prepared sector write many whole = by (actions_fit sector write.request.actions) refl
  where
    by : (b : Bool) → actions_fit sector write.request.actions ≡ b → (actions_fit sector write.request.actions && nat_eq (length write.fetched) (count_by is_update write.request.actions) && list_all (has_length sector) write.fetched) ≡ actions_fit sector write.request.actions
    by true is =
        let as_many : nat_eq (length write.fetched) (count_by is_update write.request.actions) ≡ true = eq-eqb _ _ (many ∙ all_fit sector write.request.actions (both _ _ is).1) in
        rw (is, as_many, all_whole sector write.fetched whole) refl
    by false is = rw is refl

-- where each section is fit, each is served by a sector of that length
served_so : (sector : ℕ) (sections : List Section) (fetched : List (List ℕ)) → list_all (section_fits sector) sections ≡ true → length fetched ≡ length sections → All (λ have. length have ≡ sector) fetched → are_served sections fetched ≡ true
unfolding are_served
served_so sector [] fetched fit many whole = eq-eqb (length fetched) 0 many
served_so sector (section ∷ others) [] fit many whole = absurd (omega arith)
served_so sector (section ∷ others) (have ∷ fetched) fit many whole =
    let size : length have ≡ sector = whole 0 have (omega arith) in
    let many : length fetched ≡ length others = omega arith in
    both_true (rw size (both _ _ fit).0) (served_so sector others fetched (both _ _ fit).1 many (All-tail (λ one. length one ≡ sector) have fetched whole))

-- what is read as it asks is served exactly where its sections are fit
pub asked_served : (sector : ℕ) (read : Read) → ((length read.fetched ≡ length read.request.sections) × All (λ have. length have ≡ sector) read.fetched) ⊎ (sections_fit sector read.request.sections ≡ false) → is_served sector read ≡ sections_fit sector read.request.sections
asked_served sector read (inr unfit) = rw unfit refl
asked_served sector read (inl (many, whole)) = by (sections_fit sector read.request.sections) refl
  where
    by : (b : Bool) → sections_fit sector read.request.sections ≡ b → (sections_fit sector read.request.sections && are_served read.request.sections read.fetched) ≡ sections_fit sector read.request.sections
    by true is = rw (is, served_so sector read.request.sections read.fetched (both _ _ (both _ _ is).0).1 many whole) refl
    by false is = rw is refl
