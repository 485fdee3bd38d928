-- What a write makes, action by action.
use Rattle.std.proofs.Common.{◌≡◌, ℕ, ◌+◌, ◌<◌, ◌≤◌, Bool, true, false, List, [], ◌∷◌, ◌++◌, length, get_or, drop, Some, refl, sym, subst, ◌∙◌, append_assoc, append-nil, add-one, drop-cons, arith}
use Rattle.std.proofs.Math.ListN.{drop_of_length-le}
use Rattle.std.proofs.lemmas.Bool.{ne_eqb}
use Rattle.std.proofs.lemmas.List.{map-append}
use Rattle.std.proofs.lemmas.Grind.{flat_map-append}
use Rattle.sia_rhp.specs.declared.action.Action.{Action}
use Rattle.sia_records.specs.declared.making.Made.{Made}
use Rattle.sia_records.specs.Writes.{Applied, with_sectors, taken_by, left_behind, proof_by}
use Rattle.sia_records.specs.Making.{Adds, IsMade, Makes, MakesSoFar, changed_by, is_given, are_given}

-- one action more
pub makes_more : (steps others : List Action) (action : Action) (fetched old new : List (List ℕ)) (before now : Made) → MakesSoFar steps (action ∷ others) fetched old before → Adds action true old new before now → MakesSoFar steps others fetched new now
unfolding with_sectors are_given
makes_more steps others action fetched old new before now so_far adds =
    let left = adds.left refl in
    let one : Applied = record { action = action; old = taken_by action old } in
    let given : is_given action old ≡ true = sym adds.given in
    record {
      done = (
        so_far.done.0 ++ one ∷ [],
        so_far.done.1 ∙ (rw left (sym (append_assoc so_far.done.0 (one ∷ []) (with_sectors others (left_behind action old))))),
        record {
          steps = adds.steps refl ∙ (rw (so_far.done.2.steps, map-append) refl);
          changed = adds.changed refl ∙ (rw (so_far.done.2.changed, flat_map-append, append-nil (changed_by action (taken_by action old))) refl);
          proofs = adds.proofs refl ∙ (rw (so_far.done.2.proofs, flat_map-append, append-nil (proof_by action (taken_by action old))) refl);
        },
      );
      given = so_far.given ∙ (rw (given, left) refl);
    }

-- what is left at an action is that action and those behind it
pub left_at : (steps : List Action) (i : ℕ) (action : Action) → i < length steps → action ≡ get_or steps i action → drop i steps ≡ action ∷ drop (i + 1) steps
left_at steps i action within is = let front = drop-cons steps i action within in let next = add-one i in cc

-- one action more, at its place
pub makes_next : (steps : List Action) (i : ℕ) (action : Action) (done : Bool) (fetched old new : List (List ℕ)) (before now : Made) → i < length steps → action ≡ get_or steps i action → done ≡ true → MakesSoFar steps (drop i steps) fetched old before → Adds action done old new before now → MakesSoFar steps (drop (i + 1) steps) fetched new now
makes_next steps i action done fetched old new before now within is so so_far adds =
    let P : List Action → Type 0 = λ left. MakesSoFar steps left fetched old before in
    let Q : Bool → Type 0 = λ b. Adds action b old new before now in
    makes_more steps (drop (i + 1) steps) action fetched old new before now (subst P (left_at steps i action within is) so_far) (subst Q so adds)

-- an action that isn't given what it needs ends it
pub not_given : (steps : List Action) (i : ℕ) (action : Action) (done : Bool) (fetched old new : List (List ℕ)) (before now made : Made) → i < length steps → action ≡ get_or steps i action → done ≡ false → MakesSoFar steps (drop i steps) fetched old made → Adds action done old new before now → are_given steps fetched ≡ false
unfolding are_given
not_given steps i action done fetched old new before now made within is so so_far adds =
    let given : is_given action old ≡ false = sym adds.given ∙ so in
    so_far.given ∙ (rw (left_at steps i action within is, given) refl)

-- a sector that is left behind the last action is no update's
pub some_left : (steps : List Action) (i : ℕ) (fetched rest : List (List ℕ)) (made : Made) → length steps ≤ i → 0 < length rest → MakesSoFar steps (drop i steps) fetched rest made → are_given steps fetched ≡ false
unfolding are_given
some_left steps i fetched rest made ended some so_far =
    let over = drop_of_length-le steps {i = i} ended in
    so_far.given ∙ (rw over (ne_eqb (length rest) 0 (λ none. absurd (omega arith))))

-- behind the last action all is made
pub all_made : (steps : List Action) (i : ℕ) (fetched rest : List (List ℕ)) (made : Made) → length steps ≤ i → length rest ≡ 0 → MakesSoFar steps (drop i steps) fetched rest made → IsMade steps fetched (Some made)
unfolding are_given with_sectors
all_made steps i fetched rest made ended none so_far =
    let over = drop_of_length-le steps {i = i} ended in
    let whole : with_sectors steps fetched ≡ so_far.done.0 = so_far.done.1 ∙ (rw (over, append-nil so_far.done.0) refl) in
    let P : List Applied → Type 0 = λ done. Makes done made in
    (so_far.given ∙ (rw (over, none) refl), subst P (sym whole) so_far.done.2)
