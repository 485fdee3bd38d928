-- When a write is prepared, and what it then makes.
use Rattle.std.proofs.Common.{◌≡◌, ℕ, ◌+◌, ◌≤◌, nat_eq, Bool, true, false, cond, ◌&&◌, List, [], ◌∷◌, ◌++◌, length, count_by, drop, slice_index_or, Option, Some, None, refl, sym, ap, subst, ◌∙◌, append_assoc, append-nil, length-append, length-take, length-drop, eq-eqb, arith}
use Rattle.std.specs.List.{flat_map, list_all}
use Rattle.std.specs.Cmp.Derive.{both_true}
use Rattle.std.proofs.Math.Bool.{and-true}
use Rattle.std.proofs.lemmas.Bool.{eqb-true, leb-true}
use Rattle.std.proofs.lemmas.List.{nil_from_length}
use Rattle.std.proofs.lemmas.List.Sums.{sum_by-cons}
use Rattle.sia_rhp.specs.declared.action.Action.{Action}
use Rattle.sia_rhp.specs.declared.action.Action.TheVariants as actions
use Rattle.sia_rhp.specs.declared.request_bodies.WriteRequest.{WriteRequest}
use Rattle.sia_records.specs.declared.making.Made.{Made}
use Rattle.sia_records.specs.Fitting.{range_fits, action_fits, actions_fit}
use Rattle.sia_records.specs.Writes.{Prepared, with_sectors, is_update, is_prepared, updated, new_by, steps_of, sectors_of, updates_of}
use Rattle.sia_records.specs.Making.{IsMade, Makes, changed_by, are_given, merged}

-- both of two tests hold
pub both : (a b : Bool) → (a && b) ≡ true → (a ≡ true) × (b ≡ true)
both true b is = (refl, is)
both false b is = cc

-- what doesn't hold is false
pub not_true : (b : Bool) → (b ≡ true → ⊥) → b ≡ false
not_true true never = absurd (never refl)
not_true false never = refl

-- whether a sector has so many bytes
abbrev pub has_length : ℕ → List ℕ → Bool
has_length sector have = nat_eq (length have) sector

-- an update is one more
pub one_more : (place offset : ℕ) (bytes : List ℕ) (others : List Action) → count_by is_update (actions.Update place offset bytes ∷ others) ≡ 1 + count_by is_update others
one_more place offset bytes others = sum_by-cons (λ x. cond (is_update x) 1 0) (actions.Update place offset bytes) others

-- actions that are fit in sectors of so many bytes are given what they need where there is such a sector for each update
given_so : (sector : ℕ) (steps : List Action) (fetched : List (List ℕ)) → list_all (action_fits sector) steps ≡ true → length fetched ≡ count_by is_update steps → list_all (has_length sector) fetched ≡ true → are_given steps fetched ≡ true
unfolding are_given
given_so sector [] fetched fit many whole = eq-eqb (length fetched) 0 many
given_so sector (actions.Append bytes ∷ others) fetched fit many whole = given_so sector others fetched (both _ _ fit).1 many whole
given_so sector (actions.Trim count ∷ others) fetched fit many whole = given_so sector others fetched fit many whole
given_so sector (actions.Swap one other ∷ others) fetched fit many whole = given_so sector others fetched fit many whole
given_so sector (actions.Update place offset bytes ∷ others) [] fit many whole = let more = one_more place offset bytes others in absurd (omega arith)
given_so sector (actions.Update place offset bytes ∷ others) (old ∷ fetched) fit many whole =
    let size : length old ≡ sector = eqb-true _ _ (both _ _ whole).0 in
    let range : range_fits (length old) offset (length bytes) ≡ true = rw size (both _ _ fit).0 in
    let more = one_more place offset bytes others in
    let as_many : length fetched ≡ count_by is_update others = omega arith in
    both_true range (given_so sector others fetched (both _ _ fit).1 as_many (both _ _ whole).1)

-- so a write that lacks what it needs isn't prepared
unprepared : (sector : ℕ) (write : Prepared) → are_given write.request.actions write.fetched ≡ false → is_prepared sector write ≡ false
unfolding is_prepared
unprepared sector write lacks = not_true _ (λ yes.
    let p = both _ _ yes in
    let q = both _ _ p.0 in
    let given = given_so sector write.request.actions write.fetched (both _ _ q.0).1 (eqb-true _ _ q.1) p.1 in
    let wrong : false ≡ true = sym lacks ∙ given in cc)

-- an update leaves a sector's length
same_length : (offset : ℕ) (bytes old : List ℕ) → range_fits (length old) offset (length bytes) ≡ true → length (updated offset bytes old) ≡ length old
same_length offset bytes old fits =
    let within : offset + length bytes ≤ length old = leb-true _ _ (both _ _ fits).1 in
    simp (length-append, length-take, length-drop) (omega arith)

-- where each update is given what it needs, there is a sector for each, of the length of what it makes of it
changed_whole : (sector : ℕ) (steps : List Action) (fetched : List (List ℕ)) → are_given steps fetched ≡ true → (length fetched ≡ count_by is_update steps) × (list_all (has_length sector) (flat_map (λ one. changed_by one.action one.old) (with_sectors steps fetched)) ≡ list_all (has_length sector) fetched)
unfolding are_given with_sectors
changed_whole sector [] [] given = (refl, refl)
changed_whole sector [] (old ∷ fetched) given = let none : length (old ∷ fetched) ≡ 0 = eqb-true _ _ given in absurd (omega arith)
changed_whole sector (actions.Append bytes ∷ others) fetched given = changed_whole sector others fetched given
changed_whole sector (actions.Trim count ∷ others) fetched given = changed_whole sector others fetched given
changed_whole sector (actions.Swap one other ∷ others) fetched given = changed_whole sector others fetched given
changed_whole sector (actions.Update place offset bytes ∷ others) [] given = let wrong : false ≡ true = given in absurd (cc)
changed_whole sector (actions.Update place offset bytes ∷ others) (old ∷ fetched) given =
    let size = same_length offset bytes old (both _ _ given).0 in
    let later = changed_whole sector others fetched (both _ _ given).1 in
    let more = one_more place offset bytes others in
    let many : length fetched ≡ count_by is_update others = later.0 in
    let one : length (old ∷ fetched) ≡ count_by is_update (actions.Update place offset bytes ∷ others) = omega arith in
    (one, rw (size, later.1) refl)

-- and the write is prepared exactly where its actions are fit and what it makes has that length
prepared_is : (sector : ℕ) (write : Prepared) (made : Made) → are_given write.request.actions write.fetched ≡ true → Makes (with_sectors write.request.actions write.fetched) made → is_prepared sector write ≡ (actions_fit sector write.request.actions && list_all (has_length sector) made.changed)
unfolding is_prepared
prepared_is sector write made given makes =
    let whole = changed_whole sector write.request.actions write.fetched given in
    let many : nat_eq (length write.fetched) (count_by is_update write.request.actions) ≡ true = eq-eqb _ _ whole.0 in
    rw (makes.changed, whole.1, many, and-true (actions_fit sector write.request.actions)) refl

-- a write of which nothing is made isn't prepared
pub none_prepared : (sector : ℕ) (request : WriteRequest) (fetched : List (List ℕ)) (made : Option Made) (now : Prepared) → made ≡ None → IsMade request.actions fetched made → record { request = request; fetched = fetched } ≡ now → false ≡ is_prepared sector now
none_prepared sector request fetched made now none is view =
    let P : Option Made → Type 0 = λ m. IsMade request.actions fetched m in
    sym (unprepared sector (record { request = request; fetched = fetched }) (subst P none is)) ∙ ap (is_prepared sector) view

-- of another one the code tells it
pub some_prepared : (sector : ℕ) (request : WriteRequest) (fetched : List (List ℕ)) (made : Option Made) (m : Made) (now : Prepared) (b : Bool) → made ≡ Some m → IsMade request.actions fetched made → record { request = request; fetched = fetched } ≡ now → b ≡ (actions_fit sector request.actions && list_all (has_length sector) m.changed) → b ≡ is_prepared sector now
some_prepared sector request fetched made m now b some is view told =
    let P : Option Made → Type 0 = λ m. IsMade request.actions fetched m in
    let makes = subst P some is in
    told ∙ sym (prepared_is sector (record { request = request; fetched = fetched }) m makes.0 makes.1) ∙ ap (is_prepared sector) view

-- its steps are the write's
pub steps_are : (request : WriteRequest) (fetched : List (List ℕ)) (made : Option Made) (m : Made) (now : Prepared) → made ≡ Some m → IsMade request.actions fetched made → record { request = request; fetched = fetched } ≡ now → m.steps ≡ steps_of now
unfolding steps_of
steps_are request fetched made m now some is view =
    let P : Option Made → Type 0 = λ m. IsMade request.actions fetched m in
    let makes = subst P some is in
    makes.1.steps ∙ ap steps_of view

-- as are its proofs
pub updates_are : (request : WriteRequest) (fetched : List (List ℕ)) (made : Option Made) (m : Made) (now : Prepared) → made ≡ Some m → IsMade request.actions fetched made → record { request = request; fetched = fetched } ≡ now → m.proofs ≡ updates_of now
unfolding updates_of
updates_are request fetched made m now some is view =
    let P : Option Made → Type 0 = λ m. IsMade request.actions fetched m in
    let makes = subst P some is in
    makes.1.proofs ∙ ap updates_of view

-- the new sectors are those that are appended and those that are changed
merged_is : (steps : List Action) (fetched : List (List ℕ)) → merged steps (flat_map (λ one. changed_by one.action one.old) (with_sectors steps fetched)) ≡ flat_map (λ one. new_by one.action one.old) (with_sectors steps fetched)
unfolding merged with_sectors
merged_is [] fetched = refl
merged_is (actions.Append bytes ∷ others) fetched = ap (λ sectors. bytes ∷ sectors) (merged_is others fetched)
merged_is (actions.Trim count ∷ others) fetched = merged_is others fetched
merged_is (actions.Swap one other ∷ others) fetched = merged_is others fetched
merged_is (actions.Update place offset bytes ∷ others) fetched = ap (λ sectors. updated offset bytes (slice_index_or fetched 0 []) ∷ sectors) (merged_is others (drop 1 fetched))

-- as are its sectors
pub sectors_are : (request : WriteRequest) (fetched : List (List ℕ)) (made : Option Made) (m : Made) (now : Prepared) → made ≡ Some m → IsMade request.actions fetched made → record { request = request; fetched = fetched } ≡ now → merged request.actions m.changed ≡ sectors_of now
unfolding sectors_of
sectors_are request fetched made m now some is view =
    let P : Option Made → Type 0 = λ m. IsMade request.actions fetched m in
    let makes = subst P some is in
    ap (merged request.actions) makes.1.changed ∙ merged_is request.actions fetched ∙ ap sectors_of view

-- an appended sector is put
pub append_put : (sectors now rest : List (List ℕ)) (action : Action) (bytes : List ℕ) (others : List Action) → action ≡ actions.Append bytes → now ≡ sectors ++ bytes ∷ [] → sectors ++ merged (action ∷ others) rest ≡ now ++ merged others rest
unfolding merged
append_put sectors now rest action bytes others is put = rw (is, put) (sym (append_assoc sectors (bytes ∷ []) (merged others rest)))

-- an updated one is the next of those that were changed
pub update_put : (sectors now rest left : List (List ℕ)) (action : Action) (place offset : ℕ) (bytes sector : List ℕ) (others : List Action) → action ≡ actions.Update place offset bytes → rest ≡ sector ∷ left → now ≡ sectors ++ sector ∷ [] → sectors ++ merged (action ∷ others) rest ≡ now ++ merged others left
unfolding merged
update_put sectors now rest left action place offset bytes sector others is next put = rw (is, next, put) (sym (append_assoc sectors (sector ∷ []) (merged others left)))

-- none is put where none is left
pub none_put : (sectors rest left : List (List ℕ)) (action : Action) (place offset : ℕ) (bytes : List ℕ) (others : List Action) → action ≡ actions.Update place offset bytes → length rest ≡ 0 → length left ≡ 0 → sectors ++ merged (action ∷ others) rest ≡ sectors ++ merged others left
unfolding merged
none_put sectors rest left action place offset bytes others is none same = rw (is, nil_from_length rest none, nil_from_length left same) refl

-- nor by a trim
pub trim_put : (sectors rest : List (List ℕ)) (action : Action) (count : ℕ) (others : List Action) → action ≡ actions.Trim count → sectors ++ merged (action ∷ others) rest ≡ sectors ++ merged others rest
unfolding merged
trim_put sectors rest action count others is = rw is refl

-- nor by a swap
pub swap_put : (sectors rest : List (List ℕ)) (action : Action) (one other : ℕ) (others : List Action) → action ≡ actions.Swap one other → sectors ++ merged (action ∷ others) rest ≡ sectors ++ merged others rest
unfolding merged
swap_put sectors rest action one other others is = rw is refl

-- what is merged behind the last action
pub nothing_merged : (sectors rest : List (List ℕ)) (left : List Action) → length left ≡ 0 → sectors ++ merged left rest ≡ sectors
unfolding merged
nothing_merged sectors rest left none = rw (nil_from_length left none) (append-nil sectors)
