-- The sectors that a write puts: their slots, their sizes, and the changes that bring them.
use Rattle.std.proofs.Common.{◌≡◌, ℕ, ◌+◌, ◌≤◌, nat_eq, nat_le, nat_lt, ◌%◌, ◌&&◌, true, List, [], ◌∷◌, All, length, length-append, length-drop, length-take, map, take, refl, ap, arith}
use Rattle.std.specs.Prelude.{count_by, filter_map}
use Rattle.std.specs.List.{flat_map, list_all}
use Rattle.std.proofs.lemmas.Bool.{eqb-true, leb-true}
use Rattle.std.proofs.lemmas.List.Elements.{All-cons, All-head, All-nil, All-tail}
use Rattle.sia_encoding.specs.declared.limits.TheConstants.{ACTIONS}
use Rattle.sia_diff.specs.declared.steps.DiffStep.{DiffStep}
use Rattle.sia_rhp.specs.declared.action.Action.{Action}
use Rattle.sia_rhp.specs.declared.action.Action.TheVariants as actions
use Rattle.sia_records.specs.Fitting.{action_fits, actions_fit, range_fits}
use Rattle.sia_records.specs.Stored.{Stored, changes_of}
use Rattle.sia_records.specs.Writes.{Applied, Prepared, is_prepared, is_update, left_behind, new_by, sector_root, sectors_of, step_by, steps_of, updated, with_sectors}
use Rattle.sia_records.proofs.Preparing.{both, has_length, one_more}
use Rattle.sia_commands.specs.declared.step.PutJob.{PutJob}
use Rattle.sia_commands.specs.declared.step.Room.{Room}
use Rattle.sia_host.specs.Replaying.{slot_taken}
use Rattle.sia_host.specs.Writing.{put_jobs, written_changes}
use Rattle.sia_slots.proofs.Passing.{Brings}

-- the slots of sectors that are put
abbrev pub slots_put : List PutJob → List ℕ
slots_put puts = map (λ (p : PutJob). p.slot) puts

-- the steps that actions are
abbrev steps_with : List Action → List (List ℕ) → List DiffStep
steps_with all fetched = map (λ (done : Applied). step_by done.action done.old) (with_sectors all fetched)

-- the sectors that they put
abbrev news_with : List Action → List (List ℕ) → List (List ℕ)
news_with all fetched = flat_map (λ (done : Applied). new_by done.action done.old) (with_sectors all fetched)

-- they lie in the first slots
pub put_first : (slots : List ℕ) (sectors : List (List ℕ)) → slots_put (put_jobs slots sectors) ≡ take (length (put_jobs slots sectors)) slots
put_first [] sectors = refl
put_first (slot ∷ slots) [] = refl
put_first (slot ∷ slots) (sector ∷ sectors) = ap (λ xs. slot ∷ xs) (put_first slots sectors)

-- what holds of each sector holds of those that are put
pub put_each : (P : List ℕ → Type 0) (slots : List ℕ) (sectors : List (List ℕ)) → All P sectors → All (λ (p : PutJob). P p.bytes) (put_jobs slots sectors)
put_each P [] sectors all = All-nil (λ (p : PutJob). P p.bytes)
put_each P (slot ∷ slots) [] all = All-nil (λ (p : PutJob). P p.bytes)
put_each P (slot ∷ slots) (sector ∷ sectors) all =
    All-cons (λ (p : PutJob). P p.bytes) (record { slot = slot; bytes = sector }) (put_jobs slots sectors) (All-head P sector sectors all) (put_each P slots sectors (All-tail P sector sectors all))

-- the slots that the changes take are those into which the sectors are put
takes_with : (all : List Action) (fetched : List (List ℕ)) (slots : List ℕ) → length (news_with all fetched) ≤ length slots
    → filter_map slot_taken (changes_of (steps_with all fetched) slots) ≡ slots_put (put_jobs slots (news_with all fetched))
unfolding with_sectors changes_of
takes_with [] fetched [] enough = refl
takes_with [] fetched (slot ∷ slots) enough = refl
takes_with (actions.Append bytes ∷ others) fetched [] enough = absurd (omega (arith, enough))
takes_with (actions.Append bytes ∷ others) fetched (slot ∷ slots) enough = ap (λ xs. slot ∷ xs) (takes_with others fetched slots (omega (arith, enough)))
takes_with (actions.Trim count ∷ others) fetched slots enough = takes_with others fetched slots enough
takes_with (actions.Swap one other ∷ others) fetched slots enough = takes_with others fetched slots enough
takes_with (actions.Update place offset bytes ∷ others) fetched [] enough = absurd (omega (arith, enough))
takes_with (actions.Update place offset bytes ∷ others) fetched (slot ∷ slots) enough =
    ap (λ xs. slot ∷ xs) (takes_with others (left_behind (actions.Update place offset bytes) fetched) slots (omega (arith, enough)))

pub write_takes : (room : Room) (write : Prepared) → length (sectors_of write) ≤ length room.free → filter_map slot_taken (written_changes room write) ≡ slots_put (put_jobs room.free (sectors_of write))
unfolding steps_of sectors_of
write_takes room write enough = takes_with write.request.actions write.fetched room.free enough

-- the sector of a put
abbrev pub sector_of : PutJob → Stored
sector_of p = record { root = sector_root p.bytes; slot = p.slot }

-- what holds of the sectors that are put holds of those that the changes bring
brings_with : (P : Stored → Type 0) (all : List Action) (fetched : List (List ℕ)) (slots : List ℕ) → length (news_with all fetched) ≤ length slots
    → All (λ (p : PutJob). P (sector_of p)) (put_jobs slots (news_with all fetched)) → All (Brings P) (changes_of (steps_with all fetched) slots)
unfolding with_sectors changes_of
brings_with P [] fetched slots enough so = All-nil (Brings P)
brings_with P (actions.Append bytes ∷ others) fetched [] enough so = absurd (omega (arith, enough))
brings_with P (actions.Append bytes ∷ others) fetched (slot ∷ slots) enough so =
    let Q = λ (p : PutJob). P (sector_of p) in
    let job : PutJob = record { slot = slot; bytes = bytes } in
    All-cons (Brings P) _ (changes_of (steps_with others fetched) slots) (All-head Q job (put_jobs slots (news_with others fetched)) so)
    (brings_with P others fetched slots (omega (arith, enough)) (All-tail Q job (put_jobs slots (news_with others fetched)) so))
brings_with P (actions.Trim count ∷ others) fetched slots enough so = All-cons (Brings P) _ (changes_of (steps_with others fetched) slots) tt (brings_with P others fetched slots enough so)
brings_with P (actions.Swap one other ∷ others) fetched slots enough so = All-cons (Brings P) _ (changes_of (steps_with others fetched) slots) tt (brings_with P others fetched slots enough so)
brings_with P (actions.Update place offset bytes ∷ others) fetched [] enough so = absurd (omega (arith, enough))
brings_with P (actions.Update place offset bytes ∷ others) fetched (slot ∷ slots) enough so =
    let Q = λ (p : PutJob). P (sector_of p) in
    let behind = left_behind (actions.Update place offset bytes) fetched in
    All-cons (Brings P) _ (changes_of (steps_with others behind) slots) (All-head Q _ (put_jobs slots (news_with others behind)) so)
    (brings_with P others behind slots (omega (arith, enough)) (All-tail Q _ (put_jobs slots (news_with others behind)) so))

pub write_brings : (P : Stored → Type 0) (room : Room) (write : Prepared) → length (sectors_of write) ≤ length room.free
    → All (λ (p : PutJob). P (sector_of p)) (put_jobs room.free (sectors_of write)) → All (Brings P) (written_changes room write)
unfolding steps_of sectors_of
write_brings P room write enough so = brings_with P write.request.actions write.fetched room.free enough so

-- an update leaves a sector's length
same_length : (sector offset : ℕ) (bytes old : List ℕ) → length old ≡ sector → range_fits sector offset (length bytes) ≡ true → length (updated offset bytes old) ≡ sector
same_length sector offset bytes old size fits =
    let within : offset + length bytes ≤ sector = leb-true (offset + length bytes) sector (both (nat_eq (offset % 64) 0 && nat_eq (length bytes % 64) 0 && nat_lt 0 (length bytes)) (nat_le (offset + length bytes) sector) fits).1 in
    simp (length-append, length-take, length-drop) (omega (arith, within, size))

-- the sectors that actions put are whole where they are fit
news_whole : (sector : ℕ) (all : List Action) (fetched : List (List ℕ)) → list_all (action_fits sector) all ≡ true → length fetched ≡ count_by is_update all → list_all (has_length sector) fetched ≡ true
    → All (λ (bytes : List ℕ). length bytes ≡ sector) (news_with all fetched)
unfolding with_sectors
news_whole sector [] fetched fit many whole = All-nil (λ (bytes : List ℕ). length bytes ≡ sector)
news_whole sector (actions.Append bytes ∷ others) fetched fit many whole =
    All-cons (λ (new : List ℕ). length new ≡ sector) bytes (news_with others fetched) (eqb-true _ _ (both _ _ fit).0) (news_whole sector others fetched (both _ _ fit).1 many whole)
news_whole sector (actions.Trim count ∷ others) fetched fit many whole = news_whole sector others fetched (both (action_fits sector (actions.Trim count)) (list_all (action_fits sector) others) fit).1 many whole
news_whole sector (actions.Swap one other ∷ others) fetched fit many whole = news_whole sector others fetched (both (action_fits sector (actions.Swap one other)) (list_all (action_fits sector) others) fit).1 many whole
news_whole sector (actions.Update place offset bytes ∷ others) [] fit many whole = let more = one_more place offset bytes others in absurd (omega arith)
news_whole sector (actions.Update place offset bytes ∷ others) (old ∷ fetched) fit many whole =
    let size : length old ≡ sector = eqb-true _ _ (both _ _ whole).0 in
    let more = one_more place offset bytes others in
    let as_many : length fetched ≡ count_by is_update others = omega arith in
    All-cons (λ (new : List ℕ). length new ≡ sector) (updated offset bytes old) (news_with others fetched) (same_length sector offset bytes old size (both _ _ fit).0)
    (news_whole sector others fetched (both _ _ fit).1 as_many (both _ _ whole).1)

pub sectors_whole : (sector : ℕ) (write : Prepared) → is_prepared sector write ≡ true → All (λ (bytes : List ℕ). length bytes ≡ sector) (sectors_of write)
unfolding is_prepared sectors_of
sectors_whole sector write is =
    let p = both (actions_fit sector write.request.actions && nat_eq (length write.fetched) (count_by is_update write.request.actions)) (list_all (λ old. nat_eq (length old) sector) write.fetched) is in
    let q = both (actions_fit sector write.request.actions) (nat_eq (length write.fetched) (count_by is_update write.request.actions)) p.0 in
    let fit = both (nat_le (length write.request.actions) ACTIONS) (list_all (action_fits sector) write.request.actions) q.0 in
    news_whole sector write.request.actions write.fetched fit.1 (eqb-true _ _ q.1) p.1
