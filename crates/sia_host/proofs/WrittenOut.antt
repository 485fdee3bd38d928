-- What a signed write records follows on what the host knew, where its slots are the least free ones.
use Rattle.std.proofs.Common.{◌≡◌, ◌∙◌, ◌*◌, ◌≤◌, ℕ, suc, Bool, true, false, not, ◌&&◌, List, [], ◌∷◌, length, map, take, Option, Some, None, refl, sym, ap, arith}
use Rattle.std.specs.Prelude.{nat_le, nat_lt, nat_eq, count_by}
use Rattle.std.specs.List.{filter_map, flat_map, list_all}
use Rattle.std.proofs.lemmas.Bool.{leb-true, le-leb, ltb-false}
use Rattle.std.proofs.lemmas.List.{length-map, length-take-le}
use Rattle.std.proofs.lemmas.Slice.Eq.{bytes_eq-Decides}
use Rattle.sia_encoding.specs.Firsts.{broken, ◌or_else◌}
use Rattle.sia_encoding.specs.declared.limits.TheConstants.{ACTIONS}
use Rattle.sia_diff.specs.declared.steps.DiffStep.{DiffStep}
use Rattle.sia_diff.specs.declared.steps.DiffStep.TheVariants as step
use Rattle.sia_diff.specs.DiffSteps.{after, is_fit}
use Rattle.sia_diff.proofs.Counts.{left_of_and, right_of_and}
use Rattle.sia_merkle.specs.Roots.{node_root_of}
use Rattle.sia_rhp.specs.declared.action.Action.{Action}
use Rattle.sia_rhp.specs.declared.action.Action.TheVariants as actions
use Rattle.sia_records.specs.declared.change.Change.{Change}
use Rattle.sia_records.specs.declared.host_record.HostRecord.{HostRecord}
use Rattle.sia_records.specs.Fitting.{action_fits, actions_fit}
use Rattle.sia_records.specs.Stored.{changes_of, slots_behind, step_of}
use Rattle.sia_records.specs.Writes.{Applied, Prepared, is_prepared, is_update, left_behind, new_by, sectors_of, step_by, steps_of, with_sectors}
use Rattle.sia_records.proofs.Slots.{steps_again}
use Rattle.sia_commands.specs.declared.call.Call.{Call}
use Rattle.sia_commands.specs.declared.codes.TheConstants.{BAD_ACTION, STORE_FULL}
use Rattle.sia_commands.specs.declared.event.Kind.TheVariants as kind
use Rattle.sia_commands.specs.declared.step.Room.{Room}
use Rattle.sia_kept.specs.State.{Kept, IsSound, IsStored, live_slots, root_in, roots_of}
use Rattle.sia_host.specs.Answered.{Host, Reaction}
use Rattle.sia_host.specs.Paying.{IsRevised, open_now, paid_revision, unpaid}
use Rattle.sia_host.specs.Replaying.{HasLeast, changes_fit, expected, least_free, replays, slot_taken, takes_least}
use Rattle.sia_host.specs.Writing.{IsWriteSigned, can_write, write_fault, write_payment, write_price, write_signed, write_work, written_changes, written_revision, written_roots}
use Rattle.sia_host.proofs.CommandsOut.{opened_stores, past_one}
use Rattle.sia_host.proofs.RevisedOut.{held_out, paid_so, paying_follows, revised_out}

-- how many of these steps bring a sector
brought : List DiffStep → ℕ
brought [] = 0
brought (step.Append root ∷ others) = suc (brought others)
brought (step.Trim fewer ∷ others) = brought others
brought (step.Swap one other ∷ others) = brought others
brought (step.Set place root ∷ others) = suc (brought others)

no_slot : (n : ℕ) → suc n ≤ 0 → ⊥
no_slot n few = absurd (omega (arith, few))

-- they take the first slots, in order
takes_first : (steps : List DiffStep) (slots : List ℕ) → brought steps ≤ length slots → filter_map slot_taken (changes_of steps slots) ≡ take (brought steps) slots
unfolding brought changes_of
takes_first [] slots enough = refl
takes_first (step.Append root ∷ others) [] enough = absurd (no_slot (brought others) enough)
takes_first (step.Append root ∷ others) (slot ∷ slots) enough = ap (λ xs. slot ∷ xs) (takes_first others slots (omega (arith, enough)))
takes_first (step.Trim fewer ∷ others) slots enough = takes_first others slots enough
takes_first (step.Swap one other ∷ others) slots enough = takes_first others slots enough
takes_first (step.Set place root ∷ others) [] enough = absurd (no_slot (brought others) enough)
takes_first (step.Set place root ∷ others) (slot ∷ slots) enough = ap (λ xs. slot ∷ xs) (takes_first others slots (omega (arith, enough)))

-- as many as the sectors that a write puts
abbrev steps_with : List Action → List (List ℕ) → List DiffStep
steps_with all fetched = map (λ (done : Applied). step_by done.action done.old) (with_sectors all fetched)

abbrev news_with : List Action → List (List ℕ) → List (List ℕ)
news_with all fetched = flat_map (λ (done : Applied). new_by done.action done.old) (with_sectors all fetched)

brings_news : (all : List Action) (fetched : List (List ℕ)) → brought (steps_with all fetched) ≡ length (news_with all fetched)
unfolding brought with_sectors
brings_news [] fetched = refl
brings_news (actions.Append bytes ∷ others) fetched = ap suc (brings_news others fetched)
brings_news (actions.Trim count ∷ others) fetched = brings_news others fetched
brings_news (actions.Swap one other ∷ others) fetched = brings_news others fetched
brings_news (actions.Update place offset bytes ∷ others) fetched = ap suc (brings_news others (left_behind (actions.Update place offset bytes) fetched))

brings_sectors : (write : Prepared) → brought (steps_of write) ≡ length (sectors_of write)
unfolding steps_of sectors_of
brings_sectors write = brings_news write.request.actions write.fetched

-- each change is a step, and each step an action
many_changes : (steps : List DiffStep) (slots : List ℕ) → length (changes_of steps slots) ≡ length steps
unfolding changes_of
many_changes [] slots = refl
many_changes (one ∷ others) slots = ap suc (many_changes others (slots_behind one slots))

many_applied : (all : List Action) (fetched : List (List ℕ)) → length (with_sectors all fetched) ≡ length all
unfolding with_sectors
many_applied [] fetched = refl
many_applied (one ∷ others) fetched = ap suc (many_applied others (left_behind one fetched))

many_steps : (write : Prepared) → length (steps_of write) ≡ length write.request.actions
unfolding steps_of
many_steps write = length-map (with_sectors write.request.actions write.fetched) (λ (done : Applied). step_by done.action done.old) ∙ many_applied write.request.actions write.fetched

few_actions : (sector : ℕ) (write : Prepared) → is_prepared sector write ≡ true → length write.request.actions ≤ 16
unfolding is_prepared
few_actions sector write is = leb-true _ _ (left_of_and (nat_le (length write.request.actions) ACTIONS) (list_all (action_fits sector) write.request.actions)
    (left_of_and (actions_fit sector write.request.actions) (nat_eq (length write.fetched) (count_by is_update write.request.actions))
    (left_of_and (actions_fit sector write.request.actions && nat_eq (length write.fetched) (count_by is_update write.request.actions)) (list_all (λ old. nat_eq (length old) sector) write.fetched) is)))

-- the slots of a write are the least free ones
write_takes_least : (h : Host) (room : Room) (write : Prepared) → HasLeast h room → length (sectors_of write) ≤ length room.free → takes_least h (written_changes room write) ≡ true
write_takes_least h room write least enough =
    let n = brought (steps_of write) in
    let short : n ≤ length room.free = omega (arith, brings_sectors write) in
    let first : filter_map slot_taken (written_changes room write) ≡ take n room.free = takes_first (steps_of write) room.free short in
    let many : length (filter_map slot_taken (written_changes room write)) ≡ n = ap length first ∙ length-take-le n room.free short in
    let same : filter_map slot_taken (written_changes room write) ≡ least_free (live_slots h.state) (length (filter_map slot_taken (written_changes room write))) =
    first ∙ least n short ∙ ap (least_free (live_slots h.state)) (sym many) in
    (bytes_eq-Decides (filter_map slot_taken (written_changes room write)) (least_free (live_slots h.state) (length (filter_map slot_taken (written_changes room write))))).1 same

-- of two faults that aren't there
both_none : (first second : Option ℕ) → (first or_else second) ≡ None → (first ≡ None) × (second ≡ None)
both_none None second is = (refl, is)
both_none (Some code) second is = (cc)

not_broken : (b : Bool) (code : ℕ) → broken b code ≡ None → b ≡ false
not_broken false code is = refl
not_broken true code is = (cc)

three_true : (a b c : Bool) → a ≡ true → b ≡ true → c ≡ true → (a && b && c) ≡ true
three_true a b c one two three = rw (one, two, three) refl

-- and its changes are fit
write_changes_fit : (h : Host) (room : Room) (c : Kept) (write : Prepared) → HasLeast h room → can_write h c write ≡ true → length (sectors_of write) ≤ length room.free → changes_fit h c (written_changes room write) ≡ true
write_changes_fit h room c write least can enough =
    let prepared = left_of_and (is_prepared h.settings.sector write) (is_fit (length c.sectors) (steps_of write)) can in
    let fit = right_of_and (is_prepared h.settings.sector write) (is_fit (length c.sectors) (steps_of write)) can in
    let many : length (written_changes room write) ≡ length write.request.actions = many_changes (steps_of write) room.free ∙ many_steps write in
    let few : length (written_changes room write) ≤ 16 = omega (arith, many, few_actions h.settings.sector write prepared) in
    three_true (nat_le (length (written_changes room write)) ACTIONS) (is_fit (length c.sectors) (map step_of (written_changes room write))) (takes_least h (written_changes room write))
    (le-leb (length (written_changes room write)) 16 few) (ap (is_fit (length c.sectors)) (steps_again (steps_of write) room.free) ∙ fit) (write_takes_least h room write least enough)

-- the revision that a write proposes is the one that its changes make
written_expected : (h : Host) (room : Room) (c : Kept) (write : Prepared) → IsStored h.settings.sector h.settings.host_key c → written_revision h write c ≡ expected h c (write_payment write.request) (written_changes room write)
unfolding after
written_expected h room c write stored = by (written_changes room write) (sym (steps_again (steps_of write) room.free))
  where
    by : (done : List Change) → steps_of write ≡ map step_of done → written_revision h write c ≡ expected h c (write_payment write.request) done
    by [] are =
        let roots : written_roots c write ≡ roots_of c = ap (after (roots_of c)) are in
        let size : h.settings.sector * length (written_roots c write) ≡ c.newest.size = ap (λ rs. h.settings.sector * length rs) roots ∙ ap (λ n. h.settings.sector * n) (length-map c.sectors root_in) ∙ sym stored.size in
        let root : node_root_of (written_roots c write) ≡ c.newest.root = ap node_root_of roots ∙ sym stored.root in
        ap (λ n. paid_revision c (write_payment write.request) n (node_root_of (written_roots c write))) size ∙ ap (λ r. paid_revision c (write_payment write.request) c.newest.size r) root
    by (one ∷ others) are = ap (λ steps. paid_revision c (write_payment write.request) (h.settings.sector * length (after (roots_of c) steps)) (node_root_of (after (roots_of c) steps))) are

not_false : (b : Bool) → not b ≡ false → b ≡ true
not_false true is = refl
not_false false is = (cc)

-- a write that is signed and kept
pub written_out : (accepts : List ℕ → List ℕ → List ℕ → Bool) (Signs : List ℕ → List ℕ → Type 0) (h : Host) (room : Room) (worker session : ℕ) (write : Prepared) (renter : List ℕ) (a : Reaction) (made : HostRecord)
    → IsSound h.settings.sector h.settings.host_key h.state.contracts → HasLeast h room → IsWriteSigned accepts Signs h room worker session write renter a → a.made ≡ Some made → replays accepts h made ≡ true
written_out accepts Signs h room worker session write renter a made sound least is some =
    let call : Call = record { worker = worker; session = session; kind = kind.WriteSign } in
    let p = write_payment write.request in
    let price = write_price write.request.actions in
    held_out (replays accepts h made ≡ true) h call (open_now h session) (write_fault h room write)
    (λ c b. IsRevised accepts Signs h room call c.id c.renter_key (written_revision h write c) renter (written_changes room write) write_signed (write_work room write c) b) a made
    (λ c opened fine revised.
    let first = past_one (not (can_write h c write)) BAD_ACTION (unpaid h c price p or_else broken (nat_lt (length room.free) (length (sectors_of write))) STORE_FULL) fine in
    let rest = both_none (unpaid h c price p) (broken (nat_lt (length room.free) (length (sectors_of write))) STORE_FULL) first.1 in
    let enough : length (sectors_of write) ≤ length room.free = ltb-false _ _ (not_broken (nat_lt (length room.free) (length (sectors_of write))) STORE_FULL rest.1) in
    let stored = opened_stores h session c sound opened in
    revised_out (λ m. replays accepts h m ≡ true) accepts Signs h room call c.id c.renter_key (written_revision h write c) renter (written_changes room write) write_signed (write_work room write c) a made
    (λ host signed. paying_follows accepts h session c p (h.settings.sector * length (written_roots c write)) (node_root_of (written_roots c write)) renter host (written_changes room write) sound opened
    (paid_so h c price p rest.0) (write_changes_fit h room c write least (not_false (can_write h c write) first.0) enough) (written_expected h room c write stored) signed) revised some) is some
