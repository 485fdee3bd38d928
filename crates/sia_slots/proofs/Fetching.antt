-- The slots that are fetched are live, and what is read fits the reply.
use Rattle.std.proofs.Common.{◌≡◌, ◌∙◌, ℕ, zero, suc, ◌*◌, ◌/◌, ◌<◌, ◌≤◌, ◌&&◌, ◌||◌, Bool, true, false, if◌then◌else◌, List, [], ◌∷◌, Contains, length, get_or, slice_get, find, Option, Some, None, Result, Ok, Err, refl, sym, ap, subst, arith, ◌^◌, div-lt_iff_lt-mul, mod-lt, mul-pos, pow_pos}
use Rattle.std.specs.Option.{option_and_then, option_map}
use Rattle.std.specs.Str.{bytes_eq}
use Rattle.std.proofs.lemmas.List.{get_or-map, length-map}
use Rattle.sia_encoding.specs.Answer.{◌>>=◌}
use Rattle.sia_ids.specs.Conditions.{segment_index}
use Rattle.sia_merkle.specs.Roots.{leaf_count}
use Rattle.sia_prover.specs.Proofs.{chosen_leaf}
use Rattle.sia_types.specs.declared.terms.Terms.{Terms}
use Rattle.sia_ledger.specs.Holdings.{terms_of}
use Rattle.sia_records.specs.Stored.{Stored, no_sector}
use Rattle.sia_commands.specs.OutJobs.{Lacking}
use Rattle.sia_commands.specs.declared.call.Call.{Call}
use Rattle.sia_commands.specs.declared.codes.TheConstants.{BAD_ACTION, NO_SECTOR}
use Rattle.sia_commands.specs.declared.event.Kind.TheVariants as kind
use Rattle.sia_commands.specs.declared.event.Outcome.TheVariants as outcome
use Rattle.sia_commands.specs.declared.reply.Reply.TheVariants as reply
use Rattle.sia_commands.specs.declared.step.Room.{Room}
use Rattle.sia_commands.specs.declared.want.Want.{Want}
use Rattle.sia_commands.specs.declared.want.Want.TheVariants as wants
use Rattle.sia_kept.specs.State.{IsSound, Kept, live_slots, root_in, roots_of}
use Rattle.sia_host.specs.Answered.{Host, Reaction, event_of, held_now, or_code}
use Rattle.sia_host.specs.Fetching.{fetch_given, fetch_reaction, slot_wanted}
use Rattle.sia_host.specs.Jobs.{due_contracts, is_above, is_due, next_after, trigger_of}
use Rattle.sia_host.specs.Least.{is_up_to, least_by, lesser}
use Rattle.sia_host.specs.Outbox.{asking, due_by, due_handed, due_now, due_reaction, none_left}
use Rattle.sia_host.specs.Paying.{open_now}
use Rattle.sia_host.specs.Writing.{sector_slot, slot_at, slot_with}
use Rattle.sia_host.proofs.Askings.{due_by_terms, due_has, next_is_due}
use Rattle.sia_host.proofs.Opened.{opened_among}
use Rattle.sia_host.proofs.Walked.{walk_ends}
use Rattle.sia_slots.specs.Work.{IsWork}
use Rattle.sia_slots.proofs.Contracts.{found_live, live_in}
use Rattle.sia_slots.proofs.Passing.{slots_of}
use Rattle.sia_slots.proofs.Working.{fetches, idle}
use Rattle.std.proofs.lemmas.List.Elements.{Contains-append_left, Contains-append_right, Contains-get_or}

-- behind one more
deeper : {X : Type 0} (x y : X) (xs : List X) → Contains xs x → Contains (y ∷ xs) x
deeper x y xs has = (suc has.0, omega (arith, has.1), has.2)

first_one : {X : Type 0} (x y : X) (xs : List X) → y ≡ x → Contains (y ∷ xs) x
first_one x y xs same = (0, omega arith, same)

-- what is found is contained
find_has : {X : Type 0} (test : X → Bool) (xs : List X) (x : X) → find test xs ≡ Some x → Contains xs x
find_has test [] x is = (cc)
find_has test (y ∷ ys) x is = by (test y) (find_has test ys x) is
  where
    by : (b : Bool) → (find test ys ≡ Some x → Contains ys x) → (if b then Some y else find test ys) ≡ Some x → Contains (y ∷ ys) x
    by true later found = let same : y ≡ x = (cc) in first_one x y ys same
    by false later found = deeper x y ys (later found)

-- and what stands at a place
at_has : {X : Type 0} (xs : List X) (i : ℕ) (x : X) → slice_get xs i ≡ Some x → Contains xs x
at_has [] i x is = (cc)
at_has (y ∷ ys) zero x is = let same : y ≡ x = (cc) in first_one x y ys same
at_has (y ∷ ys) (suc i) x is = deeper x y ys (at_has ys i x is)

-- the slot of a sector is among those of all
slot_has : (sectors : List Stored) (s : Stored) → Contains sectors s → Contains (slots_of sectors) s.slot
slot_has sectors s has =
    let below : has.0 < length (slots_of sectors) = omega (arith, has.1, length-map sectors (λ (t : Stored). t.slot)) in
    (has.0, below, get_or-map (λ (t : Stored). t.slot) sectors has.0 s s.slot has.1 ∙ ap (λ (t : Stored). t.slot) has.2)

maybe_slot : (sectors : List Stored) (found : Option Stored) (slot : ℕ) → ((s : Stored) → found ≡ Some s → Contains sectors s) → option_map sector_slot found ≡ Some slot → Contains (slots_of sectors) slot
maybe_slot sectors None slot so is = (cc)
maybe_slot sectors (Some s) slot so is = let same : s.slot ≡ slot = (cc) in subst (Contains (slots_of sectors)) same (slot_has sectors s (so s refl))

-- a slot that a session wants is live
opened_slot : (h : Host) (session code slot : ℕ) (at : Kept → Option ℕ) → ((c : Kept) (s : ℕ) → at c ≡ Some s → Contains (slots_of c.sectors) s)
    → (open_now h session >>= (λ c. or_code code (at c))) ≡ Ok slot → Contains (live_slots h.state) slot
opened_slot h session code slot at so = by (open_now h session) refl
  where
    inner : (c : Kept) (found : Option ℕ) → at c ≡ found → or_code code found ≡ Ok slot → Contains (slots_of c.sectors) slot
    inner c None is found = (cc)
    inner c (Some s) is found = let same : s ≡ slot = (cc) in subst (Contains (slots_of c.sectors)) same (so c s is)

    by : (opened : Result Kept ℕ) → open_now h session ≡ opened → (opened >>= (λ c. or_code code (at c))) ≡ Ok slot → Contains (live_slots h.state) slot
    by (Err fault) is found = (cc)
    by (Ok c) is found = found_live slot c.id h.state.contracts c (opened_among h session c is) (inner c (at c) refl found)

wanted_live : (h : Host) (session slot : ℕ) (want : Want) → slot_wanted h session want ≡ Ok slot → Contains (live_slots h.state) slot
wanted_live h session slot (wants.Root root) is =
    opened_slot h session NO_SECTOR slot (λ c. slot_with c root)
    (λ c s at. maybe_slot c.sectors (find (λ (t : Stored). bytes_eq t.root root) c.sectors) s (λ t found. find_has (λ (u : Stored). bytes_eq u.root root) c.sectors t found) at) is
wanted_live h session slot (wants.Place place) is =
    opened_slot h session BAD_ACTION slot (λ c. slot_at c place) (λ c s at. maybe_slot c.sectors (slice_get c.sectors place) s (λ t found. at_has c.sectors place t found) at) is

pub fetch_works : (h : Host) (room : Room) (worker session : ℕ) (want : Want) (a : Reaction) → a ≡ fetch_reaction h worker session want → IsWork h room a
fetch_works h room worker session want a = by (slot_wanted h session want) refl
  where
    call : Call
    call = record { worker = worker; session = session; kind = kind.Fetch }

    by : (slot : Result ℕ ℕ) → slot_wanted h session want ≡ slot → a ≡ fetch_given h call slot → IsWork h room a
    by (Err code) at is = idle h room a (fetch_given h call (Err code)) refl refl is
    by (Ok slot) at is = fetches h room a (reply.Sector []) (event_of h call (held_now h session) outcome.Fine None) slot (wanted_live h session slot want at) (λ bytes size. tt) is

-- due contracts

-- the lesser of two that are contained is
lesser_has : {X : Type 0} (id : X → List ℕ) (y x : X) (ys : List X) (found : Option X) → (found ≡ Some x → Contains ys x) → lesser id y found ≡ Some x → Contains (y ∷ ys) x
lesser_has id y x ys None later is = let same : y ≡ x = (cc) in first_one x y ys same
lesser_has id y x ys (Some other) later is = choose (is_up_to (id y) (id other)) is
  where
    choose : (b : Bool) → (if b then Some y else Some other) ≡ Some x → Contains (y ∷ ys) x
    choose true at = let same : y ≡ x = (cc) in first_one x y ys same
    choose false at = deeper x y ys (later at)

least_has : {X : Type 0} (id : X → List ℕ) (fits : X → Bool) (xs : List X) (x : X) → least_by id fits xs ≡ Some x → Contains xs x
unfolding least_by
least_has id fits [] x is = (cc)
least_has id fits (y ∷ ys) x is = by (fits y) (least_has id fits ys x) is
  where
    by : (b : Bool) → (least_by id fits ys ≡ Some x → Contains ys x) → (if b then lesser id y (least_by id fits ys) else least_by id fits ys) ≡ Some x → Contains (y ∷ ys) x
    by true later at = lesser_has id y x ys (least_by id fits ys) later at
    by false later at = deeper x y ys (later at)

-- the next due contract is one of the host's
next_has : (h : Host) (id : List ℕ) (first : Bool) (c : Kept) → next_after id first (due_contracts h) ≡ Some c → Contains h.state.contracts c
unfolding due_contracts
next_has h id first c is =
    let behind = λ (x : Kept). first || is_above x.id id in
    let least = λ (x : Kept). is_due h x && behind x in
    least_has (λ (x : Kept). x.id) least h.state.contracts c
    (walk_ends (λ (x : Kept). x.id) behind (is_due h) h.state.contracts (least_by (λ (x : Kept). x.id) least h.state.contracts) refl ∙ is)

-- the slots of a contract that is contained are live
has_live : (slot : ℕ) (xs : List Kept) (c : Kept) → Contains xs c → Contains (slots_of c.sectors) slot → Contains (live_in xs) slot
has_live slot [] c has there = absurd (omega (arith, has.1))
has_live slot (x ∷ xs) c (zero, below, same) there = Contains-append_left (slots_of x.sectors) (live_in xs) slot (subst (λ (k : Kept). Contains (slots_of k.sectors) slot) (sym same) there)
has_live slot (x ∷ xs) c (suc k, below, same) there = Contains-append_right (slots_of x.sectors) (live_in xs) slot (has_live slot xs c (k, omega (arith, below), same) there)

-- the place that is asked for is one of the contract's sectors
place_within : (trigger contract : List ℕ) (count size : ℕ) → 0 < count → 0 < leaf_count size → chosen_leaf trigger contract count size / leaf_count size < count
unfolding chosen_leaf segment_index
place_within trigger contract count size some leaves = (div-lt_iff_lt-mul leaves).1 (mod-lt _ (mul-pos some leaves))

-- a sector has leaves
some_leaves : (size : ℕ) → ((power : ℕ) × (power ≤ 16) × (size ≡ 64 * 2 ^ power)) → 0 < leaf_count size
some_leaves size whole =
    let some : 0 < 2 ^ whole.0 = pow_pos whole.0 in
    omega (arith, some, whole.2)

-- what is handed out of a due contract is a job that lacks the bytes of a live slot
due_terms : (h : Host) (c : Kept) (terms : Terms) → IsSound h.settings.sector h.settings.host_key h.state.contracts → Contains h.state.contracts c → 0 < length c.sectors → Contains (live_slots h.state) (due_by h c terms).slot
due_terms h c terms sound has some =
    let count : length (roots_of c) ≡ length c.sectors = length-map c.sectors root_in in
    let place = (due_by h c terms).asked.place in
    let within : place < length c.sectors =
    subst (λ n. place < n) count (place_within (trigger_of h terms) c.id (length (roots_of c)) h.settings.sector (omega (arith, some, count)) (some_leaves h.settings.sector sound.size)) in
    has_live (due_by h c terms).slot h.state.contracts c has (slot_has c.sectors (get_or c.sectors place no_sector) (Contains-get_or c.sectors place no_sector within))

pub due_works : (h : Host) (room : Room) (worker : ℕ) (id : List ℕ) (first : Bool) (a : Reaction) → IsSound h.settings.sector h.settings.host_key h.state.contracts → a ≡ due_reaction h worker id first → IsWork h room a
due_works h room worker id first a sound = by (next_after id first (due_contracts h)) refl
  where
    call : Call
    call = asking worker kind.Due

    handed : (c : Kept) (terms : Option Terms) → next_after id first (due_contracts h) ≡ Some c → terms_of h.state.chain c.id ≡ terms → a ≡ due_handed h call (option_map (due_by h c) terms) → IsWork h room a
    handed c None next at is = idle h room a (none_left h call) refl refl is
    handed c (Some terms) next at is =
        let known = next_is_due h id first c sound.stored next in
        let some = due_has h c terms (due_by_terms h c terms known.0 at) known.1 in
        fetches h room a (reply.Next (Some (Lacking (due_by h c terms).asked))) (event_of h call (Some c.id) outcome.Fine None) (due_by h c terms).slot
        (due_terms h c terms sound (next_has h id first c next) some.0) (λ bytes size. size) is

    by : (found : Option Kept) → next_after id first (due_contracts h) ≡ found → a ≡ due_handed h call (option_and_then (due_now h) found) → IsWork h room a
    by None next is = idle h room a (none_left h call) refl refl is
    by (Some c) next is = handed c (terms_of h.state.chain c.id) next refl is
