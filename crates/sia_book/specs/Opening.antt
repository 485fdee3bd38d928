-- What a journal's records make of a host, and how an opening refuses them (siad's modules/host keeps the same
-- of each contract; that it is told by a journal of records is this project's own).
use Rattle.std.specs.Prelude.{◌≡◌, ℕ, ◌≤◌, Bool, true, false, not, min, ◌&&◌, nat_lt, nat_le, List, [], ◌∷◌, ◌++◌, length, Option, Some, None}
use Rattle.std.specs.List.{All, Contains}
use Rattle.sia_journal.specs.Listed.{place_after}
use Rattle.sia_shelf.specs.Slots.{end_of}
use Rattle.sia_shelf.specs.Shelf.{mark_of}
use Rattle.sia_shelf.specs.declared.mark.Mark.{Mark}
use Rattle.sia_shelf.specs.declared.mark.Mark.TheVariants as mark
use Rattle.sia_records.specs.declared.host_record.HostRecord.{HostRecord}
use Rattle.sia_host.specs.Answered.{Host}
use Rattle.sia_host.specs.Replaying.{IsPayload, replays, with_made}

-- Payloads make a host of what it was before the first of them: each is a record, spelled whole and without a rest, that follows on those
-- before it.
abbrev pub Replayed : (List ℕ → List ℕ → List ℕ → Bool) → Host → List (List ℕ) → Host → Type 0
Replayed accepts h [] after = after ≡ h
Replayed accepts h (payload ∷ others) after = (made : HostRecord) × IsPayload payload made × (replays accepts h made ≡ true) × Replayed accepts (with_made h made) others after

-- The first payload that is no record, or doesn't follow on those before it: its gate stands at this place.
pub record BreaksOff (accepts : List ℕ → List ℕ → List ℕ → Bool) (h : Host) (payloads : List (List ℕ)) (at : ℕ) : Type 0 where
  pub front : List (List ℕ)
  pub payload : List ℕ
  pub behind : List (List ℕ)
  pub are : payloads ≡ front ++ payload ∷ behind
  pub before : Host
  pub made : Replayed accepts h front before
  pub unfit : (made : HostRecord) → IsPayload payload made → replays accepts before made ≡ false
  pub stands : at ≡ place_after front

-- a slot isn't on a shelf with so many slots, or not whole on a disk that ends there
abbrev pub is_missing : ℕ → ℕ → ℕ → ℕ → Bool
is_missing sector slots end slot = not (nat_lt slot slots && nat_le (end_of sector slot) end)

-- the least slot that is missing, with one more that may be
abbrev pub least_missing_with : Option ℕ → ℕ → Bool → Option ℕ
least_missing_with least slot false = least
least_missing_with None slot true = Some slot
least_missing_with (Some least) slot true = Some (min least slot)

-- The least of these slots that isn't whole on the shelf, or none where each is.
abbrev pub IsLeastMissing : ℕ → ℕ → ℕ → List ℕ → Option ℕ → Type 0
IsLeastMissing sector slots end live None = All (λ (slot : ℕ). is_missing sector slots end slot ≡ false) live
IsLeastMissing sector slots end live (Some least) =
    Contains live least × (is_missing sector slots end least ≡ true) × All (λ (slot : ℕ). is_missing sector slots end slot ≡ true → least ≤ slot) live

-- The marks of so many slots, of which these are live and all others free.
pub record MarksLive (live : List ℕ) (slots : ℕ) (marks : List Mark) : Type 0 where
  pub count : length marks ≡ slots
  pub are_live : (slot : ℕ) → Contains live slot → mark_of marks slot ≡ mark.Live
  pub are_free : (slot : ℕ) → (Contains live slot → ⊥) → mark_of marks slot ≡ mark.Free
