-- What the actions of a write do to the sectors of a contract (RHP2's write actions). An update takes a sector as it was, so a
-- write is looked at beside the sectors that its updates change.
use Rattle.std.specs.Prelude.{ℕ, ◌+◌, ◌/◌, nat_eq, Bool, true, false, ◌&&◌, List, [], ◌∷◌, length, map, drop, count_by, slice_index_or, if◌then◌else◌}
use Rattle.std.specs.List.{flat_map, list_all}
use Rattle.sia_merkle.specs.Roots.{leaf_count, leaf_digest, leaves_of, root_of}
use Rattle.sia_range.specs.Ranges.{replaced, roots_inside, roots_outside}
use Rattle.sia_diff.specs.declared.steps.DiffStep.{DiffStep}
use Rattle.sia_diff.specs.declared.steps.DiffStep.TheVariants as step
use Rattle.sia_types.specs.declared.update_proof.UpdateProof.{UpdateProof}
use Rattle.sia_rhp.specs.declared.action.Action.{Action}
use Rattle.sia_rhp.specs.declared.action.Action.TheVariants as actions
use Rattle.sia_rhp.specs.declared.request_bodies.WriteRequest.{WriteRequest}
use Rattle.sia_records.specs.Fitting.{actions_fit}

-- a write, and the sectors that its updates change, in the order of the updates and as they were
pub record Prepared : Type 0 where
  pub request : WriteRequest
  pub fetched : List (List ℕ)

-- whether an action changes bytes of a sector
abbrev pub is_update : Action → Bool
is_update (actions.Update place offset bytes) = true
is_update _ = false

-- whether an action puts a sector that wasn't there before: it appends one, or changes bytes of one
abbrev pub puts_sector : Action → Bool
puts_sector (actions.Append bytes) = true
puts_sector (actions.Update place offset bytes) = true
puts_sector _ = false

-- Whether a write is fit by its numbers, in sectors of so many bytes: its actions are, and a sector of that length was fetched for
-- each update.
unfoldable pub is_prepared : ℕ → Prepared → Bool
is_prepared sector write =
    actions_fit sector write.request.actions && nat_eq (length write.fetched) (count_by is_update write.request.actions) && list_all (λ old. nat_eq (length old) sector) write.fetched

-- an action, and the sector that it changes, if it changes one
pub record Applied : Type 0 where
  pub action : Action
  pub old : List ℕ

-- the sector that an action changes: an update the next of those that were fetched, and another action none
abbrev pub taken_by : Action → List (List ℕ) → List ℕ
taken_by action fetched = if is_update action then slice_index_or fetched 0 [] else []

-- the sectors that are left for the actions behind it
abbrev pub left_behind : Action → List (List ℕ) → List (List ℕ)
left_behind action fetched = if is_update action then drop 1 fetched else fetched

-- each action with the sector that it changes
unfoldable pub with_sectors : List Action → List (List ℕ) → List Applied
with_sectors [] fetched = []
with_sectors (action ∷ others) fetched = record { action = action; old = taken_by action fetched } ∷ with_sectors others (left_behind action fetched)

-- a sector with other bytes from an offset on
abbrev pub updated : ℕ → List ℕ → List ℕ → List ℕ
updated offset bytes old = replaced offset (offset + length bytes) bytes old

-- the root of a sector
abbrev pub sector_root : List ℕ → List ℕ
sector_root sector = root_of (leaves_of sector)

-- the step that an action is for the list of the roots of a contract's sectors
abbrev pub step_by : Action → List ℕ → DiffStep
step_by (actions.Append bytes) old = step.Append (sector_root bytes)
step_by (actions.Trim count) old = step.Trim count
step_by (actions.Swap one other) old = step.Swap one other
step_by (actions.Update place offset bytes) old = step.Set place (sector_root (updated offset bytes old))

-- the sector that an action puts, if it puts one
abbrev pub new_by : Action → List ℕ → List (List ℕ)
new_by (actions.Append bytes) old = bytes ∷ []
new_by (actions.Update place offset bytes) old = updated offset bytes old ∷ []
new_by _ old = []

-- the proof of an update: the roots of the cover of the leaves that it changes, and those of the cover of all others
abbrev pub proof_of_update : ℕ → List ℕ → List ℕ → UpdateProof
proof_of_update offset bytes old = record {
  inner = roots_inside (map leaf_digest (leaves_of old)) (leaf_count (length old)) (offset / 64) ((offset + length bytes) / 64);
  outer = roots_outside (map leaf_digest (leaves_of old)) (leaf_count (length old)) (offset / 64) ((offset + length bytes) / 64);
}

-- the proof of an action, if it is an update
abbrev pub proof_by : Action → List ℕ → List UpdateProof
proof_by (actions.Update place offset bytes) old = proof_of_update offset bytes old ∷ []
proof_by _ old = []

-- the steps of a write, in order
unfoldable pub steps_of : Prepared → List DiffStep
steps_of write = map (λ done. step_by done.action done.old) (with_sectors write.request.actions write.fetched)

-- the sectors that it puts, in order
unfoldable pub sectors_of : Prepared → List (List ℕ)
sectors_of write = flat_map (λ done. new_by done.action done.old) (with_sectors write.request.actions write.fetched)

-- the proofs of its updates, in order
unfoldable pub updates_of : Prepared → List UpdateProof
updates_of write = flat_map (λ done. proof_by done.action done.old) (with_sectors write.request.actions write.fetched)
