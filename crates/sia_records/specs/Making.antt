-- What prepared writes and reads keep beside their requests. No public clause speaks of it.
use Rattle.std.specs.Prelude.{ℕ, ◌≡◌, nat_eq, Bool, true, false, ◌&&◌, List, [], ◌∷◌, ◌++◌, length, map, Option, Some, None}
use Rattle.std.specs.List.{flat_map}
use Rattle.sia_rhp.specs.declared.action.Action.{Action}
use Rattle.sia_rhp.specs.declared.action.Action.TheVariants as actions
use Rattle.sia_records.specs.declared.making.Made.{Made}
use Rattle.sia_rhp.specs.declared.answer_bodies.Part.{Part}
use Rattle.sia_rhp.specs.declared.request_bodies.Section.{Section}
use Rattle.sia_records.specs.Fitting.{range_fits}
use Rattle.sia_records.specs.Reads.{are_served, parts}
use Rattle.sia_records.specs.Writes.{Applied, with_sectors, taken_by, left_behind, updated, step_by, proof_by}

-- the sector after an action, if it is an update
abbrev pub changed_by : Action → List ℕ → List (List ℕ)
changed_by (actions.Update place offset bytes) old = updated offset bytes old ∷ []
changed_by _ old = []

-- whether an action, if it is an update, has a sector in which its range is fit
abbrev pub is_given : Action → List (List ℕ) → Bool
is_given (actions.Update place offset bytes) [] = false
is_given (actions.Update place offset bytes) (old ∷ fetched) = range_fits (length old) offset (length bytes)
is_given _ fetched = true

-- whether each update has a sector in which its range is fit, and no sector is left
unfoldable pub are_given : List Action → List (List ℕ) → Bool
are_given [] fetched = nat_eq (length fetched) 0
are_given (action ∷ others) fetched = is_given action fetched && are_given others (left_behind action fetched)

-- what one action adds
pub record Adds (action : Action) (done : Bool) (old new : List (List ℕ)) (before now : Made) : Type 0 where
  pub given : done ≡ is_given action old
  pub left : done ≡ true → new ≡ left_behind action old
  pub steps : done ≡ true → now.steps ≡ before.steps ++ step_by action (taken_by action old) ∷ []
  pub changed : done ≡ true → now.changed ≡ before.changed ++ changed_by action (taken_by action old)
  pub proofs : done ≡ true → now.proofs ≡ before.proofs ++ proof_by action (taken_by action old)

-- what some actions make
pub record Makes (done : List Applied) (made : Made) : Type 0 where
  pub steps : made.steps ≡ map (λ one. step_by one.action one.old) done
  pub changed : made.changed ≡ flat_map (λ one. changed_by one.action one.old) done
  pub proofs : made.proofs ≡ flat_map (λ one. proof_by one.action one.old) done

-- What is made of a write: nothing where an update has no sector in which its range is fit, or a sector is left.
abbrev pub IsMade : List Action → List (List ℕ) → Option Made → Type 0
IsMade steps fetched None = are_given steps fetched ≡ false
IsMade steps fetched (Some made) = (are_given steps fetched ≡ true) × Makes (with_sectors steps fetched) made

-- the new sectors of actions, where the updated ones are given in order
unfoldable pub merged : List Action → List (List ℕ) → List (List ℕ)
merged [] changed = []
merged (actions.Append bytes ∷ others) changed = bytes ∷ merged others changed
merged (actions.Update place offset bytes ∷ others) [] = merged others []
merged (actions.Update place offset bytes ∷ others) (sector ∷ changed) = sector ∷ merged others changed
merged (_ ∷ others) changed = merged others changed

-- What is made of a write as far as its actions were done: those that are left take the sectors that are left.
pub record MakesSoFar (steps left : List Action) (fetched rest : List (List ℕ)) (made : Made) : Type 0 where
  pub done : (front : List Applied) × (with_sectors steps fetched ≡ front ++ with_sectors left rest) × Makes front made
  pub given : are_given steps fetched ≡ are_given left rest

-- What is made of a read: nothing where a section has no sector in which its range is fit, or a sector is left.
abbrev pub ArePartsMade : List Section → List (List ℕ) → Option (List Part) → Type 0
ArePartsMade sections fetched None = are_served sections fetched ≡ false
ArePartsMade sections fetched (Some made) = (are_served sections fetched ≡ true) × (made ≡ parts sections fetched)

-- What is made of a read as far as its sections were served: those that are left take the sectors that are left.
pub record PartsSoFar (sections left : List Section) (fetched rest : List (List ℕ)) (made : List Part) : Type 0 where
  pub done : parts sections fetched ≡ made ++ parts left rest
  pub served : are_served sections fetched ≡ are_served left rest
