-- The actions of a write: a number, and the fields of its kind (RHP2's write actions).
use Rattle.std.specs.Prelude.{ℕ, ◌==◌, List, if◌then◌else◌, Option, Some, None}
use Rattle.sia_encoding.specs.Codec.{Codec}
use Rattle.sia_encoding.specs.Items.{number, byte_string}
use Rattle.sia_encoding.specs.Records.{◌&◌, named, choice, variant}
use Rattle.sia_rhp.specs.declared.action.Action.{Action}
use Rattle.sia_rhp.specs.declared.action.Action.TheVariants as actions

-- the kinds of actions
pub data Kind : Type 0 where
  Append : Kind
  Trim : Kind
  Swap : Kind
  Update : Kind

-- the number of a kind
abbrev pub kind_number : Kind → ℕ
kind_number Append = 0
kind_number Trim = 1
kind_number Swap = 2
kind_number Update = 3

-- the kind with a number, if there is one
abbrev pub kind_with : ℕ → Option Kind
kind_with n = if n == 0 then Some Append else if n == 1 then Some Trim else if n == 2 then Some Swap else if n == 3 then Some Update else None

-- the kind of an action
abbrev pub kind_of : Action → Kind
kind_of (actions.Append bytes) = Append
kind_of (actions.Trim count) = Trim
kind_of (actions.Swap one other) = Swap
kind_of (actions.Update place offset bytes) = Update

-- the bytes of a sector that is appended
abbrev pub append_parts : Action → Option (List ℕ)
append_parts (actions.Append bytes) = Some bytes
append_parts _ = None

-- how many sectors are trimmed
abbrev pub trim_parts : Action → Option ℕ
trim_parts (actions.Trim count) = Some count
trim_parts _ = None

-- the places that are swapped
abbrev pub swap_parts : Action → Option (ℕ × ℕ)
swap_parts (actions.Swap one other) = Some (one, other)
swap_parts _ = None

-- the place, the offset and the bytes of an update
abbrev pub update_parts : Action → Option (ℕ × (ℕ × List ℕ))
update_parts (actions.Update place offset bytes) = Some (place, (offset, bytes))
update_parts _ = None

-- what an action of a kind has
abbrev pub fields_of : Kind → Codec Action
fields_of Append = variant byte_string (λ p. actions.Append p) append_parts
fields_of Trim = variant number (λ p. actions.Trim p) trim_parts
fields_of Swap = variant (number & number) (λ p. actions.Swap p.0 p.1) swap_parts
fields_of Update = variant (number & number & byte_string) (λ p. actions.Update p.0 p.1.0 p.1.1) update_parts

-- an action
abbrev pub action : Codec Action
action = choice (named number kind_number kind_with) kind_of fields_of
