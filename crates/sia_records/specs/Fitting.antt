-- What a write or a read must keep by its numbers alone, whatever the contract holds (RHP2's write actions and read sections).
use Rattle.std.specs.Prelude.{ℕ, ◌+◌, ◌*◌, ◌%◌, nat_eq, nat_le, nat_lt, Bool, true, false, ◌&&◌, List, length, sum_by}
use Rattle.std.specs.List.{list_all}
use Rattle.sia_encoding.specs.declared.limits.TheConstants.{ACTIONS}
use Rattle.sia_rhp.specs.declared.action.Action.{Action}
use Rattle.sia_rhp.specs.declared.action.Action.TheVariants as actions
use Rattle.sia_rhp.specs.declared.request_bodies.Section.{Section}

-- whether a range inside a sector of so many bytes is fit: whole leaves, one at least, and within the sector
abbrev pub range_fits : ℕ → ℕ → ℕ → Bool
range_fits sector offset len = nat_eq (offset % 64) 0 && nat_eq (len % 64) 0 && nat_lt 0 len && nat_le (offset + len) sector

-- whether an action is fit in itself: what is appended is a whole sector, and what is updated a range that is fit
abbrev pub action_fits : ℕ → Action → Bool
action_fits sector (actions.Append bytes) = nat_eq (length bytes) sector
action_fits sector (actions.Update place offset bytes) = range_fits sector offset (length bytes)
action_fits sector _ = true

-- whether an action is an update whose range is fit
abbrev pub update_fits : ℕ → Action → Bool
update_fits sector (actions.Update place offset bytes) = range_fits sector offset (length bytes)
update_fits sector _ = false

-- whether the actions of a write are: at most 16, each fit in itself
abbrev pub actions_fit : ℕ → List Action → Bool
actions_fit sector steps = nat_le (length steps) ACTIONS && list_all (action_fits sector) steps

-- whether a section is a range that is fit
abbrev pub section_fits : ℕ → Section → Bool
section_fits sector section = range_fits sector section.offset section.length

-- whether the sections of a read are: 1 to 16, each a range that is fit, and together no more bytes than four sectors have
abbrev pub sections_fit : ℕ → List Section → Bool
sections_fit sector sections =
    nat_lt 0 (length sections) && nat_le (length sections) ACTIONS && list_all (section_fits sector) sections && nat_le (sum_by (λ section. section.length) sections) (4 * sector)
