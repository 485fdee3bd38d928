-- What a read of sections of sectors answers (RHP2's read sections).
use Rattle.std.specs.Prelude.{ℕ, ◌+◌, ◌/◌, nat_eq, Bool, false, ◌&&◌, List, [], ◌∷◌, length, map}
use Rattle.sia_merkle.specs.Roots.{leaf_count, leaf_digest, leaves_of}
use Rattle.sia_range.specs.Ranges.{part_between, roots_outside}
use Rattle.sia_rhp.specs.declared.answer_bodies.Part.{Part}
use Rattle.sia_rhp.specs.declared.request_bodies.ReadRequest.{ReadRequest}
use Rattle.sia_rhp.specs.declared.request_bodies.Section.{Section}
use Rattle.sia_records.specs.Fitting.{section_fits, sections_fit}

-- a read, and the sectors of its sections, in the order of the sections
pub record Read : Type 0 where
  pub request : ReadRequest
  pub fetched : List (List ℕ)

-- whether each section has a sector in which its range is fit, and no sector is left
unfoldable pub are_served : List Section → List (List ℕ) → Bool
are_served [] fetched = nat_eq (length fetched) 0
are_served (section ∷ others) [] = false
are_served (section ∷ others) (sector ∷ fetched) = section_fits (length sector) section && are_served others fetched

-- whether a read is fit by its numbers, in sectors of so many bytes: its sections are, and a sector was fetched for each
abbrev pub is_served : ℕ → Read → Bool
is_served sector read = sections_fit sector read.request.sections && are_served read.request.sections read.fetched

-- the part of a sector that a section asks for, and its range proof within the sector
abbrev pub part_of : Section → List ℕ → Part
part_of section sector = record {
  bytes = part_between section.offset (section.offset + section.length) sector;
  hashes = roots_outside (map leaf_digest (leaves_of sector)) (leaf_count (length sector)) (section.offset / 64) ((section.offset + section.length) / 64);
}

-- the part of each section, of its sector
unfoldable pub parts : List Section → List (List ℕ) → List Part
parts (section ∷ sections) (sector ∷ sectors) = part_of section sector ∷ parts sections sectors
parts _ _ = []

-- the parts of a read
abbrev pub parts_of : Read → List Part
parts_of read = parts read.request.sections read.fetched
