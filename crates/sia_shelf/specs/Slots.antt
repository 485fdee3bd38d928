-- Slots: equal parts of a disk, side by side from its first byte on, as in siad's storage folders. Each holds one sector.
use Rattle.std.specs.Prelude.{◌≡◌, ◌≢◌, ℕ, ◌+◌, ◌*◌, ◌^◌, ◌≤◌, List, length, take, drop}

-- the sizes that a sector may have: 64 bytes times a power of 2, up to 4 MiB
abbrev pub IsSectorSize : ℕ → Type 0
IsSectorSize size = (power : ℕ) × (power ≤ 16) × (size ≡ 64 * 2 ^ power)

-- where a slot ends
abbrev pub end_of : ℕ → ℕ → ℕ
end_of sector slot = (slot + 1) * sector

-- the bytes in a slot of an image, less than a sector where the image ends before the slot does
abbrev pub slot_of : ℕ → ℕ → List ℕ → List ℕ
slot_of sector slot image = take sector (drop (slot * sector) image)

-- a slot of an image holds these bytes, a sector
pub record Has (sector slot : ℕ) (bytes image : List ℕ) : Type 0 where
  pub size : length bytes ≡ sector
  pub is : slot_of sector slot image ≡ bytes

-- what any other slot held, it holds still
abbrev pub KeepsOthers : ℕ → ℕ → List ℕ → List ℕ → Type 0
KeepsOthers sector slot old new = (other : ℕ) (bytes : List ℕ) → other ≢ slot → Has sector other bytes old → Has sector other bytes new
