-- A file of the system as a disk (POSIX): contracts see how long it is, and no byte of it.
use Rattle.std.specs.Prelude.{◌≡◌, ℕ, List, Option, IsNone, false, IsTrue, replicate}
use Rattle.std.proofs.Common.{rules}
use Rattle.sia_edge.specs.Disk.{Standing}

-- so many bytes, with no word on which
abbrev pub untold : ℕ → List ℕ
untold end = replicate end 0

-- no image is told
abbrev pub no_image : ℕ → List ℕ → Type 0
no_image moment c = ⊥

-- how a file stands, by its length and its count of faults
abbrev pub untold_standing : ℕ → ℕ → Standing
untold_standing end faults = record { seen = untold end; moment = 0; since = no_image; faults = faults; earlier = λ t u image before within left. left }

-- what a disk that tells nothing owes to one that tells
pub nothing_told : IsTrue false → ⊥
nothing_told told = search rules

-- A call on a disk that may have no file: without one it fails, and where it fails there is none from then on, and the length
-- stays.
pub record FailsForGood {F : Type 0} (old new : Option F) (before now : ℕ) (failed : Type 0) : Type 0 where
  pub empty : IsNone old → failed
  pub gone : failed → IsNone new
  pub kept : failed → now ≡ before
