-- What one call makes of the bytes of an open file, where they are told (POSIX: pread, pwrite).
use Rattle.std.specs.Prelude.{◌≡◌, ◌≤◌, ℕ, List, Option, None, Some, option_map, length, take, drop}
use Rattle.sia_edge.specs.Disk.{overwritten}
use Rattle.sia_edge.specs.declared.traits.Got.{Got}
use Rattle.sia_edge.specs.declared.traits.Got.TheVariants as got
use Rattle.sia_edge.specs.declared.traits.Put.{Put}
use Rattle.sia_edge.specs.declared.traits.Put.TheVariants as put

-- Bytes(n): the first n bytes at the place. End: there is none.
abbrev pub ReadsAt : Got → List ℕ → ℕ → List ℕ → Type 0
ReadsAt (got.Bytes n) buffer at held = take n buffer ≡ take n (drop at held)
ReadsAt got.End buffer at held = length held ≤ at
ReadsAt got.Failed buffer at held = Unit {0}

-- Taken(n): the first n bytes of the piece stand at the place
abbrev pub PutsAt : Put → ℕ → List ℕ → Option (List ℕ) → Option (List ℕ) → Type 0
PutsAt (put.Taken n) at piece old new = new ≡ option_map (λ held. overwritten held at (take n piece)) old
PutsAt put.Failed at piece old new = Unit {0}

-- what a file that may be gone tells
abbrev pub told_of : {F : Type 0} → (F → Option (List ℕ)) → Option F → Option (List ℕ)
told_of tells None = None
told_of tells (Some file) = tells file
