-- When hashes join to a root (RHP2): those at the places of a set, and the roots of the cover of all others.
use Rattle.std.specs.Prelude.{ℕ, ◌≡◌, Bool, List, count_by}
use Rattle.std.specs.List.{range_with_len}
use Rattle.sia_merkle.specs.Computations.{Tree, hash_of}
use Rattle.sia_merkle.specs.Segments.{joined_within, joined_segments_within, Joins, JoinsSegments}

-- how many chosen places are below a place
abbrev pub count_below : (ℕ → Bool) → ℕ → ℕ
count_below chosen place = count_by chosen (range_with_len 0 place)

-- what is computed at the chosen places and the roots of the cover of all others join to the root, none missing or left over
abbrev pub JoinTo : (ℕ → Bool) → ℕ → List Tree → List (List ℕ) → List ℕ → Type 0
JoinTo chosen count inner outer root = Joins chosen count inner outer (joined_within chosen count count 0 inner outer) × (hash_of (joined_within chosen count count 0 inner outer) ≡ root)

-- the same where `inner` has the roots of the cover of the chosen places
abbrev pub SegmentsJoinTo : (ℕ → Bool) → ℕ → List (List ℕ) → List (List ℕ) → List ℕ → Type 0
SegmentsJoinTo chosen count inner outer root =
    JoinsSegments chosen count inner outer (joined_segments_within chosen count count 0 inner outer) × (hash_of (joined_segments_within chosen count count 0 inner outer) ≡ root)
