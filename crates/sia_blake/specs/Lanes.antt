-- Four messages side by side: each word is a vector, with one lane for each message.
use Rattle.std.specs.Prelude.{ℕ, List, [], map, slice_index, slice_index_or}
use Rattle.std.specs.List.{range_with_len}

-- lane j of vector k
abbrev pub lane_at : List (List ℕ) → ℕ → ℕ → ℕ
lane_at vs k j = slice_index (slice_index_or vs k []) j

-- lane j of the first n vectors
abbrev pub lane : ℕ → ℕ → List (List ℕ) → List ℕ
lane n j vs = map (λ k. lane_at vs k j) (range_with_len 0 n)
