-- Pieces of neighbouring places.
use Rattle.std.specs.Prelude.{ℕ, ◌+◌, ◌<◌, ◌≡◌, List, length}
use Rattle.std.specs.List.{slice_index_or}
use Rattle.sia_pieces.specs.declared.piece.Piece.{Piece}

-- the places go up by one, from a first one on
abbrev pub ArePlaced : ℕ → List Piece → Type 0
ArePlaced first pieces = (index : ℕ) → (piece : Piece) → index < length pieces → (slice_index_or pieces index piece).place ≡ first + index
