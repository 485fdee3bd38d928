-- A piece of a disk that is kept between reads, so that reading on by few bytes takes few reads: what POSIX's pread gave at one
-- place.
use Rattle.std.specs.Prelude.{◌≡◌, ℕ, ◌+◌, ◌≤◌, Bool, IsTrue, List, length, take, drop}
use Rattle.sia_edge.specs.declared.traits.Got.{Got}
use Rattle.sia_edge.specs.declared.traits.Got.TheVariants as got
use Rattle.sia_journal.specs.declared.piece.Piece.{Piece}

-- the piece has the bytes that stand at its place in a file
abbrev pub Shows : List ℕ → Piece → Type 0
Shows file piece = take piece.count piece.bytes.items ≡ take piece.count (drop piece.base file)

-- The piece lies within the file, and where the disk tells its bytes they are the file's.
pub record IsPieceOf (tells : Bool) (file : List ℕ) (piece : Piece) : Type 0 where
  pub room : length piece.bytes.items ≡ 65536
  pub filled : piece.count ≤ 65536
  pub within : piece.base + piece.count ≤ length file
  pub shows : IsTrue tells → Shows file piece

-- a read at a place that gave bytes: they are the piece
abbrev pub HasRead : Got → ℕ → Piece → Type 0
HasRead (got.Bytes n) at piece = (piece.base ≡ at) × (piece.count ≡ n)
HasRead got.End at piece = Unit {0}
HasRead got.Failed at piece = Unit {0}
