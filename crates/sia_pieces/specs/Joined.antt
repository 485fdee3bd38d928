-- The bytes that some pieces stand for. No machine finds them here: groups are asked for whose values are the pieces' bytes.
-- Public source: J. S. Plank, 'A Tutorial on Reed-Solomon Coding for Fault-Tolerance in RAID-like Systems' (1997).
use Rattle.std.specs.Prelude.{ℕ, ◌≡◌, ◌≢◌, ◌<◌, ◌≤◌, List, All, AllPairs, length, take, slice_index_or, []}
use Rattle.std.specs.Int.{div_ceil}
use Rattle.std.specs.List.{concat}
use Rattle.sia_pieces.specs.declared.piece.Piece.{Piece}
use Rattle.sia_pieces.specs.Pieces.{values_at, pieces}

-- groups of k bytes whose values at each piece's place are its bytes
pub record HavePieces (k : ℕ) (chosen : List Piece) (groups : List (List ℕ)) : Type 0 where
  pub sized : All (λ (group : List ℕ). length group ≡ k) groups
  pub bytes : All (λ (group : List ℕ). All (λ (byte : ℕ). byte < 256) group) groups
  pub values : All (λ (piece : Piece). values_at piece.place groups ≡ piece.bytes) chosen

-- the first bytes, that many, of groups that have the pieces
abbrev pub IsJoined : ℕ → List Piece → ℕ → List ℕ → Type 0
IsJoined k chosen count joined = (groups : List (List ℕ)) × HavePieces k chosen groups × (joined ≡ take count (concat groups))

-- there are so many pieces
abbrev pub AreSoMany : ℕ → List Piece → Type 0
AreSoMany count chosen = length chosen ≡ count

-- each place is below n
abbrev pub AreBelow : ℕ → List Piece → Type 0
AreBelow n chosen = All (λ (piece : Piece). piece.place < n) chosen

-- each piece has so many bytes
abbrev pub HaveLength : ℕ → List Piece → Type 0
HaveLength count chosen = All (λ (piece : Piece). length piece.bytes ≡ count) chosen

-- each piece has a byte t
abbrev pub HaveByte : ℕ → List Piece → Type 0
HaveByte t chosen = All (λ (piece : Piece). t < length piece.bytes) chosen

-- different places below n
pub record HaveOwnPlaces (n : ℕ) (chosen : List Piece) : Type 0 where
  pub within : AreBelow n chosen
  pub differ : AllPairs (λ (piece other : Piece). piece.place ≢ other.place) chosen

-- each one is the piece of some bytes at its place
abbrev pub AreCutFrom : ℕ → ℕ → List ℕ → List Piece → Type 0
AreCutFrom k n bytes chosen = All (λ (piece : Piece). slice_index_or (pieces k n bytes) piece.place [] ≡ piece.bytes) chosen

-- any k of the n pieces of any bytes stand for no others
abbrev pub PiecesComeBack : Type 0
PiecesComeBack =
    (bytes joined : List ℕ) (k n : ℕ) (chosen : List Piece) → All (λ (byte : ℕ). byte < 256) bytes → 1 ≤ k → k ≤ n → n ≤ 16
    → length chosen ≡ k → HaveOwnPlaces n chosen → AreCutFrom k n bytes chosen → IsJoined k chosen (length bytes) joined → joined ≡ bytes

-- any k pieces of one length stand for one list of bytes at most
abbrev pub PiecesStandForOne : Type 0
PiecesStandForOne =
    (joined other : List ℕ) (k count : ℕ) (chosen : List Piece) → 1 ≤ k → length chosen ≡ k → HaveOwnPlaces 16 chosen
    → HaveLength (div_ceil count k) chosen → IsJoined k chosen count joined → IsJoined k chosen count other → joined ≡ other
