-- How the code finds a group from its values, by divided differences. No public clause speaks of it.
use Rattle.std.specs.Prelude.{ℕ, ◌-◌, ◌%◌, List, [], ◌∷◌, map, bit_xor, slice_index}
use Rattle.sia_pieces.specs.declared.field.TheConstants.{POWERS, EXPONENTS}
use Rattle.sia_pieces.specs.declared.piece.Piece.{Piece}
use Rattle.sia_pieces.specs.Field.{product}

-- the element whose product with a is 1
unfoldable pub reciprocal : ℕ → ℕ
reciprocal a = slice_index POWERS ((255 - slice_index EXPONENTS a) % 255)

-- the slope from the value y at p to the value z at q
unfoldable pub slope : ℕ → ℕ → ℕ → ℕ → ℕ
slope p y q z = product (bit_xor z y) (reciprocal (bit_xor q p))

-- the slopes from the value y at p to some values at their places
unfoldable pub slopes : ℕ → ℕ → List ℕ → List ℕ → List ℕ
slopes p y [] values = []
slopes p y (q ∷ places) [] = []
slopes p y (q ∷ places) (z ∷ values) = slope p y q z ∷ slopes p y places values

-- the product of the polynomial behind the first coefficient with x + p, and that coefficient
unfoldable pub raised : ℕ → List ℕ → List ℕ
raised p [] = []
raised p (y ∷ ys) = bit_xor y (product p (slice_index ys 0)) ∷ raised p ys

-- the coefficients of the polynomial with some values at some places
unfoldable pub solved : List ℕ → List ℕ → List ℕ
solved [] values = []
solved (p ∷ places) [] = []
solved (p ∷ places) (y ∷ values) = raised p (y ∷ solved places (slopes p y places values))

-- the places of some pieces
abbrev pub places : List Piece → List ℕ
places chosen = map (λ (piece : Piece). piece.place) chosen

-- byte t of each piece
abbrev pub column : ℕ → List Piece → List ℕ
column t chosen = map (λ (piece : Piece). slice_index piece.bytes t) chosen
