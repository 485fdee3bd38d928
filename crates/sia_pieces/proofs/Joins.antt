-- The groups that the code finds are those, and the only ones, that have the pieces.
use Rattle.std.proofs.Common.{◌≡◌, ℕ, zero, suc, ◌+◌, ◌-◌, ◌*◌, ◌<◌, ◌≤◌, List, [], ◌∷◌, ◌++◌, map, length, get_or, take, drop, replicate, refl, sym, ◌∙◌, ap, subst, arith, inl, inr, All, append_assoc, length-append, length-drop}
use Rattle.std.specs.List.{concat, range_with_len}
use Rattle.std.specs.Int.{div_ceil}
use Rattle.std.proofs.lemmas.Bool.{cases_lt}
use Rattle.std.proofs.lemmas.List.{get_or-map, length-map, length-take, length-replicate, take_all, take_at, take-append-drop, same_lists}
use Rattle.std.proofs.lemmas.List.FromFn.{length-range_with_len, get_or-map-range_with_len}
use Rattle.std.proofs.lemmas.Grind.{same_number_lists, div_ceil_times}
use Rattle.std.proofs.Math.Nat.{zero-mul, one-mul, add-mul}
use Rattle.sia_pieces.specs.declared.piece.Piece.{Piece}
use Rattle.sia_pieces.specs.Pieces.{value, filled, first_groups, groups, values_at}
use Rattle.sia_pieces.specs.Joined.{HavePieces, IsJoined, HaveOwnPlaces, AreCutFrom, HaveLength}
use Rattle.sia_pieces.specs.Solving.{solved, places, column}
use Rattle.sia_pieces.proofs.Values.{AreElements, value_lt, other_elements, dropped_elements, elements_within}
use Rattle.sia_pieces.proofs.Groups.{append_none}
use Rattle.sia_pieces.proofs.Solutions.{AreDistinct, length-solved, solved_elements, solved_has, solved_only}

-- ---- elements, by each spelling

all_from_elements : (ds : List ℕ) → AreElements ds → (k e : ℕ) → k < length ds → get_or ds k e < 256
all_from_elements [] all k e lt = absurd (omega arith)
all_from_elements (d ∷ ds) all zero e lt = all 0
all_from_elements (d ∷ ds) all (suc k) e lt = all_from_elements ds (other_elements d ds all) k e (omega arith)

elements_from_all : (ds : List ℕ) → All (λ (d : ℕ). d < 256) ds → AreElements ds
elements_from_all ds all = elements_within ds (λ i within. all i 0 within)

-- ---- the pieces' places and bytes

pub place_is : (chosen : List Piece) (i : ℕ) (d : Piece) → i < length chosen → get_or (places chosen) i 0 ≡ (get_or chosen i d).place
place_is chosen i d lt = get_or-map (λ (piece : Piece). piece.place) chosen i d 0 lt

pub byte_is : (t : ℕ) (chosen : List Piece) (i : ℕ) (d : Piece) → i < length chosen → get_or (column t chosen) i 0 ≡ get_or (get_or chosen i d).bytes t 0
byte_is t chosen i d lt = get_or-map (λ (piece : Piece). get_or piece.bytes t 0) chosen i d 0 lt

elements_below : (f : Piece → ℕ) (chosen : List Piece) → All (λ (piece : Piece). f piece < 256) chosen → (i : ℕ) → get_or (map f chosen) i 0 < 256
elements_below f [] all i = omega arith
elements_below f (c ∷ cs) all zero = all 0 c (omega arith)
elements_below f (c ∷ cs) all (suc i) = elements_below f cs (λ k d lt. all (suc k) d (omega arith)) i

place_lt : (chosen : List Piece) → HaveOwnPlaces 16 chosen → (i : ℕ) (d : Piece) → i < length chosen → (get_or chosen i d).place < 256
place_lt chosen apart i d lt = let h : (get_or chosen i d).place < 16 = apart.within i d lt in omega arith

places_elements : (chosen : List Piece) → HaveOwnPlaces 16 chosen → AreElements (places chosen)
places_elements chosen apart = elements_below (λ (piece : Piece). piece.place) chosen (λ k d lt. place_lt chosen apart k d lt)

places_distinct : (c : Piece) (cs : List Piece) → HaveOwnPlaces 16 (c ∷ cs) → AreDistinct (places (c ∷ cs))
places_distinct c cs apart = λ i j less lt.
    let long : length (places (c ∷ cs)) ≡ length (c ∷ cs) = length-map (c ∷ cs) (λ (piece : Piece). piece.place) in
    let within : j < length (c ∷ cs) = omega arith in
    let below : i < length (c ∷ cs) = omega arith in
    λ same. apart.differ i j c less within (sym (place_is (c ∷ cs) i c below) ∙ same ∙ place_is (c ∷ cs) j c within)

-- ---- the groups that the code finds

abbrev pub found_groups : List Piece → ℕ → List (List ℕ)
found_groups chosen count = map (λ t. solved (places chosen) (column t chosen)) (range_with_len 0 count)

length-found : (chosen : List Piece) (count : ℕ) → length (found_groups chosen count) ≡ count
length-found chosen count = length-map (range_with_len 0 count) (λ t. solved (places chosen) (column t chosen)) ∙ length-range_with_len 0 count

found_at : (chosen : List Piece) (count t : ℕ) (d : List ℕ) → t < count → get_or (found_groups chosen count) t d ≡ solved (places chosen) (column t chosen)
found_at chosen count t d lt = get_or-map-range_with_len (λ t. solved (places chosen) (column t chosen)) 0 count t t d lt (omega arith)

same_length : (t : ℕ) (chosen : List Piece) → length (column t chosen) ≡ length (places chosen)
same_length t chosen = length-map chosen (λ (piece : Piece). get_or piece.bytes t 0) ∙ sym (length-map chosen (λ (piece : Piece). piece.place))

-- byte t of the values at a place is the value of group t
value_at_is : (place : ℕ) (gs : List (List ℕ)) (t : ℕ) → t < length gs → get_or (values_at place gs) t 0 ≡ value (get_or gs t []) place
value_at_is place gs t lt = get_or-map (λ (group : List ℕ). value group place) gs t [] 0 lt

pub found_have : (c : Piece) (cs : List Piece) (count : ℕ) → HaveOwnPlaces 16 (c ∷ cs) → HaveLength count (c ∷ cs) → ((t : ℕ) → t < count → AreElements (column t (c ∷ cs))) → HavePieces (length (c ∷ cs)) (c ∷ cs) (found_groups (c ∷ cs) count)
found_have c cs count apart long elements =
    let chosen : List Piece = c ∷ cs in
    let size : length (places chosen) ≡ length chosen = length-map chosen (λ (piece : Piece). piece.place) in
    record {
      sized = λ t d lt.
          let within : t < count = omega (arith, length-found chosen count) in
          ap length (found_at chosen count t d within) ∙ length-solved (places chosen) (column t chosen) (same_length t chosen) ∙ size;
      bytes = λ t d lt.
          let within : t < count = omega (arith, length-found chosen count) in
          let all : All (λ (b : ℕ). b < 256) (solved (places chosen) (column t chosen)) =
          all_from_elements (solved (places chosen) (column t chosen)) (solved_elements (places chosen) (column t chosen) (places_elements chosen apart) (elements t within)) in
          subst (λ (g : List ℕ). All (λ (b : ℕ). b < 256) g) (sym (found_at chosen count t d within)) all;
      values = λ i d lt.
          same_number_lists (values_at (get_or chosen i d).place (found_groups chosen count)) (get_or chosen i d).bytes
          (length-map (found_groups chosen count) (λ (group : List ℕ). value group (get_or chosen i d).place) ∙ length-found chosen count ∙ sym (long i d lt))
          (λ t h.
          let wide : length (values_at (get_or chosen i d).place (found_groups chosen count)) ≡ count = length-map (found_groups chosen count) (λ (group : List ℕ). value group (get_or chosen i d).place) ∙ length-found chosen count in
          let within : t < count = omega arith in
          let inside : t < length (found_groups chosen count) = omega (arith, length-found chosen count) in
          let at : i < length (places chosen) = omega arith in
          value_at_is (get_or chosen i d).place (found_groups chosen count) t inside
          ∙ ap (λ g. value g (get_or chosen i d).place) (found_at chosen count t [] within)
          ∙ ap (value (solved (places chosen) (column t chosen))) (sym (place_is chosen i d lt))
          ∙ solved_has (places chosen) (column t chosen) (same_length t chosen) (places_distinct c cs apart) (places_elements chosen apart) (elements t within) i at
          ∙ byte_is t chosen i d lt);
    }

-- the bytes of those groups stand for the pieces
pub joined_is : (chosen : List Piece) (k count : ℕ) (joined : List ℕ) → 1 ≤ k → length chosen ≡ k → HaveOwnPlaces 16 chosen → HaveLength (div_ceil count k) chosen → ((t : ℕ) → t < div_ceil count k → AreElements (column t chosen)) → joined ≡ take count (concat (found_groups chosen (div_ceil count k))) → IsJoined k chosen count joined
joined_is [] k count joined some all apart long elements is = absurd (omega arith)
joined_is (c ∷ cs) k count joined some all apart long elements is =
    let have : HavePieces (length (c ∷ cs)) (c ∷ cs) (found_groups (c ∷ cs) (div_ceil count k)) = found_have c cs (div_ceil count k) apart long elements in
    (found_groups (c ∷ cs) (div_ceil count k), subst (λ m. HavePieces m (c ∷ cs) (found_groups (c ∷ cs) (div_ceil count k))) all have, is)

-- the same, told by how they were joined
pub joined_from : (chosen : List Piece) (k count groups : ℕ) (front all joined : List ℕ) → 1 ≤ k → length chosen ≡ k → HaveOwnPlaces 16 chosen → HaveLength (div_ceil count k) chosen → groups ≡ div_ceil count k → ((t : ℕ) → t < groups → AreElements (column t chosen)) → front ≡ [] → all ≡ front ++ concat (found_groups chosen groups) → joined ≡ take count all → IsJoined k chosen count joined
joined_from chosen k count groups front all joined some many apart long so elements none whole is =
    joined_is chosen k count joined some many apart long
    (λ t lt. elements t (subst (λ n. t < n) (sym so) lt))
    (is ∙ ap (take count) (whole ∙ ap (λ xs. xs ++ concat (found_groups chosen groups)) none ∙ ap (λ n. concat (found_groups chosen n)) so))

-- groups that have the pieces are as many as these have bytes
count_of_groups : (k count : ℕ) (c : Piece) (cs : List Piece) (gs : List (List ℕ)) → HaveLength count (c ∷ cs) → HavePieces k (c ∷ cs) gs → length gs ≡ count
count_of_groups k count c cs gs long have =
    sym (length-map gs (λ (group : List ℕ). value group c.place)) ∙ ap length (have.values 0 c (omega arith)) ∙ long 0 c (omega arith)

-- the value of a group at a piece's place is the piece's byte
value_is_byte : (k : ℕ) (chosen : List Piece) (gs : List (List ℕ)) → HavePieces k chosen gs → (t : ℕ) (d : List ℕ) → t < length gs → (i : ℕ) (e : Piece) → i < length chosen → value (get_or gs t d) (get_or chosen i e).place ≡ get_or (get_or chosen i e).bytes t 0
value_is_byte k chosen gs have t d lt i e within =
    sym (get_or-map (λ (group : List ℕ). value group (get_or chosen i e).place) gs t d 0 lt) ∙ ap (λ bs. get_or bs t 0) (have.values i e within)

one_group : (count : ℕ) (c : Piece) (cs : List Piece) (gs : List (List ℕ)) → HaveOwnPlaces 16 (c ∷ cs) → HaveLength count (c ∷ cs) → HavePieces (length (c ∷ cs)) (c ∷ cs) gs → (t : ℕ) (d : List ℕ) → t < length gs → t < count → get_or gs t d ≡ solved (places (c ∷ cs)) (column t (c ∷ cs))
one_group count c cs gs apart long have t d lt within =
    let chosen : List Piece = c ∷ cs in
    let size : length (places chosen) ≡ length chosen = length-map chosen (λ (piece : Piece). piece.place) in
    let all : AreElements (get_or gs t d) = elements_from_all (get_or gs t d) (have.bytes t d lt) in
    solved_only (places chosen) (column t chosen) (get_or gs t d) (same_length t chosen) (have.sized t d lt ∙ sym size) (places_distinct c cs apart) (places_elements chosen apart)
    (elements_below (λ (piece : Piece). get_or piece.bytes t 0) chosen
    (λ i e h. subst (λ b. b < 256) (value_is_byte (length chosen) chosen gs have t d lt i e h)
    (value_lt (get_or gs t d) (get_or chosen i e).place (place_lt chosen apart i e h) all)))
    all
    (λ i h.
    let at : i < length chosen = omega arith in
    ap (value (get_or gs t d)) (place_is chosen i c at) ∙ value_is_byte (length chosen) chosen gs have t d lt i c at ∙ sym (byte_is t chosen i c at))

-- groups that have the pieces are those that the code finds
pub found_only : (count : ℕ) (c : Piece) (cs : List Piece) (gs : List (List ℕ)) → HaveOwnPlaces 16 (c ∷ cs) → HaveLength count (c ∷ cs) → HavePieces (length (c ∷ cs)) (c ∷ cs) gs → gs ≡ found_groups (c ∷ cs) count
found_only count c cs gs apart long have =
    let chosen : List Piece = c ∷ cs in
    let many : length gs ≡ count = count_of_groups (length chosen) count c cs gs long have in
    same_lists gs (found_groups chosen count) (many ∙ sym (length-found chosen count))
    (λ t d lt. one_group count c cs gs apart long have t d lt (omega arith) ∙ sym (found_at chosen count t d (omega arith)))

-- ---- the groups of some bytes

length-filled : (k : ℕ) (bytes : List ℕ) → length bytes ≤ k → length (filled k bytes) ≡ k
length-filled k bytes le =
    let whole : length bytes + (k - length bytes) ≡ k = omega arith in
    length-append bytes (replicate (k - length bytes) 0) ∙ ap (λ n. length bytes + n) (length-replicate (k - length bytes) 0) ∙ whole

groups_sized : (count k : ℕ) (bytes : List ℕ) (t : ℕ) (d : List ℕ) → t < length (first_groups count k bytes) → length (get_or (first_groups count k bytes) t d) ≡ k
unfolding first_groups
groups_sized zero k bytes t d lt = absurd (omega arith)
groups_sized (suc count) k bytes zero d lt = length-filled k (take k bytes) (omega (arith, length-take k bytes))
groups_sized (suc count) k bytes (suc t) d lt = groups_sized count k (drop k bytes) t d (omega arith)

taken_elements : (k : ℕ) (bytes : List ℕ) → AreElements bytes → (i : ℕ) → get_or (take k bytes) i 0 < 256
taken_elements zero bytes all i = omega arith
taken_elements (suc k) [] all i = omega arith
taken_elements (suc k) (b ∷ bytes) all zero = all 0
taken_elements (suc k) (b ∷ bytes) all (suc i) = taken_elements k bytes (other_elements b bytes all) i

zeros_behind : (bytes : List ℕ) (n : ℕ) → AreElements bytes → (i : ℕ) → get_or (bytes ++ replicate n 0) i 0 < 256
zeros_behind [] zero all i = omega arith
zeros_behind [] (suc n) all zero = omega arith
zeros_behind [] (suc n) all (suc i) = zeros_behind [] n all i
zeros_behind (b ∷ bytes) n all zero = all 0
zeros_behind (b ∷ bytes) n all (suc i) = zeros_behind bytes n (other_elements b bytes all) i

groups_elements : (count k : ℕ) (bytes : List ℕ) → AreElements bytes → (t : ℕ) (d : List ℕ) → t < length (first_groups count k bytes) → All (λ (byte : ℕ). byte < 256) (get_or (first_groups count k bytes) t d)
unfolding first_groups
groups_elements zero k bytes all t d lt = absurd (omega arith)
groups_elements (suc count) k bytes all zero d lt =
    all_from_elements (filled k (take k bytes)) (zeros_behind (take k bytes) (k - length (take k bytes)) (taken_elements k bytes all))
groups_elements (suc count) k bytes all (suc t) d lt = groups_elements count k (drop k bytes) (dropped_elements bytes k all) t d (omega arith)

length-groups : (count k : ℕ) (bytes : List ℕ) → length (first_groups count k bytes) ≡ count
unfolding first_groups
length-groups zero k bytes = refl
length-groups (suc count) k bytes = ap suc (length-groups count k (drop k bytes))

take_past : (xs ys : List ℕ) (m : ℕ) → take (length xs + m) (xs ++ ys) ≡ xs ++ take m ys
take_past [] ys m = let e : 0 + m ≡ m = omega arith in ap (λ n. take n ys) e
take_past (x ∷ xs) ys m =
    let e : suc (length xs) + m ≡ suc (length xs + m) = omega arith in
    ap (λ n. take n (x ∷ xs ++ ys)) e ∙ ap (λ zs. x ∷ zs) (take_past xs ys m)

suc_times : (count k : ℕ) → suc count * k ≡ count * k + k
suc_times count k = let e : suc count ≡ count + 1 = omega arith in ap (λ n. n * k) e ∙ add-mul count 1 k ∙ ap (λ n. count * k + n) (one-mul k)

-- the groups of some bytes hold them, one after another
groups_hold : (count k : ℕ) (bytes : List ℕ) → length bytes ≤ count * k → take (length bytes) (concat (first_groups count k bytes)) ≡ bytes
unfolding first_groups
groups_hold zero k [] le = refl
groups_hold zero k (b ∷ bytes) le = absurd (omega (arith, zero-mul k))
groups_hold (suc count) k bytes le =
    elim (cases_lt k (length bytes)) [
      | inr whole ↦
          let all : take k bytes ≡ bytes = take_all k bytes whole in
          ap (λ part. take (length bytes) ((part ++ replicate (k - length part) 0) ++ concat (first_groups count k (drop k bytes)))) all
          ∙ ap (take (length bytes)) (append_assoc bytes (replicate (k - length bytes) 0) (concat (first_groups count k (drop k bytes))))
          ∙ take_at bytes (replicate (k - length bytes) 0 ++ concat (first_groups count k (drop k bytes))) (length bytes) refl
      | inl more ↦
          let rest : List ℕ = drop k bytes in
          let part : length (take k bytes) ≡ k = omega (arith, length-take k bytes) in
          let none : k - length (take k bytes) ≡ 0 = omega arith in
          let left : length rest ≡ length bytes - k = omega (arith, length-drop k bytes) in
          let split : length bytes ≡ length (take k bytes) + length rest = omega arith in
          let within : length rest ≤ count * k = omega (arith, suc_times count k) in
          ap (λ n. take (length bytes) ((take k bytes ++ replicate n 0) ++ concat (first_groups count k rest))) none
          ∙ ap (λ front. take (length bytes) (front ++ concat (first_groups count k rest))) (append_none (take k bytes))
          ∙ ap (λ n. take n (take k bytes ++ concat (first_groups count k rest))) split
          ∙ take_past (take k bytes) (concat (first_groups count k rest)) (length rest)
          ∙ ap (λ bs. take k bytes ++ bs) (groups_hold count k rest within)
          ∙ take-append-drop k bytes
    ]

-- some pieces of bytes are had by the bytes' groups
cut_have : (k n : ℕ) (bytes : List ℕ) (chosen : List Piece) → All (λ (byte : ℕ). byte < 256) bytes → HaveOwnPlaces n chosen → AreCutFrom k n bytes chosen → HavePieces k chosen (groups k bytes)
cut_have k n bytes chosen all apart cut = record {
  sized = groups_sized (div_ceil (length bytes) k) k bytes;
  bytes = groups_elements (div_ceil (length bytes) k) k bytes (elements_from_all bytes all);
  values = λ i d lt.
      sym (get_or-map-range_with_len (λ place. values_at place (groups k bytes)) 0 n (get_or chosen i d).place (get_or chosen i d).place [] (apart.within i d lt) (omega arith))
      ∙ cut i d lt;
}

cut_long : (k n : ℕ) (bytes : List ℕ) (chosen : List Piece) → HavePieces k chosen (groups k bytes) → HaveLength (div_ceil (length bytes) k) chosen
cut_long k n bytes chosen have i d lt =
    sym (ap length (have.values i d lt)) ∙ length-map (groups k bytes) (λ (group : List ℕ). value group (get_or chosen i d).place) ∙ length-groups (div_ceil (length bytes) k) k bytes

pub stand_for_one : (joined other : List ℕ) (k count : ℕ) (chosen : List Piece) → 1 ≤ k → length chosen ≡ k → HaveOwnPlaces 16 chosen → HaveLength (div_ceil count k) chosen → IsJoined k chosen count joined → IsJoined k chosen count other → joined ≡ other
stand_for_one joined other k count [] some all apart long is is' = absurd (omega arith)
stand_for_one joined other k count (c ∷ cs) some all apart long is is' =
    is.2 ∙ ap (λ gs. take count (concat gs)) (only is.0 is.1 ∙ sym (only is'.0 is'.1)) ∙ sym is'.2
  where
    only : (gs : List (List ℕ)) → HavePieces k (c ∷ cs) gs → gs ≡ found_groups (c ∷ cs) (div_ceil count k)
    only gs have = found_only (div_ceil count k) c cs gs apart long (subst (λ m. HavePieces m (c ∷ cs) gs) (sym all) have)

pub come_back : (bytes joined : List ℕ) (k n : ℕ) (chosen : List Piece) → All (λ (byte : ℕ). byte < 256) bytes → 1 ≤ k → k ≤ n → n ≤ 16 → length chosen ≡ k → HaveOwnPlaces n chosen → AreCutFrom k n bytes chosen → IsJoined k chosen (length bytes) joined → joined ≡ bytes
come_back bytes joined k n chosen elements some enough within all apart cut is =
    let have : HavePieces k chosen (groups k bytes) = cut_have k n bytes chosen elements apart cut in
    let apart' : HaveOwnPlaces 16 chosen = record { within = λ i d lt. lower (get_or chosen i d).place n (apart.within i d lt) within; differ = apart.differ } in
    let hold : take (length bytes) (concat (groups k bytes)) ≡ bytes = groups_hold (div_ceil (length bytes) k) k bytes ((div_ceil_times (length bytes) k some).0) in
    stand_for_one joined bytes k (length bytes) chosen some all apart' (cut_long k n bytes chosen have) is (groups k bytes, have, sym hold)
  where
    lower : (p n : ℕ) → p < n → n ≤ 16 → p < 16
    lower p n h g = omega arith
