-- Two joins of one set of places that give one root join the same, or show a collision.
use Rattle.std.proofs.Common.{◌≡◌, ℕ, zero, suc, ◌+◌, ◌-◌, ◌*◌, ◌^◌, ◌<◌, ◌≤◌, true, false, List, [], ◌∷◌, ◌++◌, length, map, take, drop, refl, sym, ◌∙◌, ap, arith, min, length-append, length-drop, inl, inr}
use Rattle.std.specs.Prelude.{Bool, nat_le, ◌&&◌, ◌⊎◌, count_by}
use Rattle.std.specs.Cmp.Lexicographic.{same_text}
use Rattle.std.specs.List.{range_with_len}
use Rattle.std.proofs.lemmas.Bool.{leb-true, leb-false, not-true}
use Rattle.std.proofs.lemmas.List.{length-take-le, take-append-drop}
use Rattle.sia_merkle.specs.Computations.{AreHashes, Tree, hash_of, same_tree, Collides, HaveOneShape, IsSized}
use Rattle.sia_merkle.specs.Computations.Tree.{Given, Leaf, Node}
use Rattle.sia_merkle.specs.Roots.{first_hash}
use Rattle.sia_merkle.specs.Segments.{Segment, segment_roots, cover, cover_within, is_covered, others, places_within, first_tree, joined_within, Joins}
use Rattle.sia_merkle.proofs.Clashes.{clash_collides}
use Rattle.sia_merkle.proofs.LeafSoundness.{tree_root-length}
use Rattle.sia_merkle.proofs.Trees.{lt_pow}
use Rattle.sia_cover.proofs.Covers.{cover_left, cover_none, cover_one, cover_parts, covered_at, covered_within, past_covered}
use Rattle.sia_cover.proofs.Joins.{count_none, hash_given, join_chosen, join_given, join_low, join_node, places_low, places_one, places_parts, uncovered_chosen}

-- each hash that is given has 32 bytes
abbrev pub AreSizedTrees : List Tree → Type 0
AreSizedTrees [] = Unit {0}
AreSizedTrees (tree ∷ trees) = IsSized tree × AreSizedTrees trees

-- as many computations, of one shape pair by pair
abbrev pub HaveOneShapeEach : List Tree → List Tree → Type 0
HaveOneShapeEach [] [] = Unit {0}
HaveOneShapeEach (tree ∷ trees) (other ∷ more) = HaveOneShape tree other × HaveOneShapeEach trees more
HaveOneShapeEach _ _ = ⊥

-- as many trees and hashes as a join of the 2 ^ height places from low on takes
pub record Fits (chosen : ℕ → Bool) (count height low : ℕ) (inner : List Tree) (outer : List (List ℕ)) : Type 0 where
  pub places : length inner ≡ places_within chosen count height low
  pub segments : length outer ≡ length (cover_within (others chosen) count height low)

-- parts of lists
pub take_sized : (count : ℕ) (hashes : List (List ℕ)) → AreHashes hashes → AreHashes (take count hashes)
take_sized zero hashes sized = tt
take_sized (suc count) [] sized = tt
take_sized (suc count) (hash ∷ hashes) sized = (sized.0, take_sized count hashes sized.1)

pub drop_sized : (count : ℕ) (hashes : List (List ℕ)) → AreHashes hashes → AreHashes (drop count hashes)
drop_sized zero hashes sized = sized
drop_sized (suc count) [] sized = tt
drop_sized (suc count) (hash ∷ hashes) sized = drop_sized count hashes sized.1

take_sized_trees : (count : ℕ) (trees : List Tree) → AreSizedTrees trees → AreSizedTrees (take count trees)
take_sized_trees zero trees sized = tt
take_sized_trees (suc count) [] sized = tt
take_sized_trees (suc count) (tree ∷ trees) sized = (sized.0, take_sized_trees count trees sized.1)

drop_sized_trees : (count : ℕ) (trees : List Tree) → AreSizedTrees trees → AreSizedTrees (drop count trees)
drop_sized_trees zero trees sized = sized
drop_sized_trees (suc count) [] sized = tt
drop_sized_trees (suc count) (tree ∷ trees) sized = drop_sized_trees count trees sized.1

take_shapes : (count : ℕ) (trees more : List Tree) → HaveOneShapeEach trees more → HaveOneShapeEach (take count trees) (take count more)
take_shapes zero trees more shapes = tt
take_shapes (suc count) [] [] shapes = tt
take_shapes (suc count) [] (other ∷ more) shapes = absurd shapes
take_shapes (suc count) (tree ∷ trees) [] shapes = absurd shapes
take_shapes (suc count) (tree ∷ trees) (other ∷ more) shapes = (shapes.0, take_shapes count trees more shapes.1)

drop_shapes : (count : ℕ) (trees more : List Tree) → HaveOneShapeEach trees more → HaveOneShapeEach (drop count trees) (drop count more)
drop_shapes zero trees more shapes = shapes
drop_shapes (suc count) [] [] shapes = tt
drop_shapes (suc count) [] (other ∷ more) shapes = absurd shapes
drop_shapes (suc count) (tree ∷ trees) [] shapes = absurd shapes
drop_shapes (suc count) (tree ∷ trees) (other ∷ more) shapes = drop_shapes count trees more shapes.1

pub roots_sized : (hashes : List (List ℕ)) (segments : List Segment) → AreHashes hashes → AreHashes (segment_roots hashes segments)
roots_sized hashes [] sized = tt
roots_sized hashes (segment ∷ segments) sized =
    (tree_root-length segment.level (take (2 ^ segment.level) (drop (segment.index * 2 ^ segment.level) hashes)) (take_sized (2 ^ segment.level) (drop (segment.index * 2 ^ segment.level) hashes) (drop_sized (segment.index * 2 ^ segment.level) hashes sized)), roots_sized hashes segments sized)

pub given_sized : (hashes : List (List ℕ)) → AreHashes hashes → AreSizedTrees (map Given hashes)
unfolding IsSized
given_sized [] sized = tt
given_sized (hash ∷ hashes) sized = (sized.0, given_sized hashes sized.1)

pub leaves_sized : (leaves : List (List ℕ)) → AreSizedTrees (map Leaf leaves)
unfolding IsSized
leaves_sized [] = tt
leaves_sized (leaf ∷ leaves) = (tt, leaves_sized leaves)

pub given_shapes : (hashes more : List (List ℕ)) → length hashes ≡ length more → HaveOneShapeEach (map Given hashes) (map Given more)
unfolding HaveOneShape
given_shapes [] [] same = tt
given_shapes [] (other ∷ more) same = absurd (let none : 0 ≡ suc (length more) = same in omega arith)
given_shapes (hash ∷ hashes) [] same = absurd (let none : suc (length hashes) ≡ 0 = same in omega arith)
given_shapes (hash ∷ hashes) (other ∷ more) same = (tt, given_shapes hashes more (let both : suc (length hashes) ≡ suc (length more) = same in omega arith))

pub leaf_shapes : (leaves more : List (List ℕ)) → length leaves ≡ length more → HaveOneShapeEach (map Leaf leaves) (map Leaf more)
unfolding HaveOneShape
leaf_shapes [] [] same = tt
leaf_shapes [] (other ∷ more) same = absurd (let none : 0 ≡ suc (length more) = same in omega arith)
leaf_shapes (leaf ∷ leaves) [] same = absurd (let none : suc (length leaves) ≡ 0 = same in omega arith)
leaf_shapes (leaf ∷ leaves) (other ∷ more) same = (tt, leaf_shapes leaves more (let both : suc (length leaves) ≡ suc (length more) = same in omega arith))

-- a list is its two parts
pub from_parts : {X : Type 0} (count : ℕ) (xs ys : List X) → take count xs ≡ take count ys → drop count xs ≡ drop count ys → xs ≡ ys
from_parts count xs ys front rest = sym (take-append-drop count xs) ∙ ap (λ zs. zs ++ drop count xs) front ∙ ap (λ zs. take count ys ++ zs) rest ∙ take-append-drop count ys

pub no_elements : {X : Type 0} (xs ys : List X) → length xs ≡ 0 → length ys ≡ 0 → xs ≡ ys
no_elements [] [] none same = refl
no_elements [] (y ∷ ys) none same = absurd (let more : suc (length ys) ≡ 0 = same in omega arith)
no_elements (x ∷ xs) ys none same = absurd (let more : suc (length xs) ≡ 0 = none in omega arith)

pub one_hash_each : (xs ys : List (List ℕ)) → length xs ≡ 1 → length ys ≡ 1 → first_hash xs ≡ first_hash ys → xs ≡ ys
one_hash_each [] ys one same first = absurd (let none : 0 ≡ 1 = one in omega arith)
one_hash_each (x ∷ xs) [] one same first = absurd (let none : 0 ≡ 1 = same in omega arith)
one_hash_each (x ∷ xs) (y ∷ ys) one same first =
    let few : suc (length xs) ≡ 1 = one in
    let few_too : suc (length ys) ≡ 1 = same in
    ap (λ h. h ∷ xs) first ∙ ap (λ hs. y ∷ hs) (no_elements xs ys (omega arith) (omega arith))

one_tree_each : (xs ys : List Tree) → length xs ≡ 1 → length ys ≡ 1 → first_tree xs ≡ first_tree ys → xs ≡ ys
one_tree_each [] ys one same first = absurd (let none : 0 ≡ 1 = one in omega arith)
one_tree_each (x ∷ xs) [] one same first = absurd (let none : 0 ≡ 1 = same in omega arith)
one_tree_each (x ∷ xs) (y ∷ ys) one same first =
    let few : suc (length xs) ≡ 1 = one in
    let few_too : suc (length ys) ≡ 1 = same in
    ap (λ t. t ∷ xs) first ∙ ap (λ ts. y ∷ ts) (no_elements xs ys (omega arith) (omega arith))

-- computations that are one are equal
left_true : (first second : Bool) → (first && second) ≡ true → first ≡ true
left_true true second e = refl
left_true false second e = absurd (let no : false ≡ true = e in cc)

right_true : (first second : Bool) → (first && second) ≡ true → second ≡ true
right_true true second e = e
right_true false second e = absurd (let no : false ≡ true = e in cc)

same_given : (hash other : List ℕ) → same_tree (Given hash) (Given other) ≡ true → Given hash ≡ Given other
unfolding same_tree
same_given hash other e = ap Given (same_text hash other (sym e))

pub one_tree : (tree other : Tree) → same_tree tree other ≡ true → tree ≡ other
unfolding same_tree
one_tree (Given hash) (Given other) e = same_given hash other e
one_tree (Given hash) (Leaf other) e = absurd (let no : false ≡ true = e in cc)
one_tree (Given hash) (Node left' right') e = absurd (let no : false ≡ true = e in cc)
one_tree (Leaf bytes) (Given other) e = absurd (let no : false ≡ true = e in cc)
one_tree (Leaf bytes) (Leaf other) e = ap Leaf (same_text bytes other (sym e))
one_tree (Leaf bytes) (Node left' right') e = absurd (let no : false ≡ true = e in cc)
one_tree (Node left right) (Given other) e = absurd (let no : false ≡ true = e in cc)
one_tree (Node left right) (Leaf other) e = absurd (let no : false ≡ true = e in cc)
one_tree (Node left right) (Node left' right') e =
    ap (λ t. Node t right) (one_tree left left' (left_true (same_tree left left') (same_tree right right') e))
    ∙ ap (Node left') (one_tree right right' (right_true (same_tree left left') (same_tree right right') e))

left_part : Tree → Tree
left_part (Node left right) = left
left_part tree = tree

right_part : Tree → Tree
right_part (Node left right) = right
right_part tree = tree

pub left_equal : (left right left' right' : Tree) → Node left right ≡ Node left' right' → left ≡ left'
unfolding left_part
left_equal left right left' right' e = ap left_part e

pub right_equal : (left right left' right' : Tree) → Node left right ≡ Node left' right' → right ≡ right'
unfolding right_part
right_equal left right left' right' e = ap right_part e

pub given_equal : (hash other : List ℕ) → Given hash ≡ Given other → hash ≡ other
given_equal hash other e = sym (hash_given hash) ∙ ap hash_of e ∙ hash_given other

-- how many trees and hashes the parts of a join take
covered_places : (chosen : ℕ → Bool) (count height low : ℕ) → is_covered (others chosen) count height low ≡ true → places_within chosen count height low ≡ 0
covered_places chosen count height low e =
    let within : low + 2 ^ height ≤ count = covered_within (others chosen) count height low e in
    let whole : min (2 ^ height) (count - low) ≡ 2 ^ height = omega arith in
    ap (λ n. count_by chosen (range_with_len low n)) whole
    ∙ count_none chosen low (2 ^ height) (λ place from to. not-true (chosen place) (covered_at (others chosen) count height low place e from to))

fits_low : (chosen : ℕ → Bool) (count height low : ℕ) (inner : List Tree) (outer : List (List ℕ)) → low < count → is_covered (others chosen) count (suc height) low ≡ false → count ≤ low + 2 ^ height
    → Fits chosen count (suc height) low inner outer → Fits chosen count height low inner outer
fits_low chosen count height low inner outer within e past fits = record {
  places = fits.places ∙ sym (places_low chosen count height low past);
  segments = fits.segments ∙ ap length (cover_left (others chosen) count height low past within e);
}

-- the segments of a cover are those of its two parts
pub both_covers : (chosen : ℕ → Bool) (count height low : ℕ) → is_covered chosen count (suc height) low ≡ false
    → length (cover_within chosen count (suc height) low) ≡ length (cover_within chosen count height low) + length (cover_within chosen count height (low + 2 ^ height))
both_covers chosen count height low e = ap length (cover_parts chosen count height low e) ∙ length-append (cover_within chosen count height low) (cover_within chosen count height (low + 2 ^ height))

fits_left : (chosen : ℕ → Bool) (count height low : ℕ) (inner : List Tree) (outer : List (List ℕ)) → is_covered (others chosen) count (suc height) low ≡ false → low + 2 ^ height < count
    → Fits chosen count (suc height) low inner outer
    → Fits chosen count height low (take (places_within chosen count height low) inner) (take (length (cover_within (others chosen) count height low)) outer)
fits_left chosen count height low inner outer e above fits =
    let few : places_within chosen count height low ≤ length inner = omega (arith, fits.places, places_parts chosen count height low above) in
    let few_too : length (cover_within (others chosen) count height low) ≤ length outer = omega (arith, fits.segments, both_covers (others chosen) count height low e) in
    record {
      places = length-take-le (places_within chosen count height low) inner few;
      segments = length-take-le (length (cover_within (others chosen) count height low)) outer few_too;
    }

fits_right : (chosen : ℕ → Bool) (count height low : ℕ) (inner : List Tree) (outer : List (List ℕ)) → is_covered (others chosen) count (suc height) low ≡ false → low + 2 ^ height < count
    → Fits chosen count (suc height) low inner outer
    → Fits chosen count height (low + 2 ^ height) (drop (places_within chosen count height low) inner) (drop (length (cover_within (others chosen) count height low)) outer)
fits_right chosen count height low inner outer e above fits = record {
  places = omega (arith, fits.places, places_parts chosen count height low above, length-drop (places_within chosen count height low) inner);
  segments = omega (arith, fits.segments, both_covers (others chosen) count height low e, length-drop (length (cover_within (others chosen) count height low)) outer);
}

-- joins that are one join the same
equal_given : (chosen : ℕ → Bool) (count height low : ℕ) (inner more : List Tree) (outer extra : List (List ℕ)) → is_covered (others chosen) count height low ≡ true
    → Fits chosen count height low inner outer → Fits chosen count height low more extra
    → joined_within chosen count height low inner outer ≡ joined_within chosen count height low more extra → (inner ≡ more) × (outer ≡ extra)
equal_given chosen count height low inner more outer extra e fits fits' same =
    let none = covered_places chosen count height low e in
    let one = ap length (cover_one (others chosen) count height low e) in
    let first : first_hash outer ≡ first_hash extra =
    given_equal (first_hash outer) (first_hash extra) (sym (join_given chosen count height low inner outer e) ∙ same ∙ join_given chosen count height low more extra e) in
    (no_elements inner more (fits.places ∙ none) (fits'.places ∙ none), one_hash_each outer extra (fits.segments ∙ one) (fits'.segments ∙ one) first)

equal_end : (chosen : ℕ → Bool) (count low : ℕ) (inner more : List Tree) (outer extra : List (List ℕ)) → low < count
    → Fits chosen count 0 low inner outer → Fits chosen count 0 low more extra
    → joined_within chosen count 0 low inner outer ≡ joined_within chosen count 0 low more extra
    → (covered : Bool) → is_covered (others chosen) count 0 low ≡ covered → (inner ≡ more) × (outer ≡ extra)
equal_end chosen count low inner more outer extra within fits fits' same true e = equal_given chosen count 0 low inner more outer extra e fits fits' same
equal_end chosen count low inner more outer extra within fits fits' same false e =
    let here : chosen low ≡ true = uncovered_chosen chosen count low within e in
    let one = places_one chosen count low within here in
    let none = ap length (cover_none (others chosen) count low e) in
    let first : first_tree inner ≡ first_tree more = sym (join_chosen chosen count low inner outer here) ∙ same ∙ join_chosen chosen count low more extra here in
    (one_tree_each inner more (fits.places ∙ one) (fits'.places ∙ one) first, no_elements outer extra (fits.segments ∙ none) (fits'.segments ∙ none))

equal_by : (chosen : ℕ → Bool) (count height low : ℕ) (inner more : List Tree) (outer extra : List (List ℕ)) → low < count
    → Fits chosen count (suc height) low inner outer → Fits chosen count (suc height) low more extra
    → joined_within chosen count (suc height) low inner outer ≡ joined_within chosen count (suc height) low more extra
    → ((at : ℕ) (trees trees' : List Tree) (hashes hashes' : List (List ℕ)) → at < count → Fits chosen count height at trees hashes → Fits chosen count height at trees' hashes'
    → joined_within chosen count height at trees hashes ≡ joined_within chosen count height at trees' hashes' → (trees ≡ trees') × (hashes ≡ hashes'))
    → (covered : Bool) → is_covered (others chosen) count (suc height) low ≡ covered → (short : Bool) → nat_le count (low + 2 ^ height) ≡ short → (inner ≡ more) × (outer ≡ extra)
equal_by chosen count height low inner more outer extra within fits fits' same below true e short f = equal_given chosen count (suc height) low inner more outer extra e fits fits' same
equal_by chosen count height low inner more outer extra within fits fits' same below false e true f =
    let past : count ≤ low + 2 ^ height = leb-true _ _ f in
    below low inner more outer extra within (fits_low chosen count height low inner outer within e past fits) (fits_low chosen count height low more extra within e past fits')
    (sym (join_low chosen count height low inner outer e past) ∙ same ∙ join_low chosen count height low more extra e past)
equal_by chosen count height low inner more outer extra within fits fits' same below false e false f =
    let above : low + 2 ^ height < count = leb-false _ _ f in
    let places = places_within chosen count height low in
    let cut = length (cover_within (others chosen) count height low) in
    let nodes = sym (join_node chosen count height low inner outer e above) ∙ same ∙ join_node chosen count height low more extra e above in
    let lefts = below low (take places inner) (take places more) (take cut outer) (take cut extra) within (fits_left chosen count height low inner outer e above fits) (fits_left chosen count height low more extra e above fits')
    (left_equal _ _ _ _ nodes) in
    let rights = below (low + 2 ^ height) (drop places inner) (drop places more) (drop cut outer) (drop cut extra) above (fits_right chosen count height low inner outer e above fits) (fits_right chosen count height low more extra e above fits')
    (right_equal _ _ _ _ nodes) in
    (from_parts places inner more lefts.0 rights.0, from_parts cut outer extra lefts.1 rights.1)

pub joined_equal : (chosen : ℕ → Bool) (count height low : ℕ) (inner more : List Tree) (outer extra : List (List ℕ)) → low < count
    → Fits chosen count height low inner outer → Fits chosen count height low more extra
    → joined_within chosen count height low inner outer ≡ joined_within chosen count height low more extra → (inner ≡ more) × (outer ≡ extra)
joined_equal chosen count zero low inner more outer extra within fits fits' same =
    equal_end chosen count low inner more outer extra within fits fits' same (is_covered (others chosen) count 0 low) refl
joined_equal chosen count (suc height) low inner more outer extra within fits fits' same =
    equal_by chosen count height low inner more outer extra within fits fits' same
    (λ at trees trees' hashes hashes' in_it first second one. joined_equal chosen count height at trees trees' hashes hashes' in_it first second one)
    (is_covered (others chosen) count (suc height) low) refl (nat_le count (low + 2 ^ height)) refl

-- a join of sized parts is sized
pub first_hash_sized : (hashes : List (List ℕ)) → AreHashes hashes → length (first_hash hashes) ≡ 32
first_hash_sized [] sized = refl
first_hash_sized (hash ∷ hashes) sized = sized.0

pub first_given_sized : (hashes : List (List ℕ)) → AreHashes hashes → IsSized (Given (first_hash hashes))
unfolding IsSized
first_given_sized hashes sized = first_hash_sized hashes sized

pub node_sized : (left right : Tree) → IsSized left → IsSized right → IsSized (Node left right)
unfolding IsSized
node_sized left right first second = (first, second)

first_tree_sized : (trees : List Tree) → AreSizedTrees trees → IsSized (first_tree trees)
first_tree_sized [] sized = first_given_sized [] tt
first_tree_sized (tree ∷ trees) sized = sized.0

sized_end : (chosen : ℕ → Bool) (count low : ℕ) (inner : List Tree) (outer : List (List ℕ)) → AreSizedTrees inner → AreHashes outer → (here : Bool) → chosen low ≡ here → IsSized (joined_within chosen count 0 low inner outer)
unfolding joined_within
sized_end chosen count low inner outer trees hashes true e = rw e (first_tree_sized inner trees)
sized_end chosen count low inner outer trees hashes false e = rw e (first_given_sized outer hashes)

sized_by : (chosen : ℕ → Bool) (count height low : ℕ) (inner : List Tree) (outer : List (List ℕ)) → AreSizedTrees inner → AreHashes outer
    → ((at : ℕ) (trees : List Tree) (hashes : List (List ℕ)) → AreSizedTrees trees → AreHashes hashes → IsSized (joined_within chosen count height at trees hashes))
    → (covered : Bool) → is_covered (others chosen) count (suc height) low ≡ covered → (short : Bool) → nat_le count (low + 2 ^ height) ≡ short
    → IsSized (joined_within chosen count (suc height) low inner outer)
sized_by chosen count height low inner outer trees hashes below true e short f = rw (join_given chosen count (suc height) low inner outer e) (first_given_sized outer hashes)
sized_by chosen count height low inner outer trees hashes below false e true f = rw (join_low chosen count height low inner outer e (leb-true _ _ f)) (below low inner outer trees hashes)
sized_by chosen count height low inner outer trees hashes below false e false f =
    let places = places_within chosen count height low in
    let cut = length (cover_within (others chosen) count height low) in
    rw (join_node chosen count height low inner outer e (leb-false _ _ f))
    (node_sized _ _ (below low (take places inner) (take cut outer) (take_sized_trees places inner trees) (take_sized cut outer hashes))
    (below (low + 2 ^ height) (drop places inner) (drop cut outer) (drop_sized_trees places inner trees) (drop_sized cut outer hashes)))

pub joined_sized : (chosen : ℕ → Bool) (count height low : ℕ) (inner : List Tree) (outer : List (List ℕ)) → AreSizedTrees inner → AreHashes outer → IsSized (joined_within chosen count height low inner outer)
joined_sized chosen count zero low inner outer trees hashes = sized_end chosen count low inner outer trees hashes (chosen low) refl
joined_sized chosen count (suc height) low inner outer trees hashes =
    sized_by chosen count height low inner outer trees hashes (λ at part roots all each. joined_sized chosen count height at part roots all each)
    (is_covered (others chosen) count (suc height) low) refl (nat_le count (low + 2 ^ height)) refl

-- joins of trees of one shape have one shape
pub given_shape : (hash other : List ℕ) → HaveOneShape (Given hash) (Given other)
unfolding HaveOneShape
given_shape hash other = tt

pub node_shape : (left right left' right' : Tree) → HaveOneShape left left' → HaveOneShape right right' → HaveOneShape (Node left right) (Node left' right')
unfolding HaveOneShape
node_shape left right left' right' first second = (first, second)

first_tree_shape : (trees more : List Tree) → HaveOneShapeEach trees more → HaveOneShape (first_tree trees) (first_tree more)
first_tree_shape [] [] shapes = given_shape (first_hash []) (first_hash [])
first_tree_shape [] (other ∷ more) shapes = absurd shapes
first_tree_shape (tree ∷ trees) [] shapes = absurd shapes
first_tree_shape (tree ∷ trees) (other ∷ more) shapes = shapes.0

shape_end : (chosen : ℕ → Bool) (count low : ℕ) (inner more : List Tree) (outer extra : List (List ℕ)) → HaveOneShapeEach inner more → (here : Bool) → chosen low ≡ here
    → HaveOneShape (joined_within chosen count 0 low inner outer) (joined_within chosen count 0 low more extra)
unfolding joined_within
shape_end chosen count low inner more outer extra shapes true e = rw e (first_tree_shape inner more shapes)
shape_end chosen count low inner more outer extra shapes false e = rw e (given_shape (first_hash outer) (first_hash extra))

shape_by : (chosen : ℕ → Bool) (count height low : ℕ) (inner more : List Tree) (outer extra : List (List ℕ)) → HaveOneShapeEach inner more
    → ((at : ℕ) (trees trees' : List Tree) (hashes hashes' : List (List ℕ)) → HaveOneShapeEach trees trees' → HaveOneShape (joined_within chosen count height at trees hashes) (joined_within chosen count height at trees' hashes'))
    → (covered : Bool) → is_covered (others chosen) count (suc height) low ≡ covered → (short : Bool) → nat_le count (low + 2 ^ height) ≡ short
    → HaveOneShape (joined_within chosen count (suc height) low inner outer) (joined_within chosen count (suc height) low more extra)
shape_by chosen count height low inner more outer extra shapes below true e short f =
    rw (join_given chosen count (suc height) low inner outer e, join_given chosen count (suc height) low more extra e) (given_shape (first_hash outer) (first_hash extra))
shape_by chosen count height low inner more outer extra shapes below false e true f =
    rw (join_low chosen count height low inner outer e (leb-true _ _ f), join_low chosen count height low more extra e (leb-true _ _ f)) (below low inner more outer extra shapes)
shape_by chosen count height low inner more outer extra shapes below false e false f =
    let places = places_within chosen count height low in
    let cut = length (cover_within (others chosen) count height low) in
    rw (join_node chosen count height low inner outer e (leb-false _ _ f), join_node chosen count height low more extra e (leb-false _ _ f))
    (node_shape _ _ _ _ (below low (take places inner) (take places more) (take cut outer) (take cut extra) (take_shapes places inner more shapes))
    (below (low + 2 ^ height) (drop places inner) (drop places more) (drop cut outer) (drop cut extra) (drop_shapes places inner more shapes)))

pub joined_shape : (chosen : ℕ → Bool) (count height low : ℕ) (inner more : List Tree) (outer extra : List (List ℕ)) → HaveOneShapeEach inner more
    → HaveOneShape (joined_within chosen count height low inner outer) (joined_within chosen count height low more extra)
joined_shape chosen count zero low inner more outer extra shapes = shape_end chosen count low inner more outer extra shapes (chosen low) refl
joined_shape chosen count (suc height) low inner more outer extra shapes =
    shape_by chosen count height low inner more outer extra shapes (λ at trees trees' hashes hashes' each. joined_shape chosen count height at trees trees' hashes hashes' each)
    (is_covered (others chosen) count (suc height) low) refl (nat_le count (low + 2 ^ height)) refl

-- two computations of one shape and one root are one, or collide
pub one_or_collides : (tree other : Tree) → IsSized tree → IsSized other → HaveOneShape tree other → hash_of tree ≡ hash_of other → (same : Bool) → same_tree tree other ≡ same
    → (tree ≡ other) ⊎ Collides tree other
one_or_collides tree other sized sized' shape one true e = inl (one_tree tree other e)
one_or_collides tree other sized sized' shape one false e = inr (clash_collides tree other sized sized' shape one e)

joins_by : (chosen : ℕ → Bool) (count height low : ℕ) (inner more : List Tree) (outer extra : List (List ℕ)) → low < count
    → Fits chosen count height low inner outer → Fits chosen count height low more extra
    → (joined_within chosen count height low inner outer ≡ joined_within chosen count height low more extra)
    ⊎ Collides (joined_within chosen count height low inner outer) (joined_within chosen count height low more extra)
    → ((inner ≡ more) × (outer ≡ extra)) ⊎ Collides (joined_within chosen count height low inner outer) (joined_within chosen count height low more extra)
joins_by chosen count height low inner more outer extra within fits fits' (inl same) = inl (joined_equal chosen count height low inner more outer extra within fits fits' same)
joins_by chosen count height low inner more outer extra within fits fits' (inr clash) = inr clash

-- Two joins of the chosen places among the 2 ^ height from low on that give one root join the same, or collide.
pub joins_within_collide : (chosen : ℕ → Bool) (count height low : ℕ) (inner more : List Tree) (outer extra : List (List ℕ)) → low < count
    → Fits chosen count height low inner outer → Fits chosen count height low more extra
    → AreSizedTrees inner → AreHashes outer → AreSizedTrees more → AreHashes extra → HaveOneShapeEach inner more
    → hash_of (joined_within chosen count height low inner outer) ≡ hash_of (joined_within chosen count height low more extra)
    → ((inner ≡ more) × (outer ≡ extra)) ⊎ Collides (joined_within chosen count height low inner outer) (joined_within chosen count height low more extra)
joins_within_collide chosen count height low inner more outer extra within fits fits' trees hashes trees' hashes' shapes one =
    joins_by chosen count height low inner more outer extra within fits fits'
    (one_or_collides (joined_within chosen count height low inner outer) (joined_within chosen count height low more extra)
    (joined_sized chosen count height low inner outer trees hashes) (joined_sized chosen count height low more extra trees' hashes')
    (joined_shape chosen count height low inner more outer extra shapes) one
    (same_tree (joined_within chosen count height low inner outer) (joined_within chosen count height low more extra)) refl)

-- the same of whole trees
fits_whole : (chosen : ℕ → Bool) (count : ℕ) (inner : List Tree) (outer : List (List ℕ)) (tree : Tree) → Joins chosen count inner outer tree → Fits chosen count count 0 inner outer
unfolding cover
fits_whole chosen count inner outer tree joins =
    let whole : count ≡ min (2 ^ count) (count - 0) = omega (arith, lt_pow count) in
    record { places = joins.places ∙ ap (λ n. count_by chosen (range_with_len 0 n)) whole; segments = joins.segments }

none_joined : (chosen : ℕ → Bool) (inner more : List Tree) (outer extra : List (List ℕ)) → Fits chosen 0 0 0 inner outer → Fits chosen 0 0 0 more extra → (inner ≡ more) × (outer ≡ extra)
none_joined chosen inner more outer extra fits fits' =
    let none = ap length (cover_none (others chosen) 0 0 (past_covered (others chosen) 0 0 0 (omega arith))) in
    (no_elements inner more fits.places fits'.places, no_elements outer extra (fits.segments ∙ none) (fits'.segments ∙ none))

whole_by : (chosen : ℕ → Bool) (count : ℕ) (inner more : List Tree) (outer extra : List (List ℕ))
    → Fits chosen count count 0 inner outer → Fits chosen count count 0 more extra
    → AreSizedTrees inner → AreHashes outer → AreSizedTrees more → AreHashes extra → HaveOneShapeEach inner more
    → hash_of (joined_within chosen count count 0 inner outer) ≡ hash_of (joined_within chosen count count 0 more extra)
    → ((inner ≡ more) × (outer ≡ extra)) ⊎ Collides (joined_within chosen count count 0 inner outer) (joined_within chosen count count 0 more extra)
whole_by chosen zero inner more outer extra fits fits' trees hashes trees' hashes' shapes one = inl (none_joined chosen inner more outer extra fits fits')
whole_by chosen (suc count) inner more outer extra fits fits' trees hashes trees' hashes' shapes one =
    joins_within_collide chosen (suc count) (suc count) 0 inner more outer extra (omega arith) fits fits' trees hashes trees' hashes' shapes one

-- Two joins of a set of places that give one root join the same, or collide.
pub joins_collide : (chosen : ℕ → Bool) (count : ℕ) (inner more : List Tree) (outer extra : List (List ℕ)) (tree other : Tree)
    → Joins chosen count inner outer tree → Joins chosen count more extra other
    → AreSizedTrees inner → AreHashes outer → AreSizedTrees more → AreHashes extra → HaveOneShapeEach inner more → hash_of tree ≡ hash_of other
    → ((inner ≡ more) × (outer ≡ extra)) ⊎ Collides tree other
joins_collide chosen count inner more outer extra tree other joins joins' trees hashes trees' hashes' shapes one =
    rw (joins.joined, joins'.joined)
    (whole_by chosen count inner more outer extra (fits_whole chosen count inner outer tree joins) (fits_whole chosen count more extra other joins') trees hashes trees' hashes' shapes
    (sym (ap hash_of joins.joined) ∙ one ∙ ap hash_of joins'.joined))
