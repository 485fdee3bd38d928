-- Who has an update accepted whose roots are not a byte string's own shows a collision, and one whose roots are gives the
-- root of the list after it.
use Rattle.std.proofs.Common.{◌≡◌, ℕ, ◌+◌, ◌-◌, ◌<◌, ◌≤◌, true, false, List, [], ◌++◌, length, map, take, drop, get_or, refl, sym, ◌∙◌, ap, arith, inl, inr, length-append, length-drop}
use Rattle.std.specs.Prelude.{Bool, nat_le, nat_lt, ◌⊎◌}
use Rattle.std.proofs.lemmas.Bool.{leb-false, ltb-false}
use Rattle.std.proofs.lemmas.List.{get_or-append_right, get_or_append_left, get_or-drop, get_or-take, length-map, length-take-le, map-append, take-map, drop-map, take_at, drop_at}
use Rattle.sia_merkle.specs.Computations.{AreHashes, hash_of, Collides}
use Rattle.sia_merkle.specs.Computations.Tree.{Leaf}
use Rattle.sia_merkle.specs.Roots.{leaf_count, leaf_digest, leaves_of, node_root_of, root_of}
use Rattle.sia_merkle.specs.Segments.{cover, others, places_between, joined_segments_within, segment_root, JoinsSegments}
use Rattle.sia_merkle.proofs.Cuts.{length-leaf_hashes, length-leaves}
use Rattle.sia_range.specs.Ranges.{range_tree, segments_tree, IsOwnUpdate, IsUpdateOf, own_update_tree, part_between, replaced, roots_inside, roots_outside}
use Rattle.sia_cover.proofs.OwnSegments.{own_segments_whole}
use Rattle.sia_range.proofs.RangeSoundness.{digests_sized, own_leaves_root}
use Rattle.sia_cover.proofs.Soundness.{roots_sized}
use Rattle.sia_cover.proofs.SameCovers.{AgreeAt, roots_same}
use Rattle.sia_range.proofs.Judging.{segments_tree_is}
use Rattle.sia_cover.proofs.SegmentSoundness.{segments_collide}

-- a list with a part replaced
pub replaced_length : {X : Type 0} (a b : ℕ) (part list : List X) → a ≤ b → b ≤ length list → length part ≡ b - a → length (replaced a b part list) ≡ length list
replaced_length a b part list some within fits =
    omega (arith, fits, length-append (take a list) (part ++ drop b list), length-append part (drop b list), length-take-le a list (omega arith), length-drop b list)

pub replaced_part : {X : Type 0} (a b : ℕ) (part list : List X) → a ≤ b → b ≤ length list → length part ≡ b - a → part_between a b (replaced a b part list) ≡ part
replaced_part a b part list some within fits =
    ap (take (b - a)) (drop_at (take a list) (part ++ drop b list) a (length-take-le a list (omega arith))) ∙ take_at part (drop b list) (b - a) fits

agree_by : (a b count place : ℕ) (part hashes : List (List ℕ)) → a < b → b ≤ count → count ≡ length hashes → length part ≡ b - a → others (places_between a b) place ≡ true
    → (from before : Bool) → nat_le a place ≡ from → nat_lt place b ≡ before → get_or hashes place [] ≡ get_or (replaced a b part hashes) place []
agree_by a b count place part hashes some within is fits out true true e f =
    let no : others (places_between a b) place ≡ false = rw (e, f) refl in
    absurd (let never : false ≡ true = sym no ∙ out in cc)
agree_by a b count place part hashes some within is fits out true false e f =
    let from : b ≤ place = ltb-false _ _ f in
    let cut : length (take a hashes) ≡ a = length-take-le a hashes (omega arith) in
    let back : b + (place - a - (b - a)) ≡ place = omega arith in
    sym (get_or-append_right (take a hashes) (part ++ drop b hashes) a place [] cut (omega arith)
    ∙ get_or-append_right part (drop b hashes) (b - a) (place - a) [] fits (omega arith)
    ∙ get_or-drop b hashes (place - a - (b - a)) [] ∙ ap (λ i. get_or hashes i []) back)
agree_by a b count place part hashes some within is fits out false before e f =
    let to : place < a = leb-false _ _ e in
    let cut : length (take a hashes) ≡ a = length-take-le a hashes (omega arith) in
    sym (get_or_append_left (take a hashes) (part ++ drop b hashes) [] place (omega arith) ∙ get_or-take a hashes place [] to)

-- at all places but the replaced ones it has what the old one had
pub agree_replaced : (a b count : ℕ) (part hashes : List (List ℕ)) → a < b → b ≤ count → count ≡ length hashes → length part ≡ b - a → AgreeAt (others (places_between a b)) count hashes (replaced a b part hashes)
agree_replaced a b count part hashes some within is fits place below out = agree_by a b count place part hashes some within is fits out (nat_le a place) (nat_lt place b) refl refl

replaced_digests : (a b : ℕ) (part leaves : List (List ℕ)) → map leaf_digest (replaced a b part leaves) ≡ replaced a b (map leaf_digest part) (map leaf_digest leaves)
replaced_digests a b part leaves =
    map-append leaf_digest (take a leaves) (part ++ drop b leaves)
    ∙ ap (λ hashes. map leaf_digest (take a leaves) ++ hashes) (map-append leaf_digest part (drop b leaves) ∙ ap (λ hashes. map leaf_digest part ++ hashes) (sym (drop-map leaf_digest b leaves)))
    ∙ ap (λ hashes. hashes ++ (map leaf_digest part ++ drop b (map leaf_digest leaves))) (sym (take-map leaf_digest a leaves))

-- so that it has the same roots of the cover of all others
roots_replaced : (a b count : ℕ) (part leaves : List (List ℕ)) → a < b → b ≤ count → count ≡ length leaves → length part ≡ b - a
    → roots_outside (map leaf_digest leaves) count a b ≡ roots_outside (map leaf_digest (replaced a b part leaves)) count a b
roots_replaced a b count part leaves some within is fits =
    let hashes = map leaf_digest leaves in
    let digests = map leaf_digest part in
    let counted : count ≡ length hashes = is ∙ sym (length-map leaves leaf_digest) in
    let cut : length digests ≡ b - a = length-map part leaf_digest ∙ fits in
    let same : length (replaced a b digests hashes) ≡ length hashes = replaced_length a b digests hashes (omega arith) (omega arith) cut in
    roots_same (others (places_between a b)) count hashes (replaced a b digests hashes) (omega arith) (omega arith) (agree_replaced a b count digests hashes some within counted cut)
    ∙ ap (λ hs. roots_outside hs count a b) (sym (replaced_digests a b part leaves))

-- the join of new leaves with the old roots of all others is the root of the list after the update
pub after_root : (a b count : ℕ) (part leaves outer : List (List ℕ)) → a < b → b ≤ count → count ≡ length leaves → length part ≡ b - a → outer ≡ roots_outside (map leaf_digest leaves) count a b
    → hash_of (range_tree count a b (map Leaf part) outer) ≡ root_of (replaced a b part leaves)
after_root a b count part leaves outer some within is fits own =
    let same : length (replaced a b part leaves) ≡ length leaves = replaced_length a b part leaves (omega arith) (omega arith) fits in
    ap (λ roots. hash_of (range_tree count a b (map Leaf part) roots)) (own ∙ roots_replaced a b count part leaves some within is fits)
    ∙ ap (λ new. hash_of (range_tree count a b (map Leaf new) (roots_outside (map leaf_digest (replaced a b part leaves)) count a b))) (sym (replaced_part a b part leaves (omega arith) (omega arith) fits))
    ∙ own_leaves_root a b count (replaced a b part leaves) (omega arith) within (is ∙ sym same)

-- the computation from a list's own roots
pub own_segments_joins : (count a b : ℕ) (hashes : List (List ℕ)) → JoinsSegments (places_between a b) count (roots_inside hashes count a b) (roots_outside hashes count a b) (segments_tree count a b (roots_inside hashes count a b) (roots_outside hashes count a b))
own_segments_joins count a b hashes = record {
  places = length-map (cover (places_between a b) count) (λ segment. segment_root hashes segment.level segment.index);
  segments = length-map (cover (others (places_between a b)) count) (λ segment. segment_root hashes segment.level segment.index);
  joined = segments_tree_is count a b (roots_inside hashes count a b) (roots_outside hashes count a b);
}

pub own_segments_root : (count a b : ℕ) (hashes : List (List ℕ)) → 0 < count → count ≡ length hashes → hash_of (segments_tree count a b (roots_inside hashes count a b) (roots_outside hashes count a b)) ≡ node_root_of hashes
own_segments_root count a b hashes some is =
    ap hash_of (segments_tree_is count a b (roots_inside hashes count a b) (roots_outside hashes count a b))
    ∙ ap (λ n. hash_of (joined_segments_within (places_between a b) n n 0 (roots_inside hashes n a b) (roots_outside hashes n a b))) is
    ∙ own_segments_whole (places_between a b) hashes (omega arith)

update_by : (bytes new : List ℕ) (a b : ℕ) (inner outer : List (List ℕ)) → a < b → b ≤ leaf_count (length bytes) → leaf_count (length new) ≡ b - a
    → ((roots_inside (map leaf_digest (leaves_of bytes)) (leaf_count (length bytes)) a b ≡ inner) × (roots_outside (map leaf_digest (leaves_of bytes)) (leaf_count (length bytes)) a b ≡ outer))
    ⊎ Collides (own_update_tree bytes a b) (segments_tree (leaf_count (length bytes)) a b inner outer)
    → IsOwnUpdate bytes new a b inner outer ⊎ Collides (own_update_tree bytes a b) (segments_tree (leaf_count (length bytes)) a b inner outer)
update_by bytes new a b inner outer some within fits (inl same) = inl (record {
  inside = sym same.0;
  outside = sym same.1;
  after = after_root a b (leaf_count (length bytes)) (leaves_of new) (leaves_of bytes) outer some within (sym (length-leaves bytes)) (length-leaves new ∙ fits) (sym same.1);
})
update_by bytes new a b inner outer some within fits (inr clash) = inr clash

pub another_update : (bytes root new : List ℕ) (a b : ℕ) (inner outer : List (List ℕ)) → a < b → b ≤ leaf_count (length bytes) → leaf_count (length new) ≡ b - a → root_of (leaves_of bytes) ≡ root
    → AreHashes inner → AreHashes outer → IsUpdateOf root (leaf_count (length bytes)) a b inner outer
    → IsOwnUpdate bytes new a b inner outer ⊎ Collides (own_update_tree bytes a b) (segments_tree (leaf_count (length bytes)) a b inner outer)
another_update bytes root new a b inner outer some within fits is ins outs proof =
    let count = leaf_count (length bytes) in
    let hashes = map leaf_digest (leaves_of bytes) in
    update_by bytes new a b inner outer some within fits
    (segments_collide (places_between a b) count (roots_inside hashes count a b) inner (roots_outside hashes count a b) outer (own_update_tree bytes a b) (segments_tree count a b inner outer) (omega arith)
    (own_segments_joins count a b hashes) proof.joins
    (roots_sized hashes (cover (places_between a b) count) (digests_sized (leaves_of bytes))) (roots_sized hashes (cover (others (places_between a b)) count) (digests_sized (leaves_of bytes))) ins outs
    (own_segments_root count a b hashes (omega arith) (sym (length-leaf_hashes bytes)) ∙ is ∙ sym proof.gives))
