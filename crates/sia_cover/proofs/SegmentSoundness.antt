-- Two joins of the roots of both covers that give one root join the same, or show a collision.
use Rattle.std.proofs.Common.{◌≡◌, ℕ, zero, suc, ◌+◌, ◌^◌, ◌<◌, ◌≤◌, true, false, List, length, take, drop, refl, sym, ◌∙◌, ap, arith, length-drop, inl, inr}
use Rattle.std.specs.Prelude.{Bool, not, nat_le, ◌⊎◌}
use Rattle.std.proofs.lemmas.Bool.{leb-true, leb-false, not-true}
use Rattle.std.proofs.lemmas.List.{length-take-le}
use Rattle.sia_merkle.specs.Computations.{AreHashes, Tree, hash_of, same_tree, Collides, HaveOneShape, IsSized}
use Rattle.sia_merkle.specs.Roots.{first_hash}
use Rattle.sia_merkle.specs.Segments.{cover, cover_within, is_covered, others, joined_segments_within, JoinsSegments}
use Rattle.sia_cover.proofs.Covers.{cover_left, cover_one, cover_unchosen, covered_at}
use Rattle.sia_cover.proofs.SegmentJoins.{other_covered, segments_inner, segments_outer, segments_low, segments_node}
use Rattle.sia_cover.proofs.Soundness.{both_covers, take_sized, drop_sized, first_given_sized, from_parts, given_equal, given_shape, left_equal, no_elements, node_shape, node_sized, one_hash_each, one_or_collides, right_equal}

-- as many hashes as a join of the 2 ^ height places from low on takes
record FitsCovers (chosen : ℕ → Bool) (count height low : ℕ) (inner outer : List (List ℕ)) : Type 0 where
  pub inside : length inner ≡ length (cover_within chosen count height low)
  pub outside : length outer ≡ length (cover_within (others chosen) count height low)

-- a list with an element for each segment of a cover, by its two parts
cut_low : (chosen : ℕ → Bool) (count height low : ℕ) (hashes : List (List ℕ)) → low < count → is_covered chosen count (suc height) low ≡ false → count ≤ low + 2 ^ height
    → length hashes ≡ length (cover_within chosen count (suc height) low) → length hashes ≡ length (cover_within chosen count height low)
cut_low chosen count height low hashes within e past fits = fits ∙ ap length (cover_left chosen count height low past within e)

cut_left : (chosen : ℕ → Bool) (count height low : ℕ) (hashes : List (List ℕ)) → is_covered chosen count (suc height) low ≡ false → length hashes ≡ length (cover_within chosen count (suc height) low)
    → length (take (length (cover_within chosen count height low)) hashes) ≡ length (cover_within chosen count height low)
cut_left chosen count height low hashes e fits =
    let few : length (cover_within chosen count height low) ≤ length hashes = omega (arith, fits, both_covers chosen count height low e) in
    length-take-le (length (cover_within chosen count height low)) hashes few

cut_right : (chosen : ℕ → Bool) (count height low : ℕ) (hashes : List (List ℕ)) → is_covered chosen count (suc height) low ≡ false → length hashes ≡ length (cover_within chosen count (suc height) low)
    → length (drop (length (cover_within chosen count height low)) hashes) ≡ length (cover_within chosen count height (low + 2 ^ height))
cut_right chosen count height low hashes e fits = omega (arith, fits, both_covers chosen count height low e, length-drop (length (cover_within chosen count height low)) hashes)

-- where all places are on one side, the other has no segment
none_outside : (chosen : ℕ → Bool) (count height low : ℕ) → is_covered chosen count height low ≡ true → length (cover_within (others chosen) count height low) ≡ 0
none_outside chosen count height low e = ap length (cover_unchosen (others chosen) count height low (λ place from to. ap not (covered_at chosen count height low place e from to)))

none_inside : (chosen : ℕ → Bool) (count height low : ℕ) → is_covered (others chosen) count height low ≡ true → length (cover_within chosen count height low) ≡ 0
none_inside chosen count height low e = ap length (cover_unchosen chosen count height low (λ place from to. not-true (chosen place) (covered_at (others chosen) count height low place e from to)))

-- joins that are one join the same
equal_inner : (chosen : ℕ → Bool) (count height low : ℕ) (inner more outer extra : List (List ℕ)) → is_covered chosen count height low ≡ true
    → FitsCovers chosen count height low inner outer → FitsCovers chosen count height low more extra
    → joined_segments_within chosen count height low inner outer ≡ joined_segments_within chosen count height low more extra → (inner ≡ more) × (outer ≡ extra)
equal_inner chosen count height low inner more outer extra e fits fits' same =
    let one = ap length (cover_one chosen count height low e) in
    let none = none_outside chosen count height low e in
    let first : first_hash inner ≡ first_hash more =
    given_equal (first_hash inner) (first_hash more) (sym (segments_inner chosen count height low inner outer e) ∙ same ∙ segments_inner chosen count height low more extra e) in
    (one_hash_each inner more (fits.inside ∙ one) (fits'.inside ∙ one) first, no_elements outer extra (fits.outside ∙ none) (fits'.outside ∙ none))

equal_outer : (chosen : ℕ → Bool) (count height low : ℕ) (inner more outer extra : List (List ℕ)) → is_covered chosen count height low ≡ false → is_covered (others chosen) count height low ≡ true
    → FitsCovers chosen count height low inner outer → FitsCovers chosen count height low more extra
    → joined_segments_within chosen count height low inner outer ≡ joined_segments_within chosen count height low more extra → (inner ≡ more) × (outer ≡ extra)
equal_outer chosen count height low inner more outer extra e f fits fits' same =
    let one = ap length (cover_one (others chosen) count height low f) in
    let none = none_inside chosen count height low f in
    let first : first_hash outer ≡ first_hash extra =
    given_equal (first_hash outer) (first_hash extra) (sym (segments_outer chosen count height low inner outer e f) ∙ same ∙ segments_outer chosen count height low more extra e f) in
    (no_elements inner more (fits.inside ∙ none) (fits'.inside ∙ none), one_hash_each outer extra (fits.outside ∙ one) (fits'.outside ∙ one) first)

equal_end : (chosen : ℕ → Bool) (count low : ℕ) (inner more outer extra : List (List ℕ)) → low < count → FitsCovers chosen count 0 low inner outer → FitsCovers chosen count 0 low more extra
    → joined_segments_within chosen count 0 low inner outer ≡ joined_segments_within chosen count 0 low more extra
    → (covered : Bool) → is_covered chosen count 0 low ≡ covered → (inner ≡ more) × (outer ≡ extra)
equal_end chosen count low inner more outer extra within fits fits' same true e = equal_inner chosen count 0 low inner more outer extra e fits fits' same
equal_end chosen count low inner more outer extra within fits fits' same false e = equal_outer chosen count 0 low inner more outer extra e (other_covered chosen count 0 low refl within e) fits fits' same

equal_by : (chosen : ℕ → Bool) (count height low : ℕ) (inner more outer extra : List (List ℕ)) → low < count
    → FitsCovers chosen count (suc height) low inner outer → FitsCovers chosen count (suc height) low more extra
    → joined_segments_within chosen count (suc height) low inner outer ≡ joined_segments_within chosen count (suc height) low more extra
    → ((at : ℕ) (ins ins' outs outs' : List (List ℕ)) → at < count → FitsCovers chosen count height at ins outs → FitsCovers chosen count height at ins' outs'
    → joined_segments_within chosen count height at ins outs ≡ joined_segments_within chosen count height at ins' outs' → (ins ≡ ins') × (outs ≡ outs'))
    → (inside outside : Bool) → is_covered chosen count (suc height) low ≡ inside → is_covered (others chosen) count (suc height) low ≡ outside
    → (short : Bool) → nat_le count (low + 2 ^ height) ≡ short → (inner ≡ more) × (outer ≡ extra)
equal_by chosen count height low inner more outer extra within fits fits' same below true outside e f short g = equal_inner chosen count (suc height) low inner more outer extra e fits fits' same
equal_by chosen count height low inner more outer extra within fits fits' same below false true e f short g = equal_outer chosen count (suc height) low inner more outer extra e f fits fits' same
equal_by chosen count height low inner more outer extra within fits fits' same below false false e f true g =
    let past : count ≤ low + 2 ^ height = leb-true _ _ g in
    below low inner more outer extra within
    (record { inside = cut_low chosen count height low inner within e past fits.inside; outside = cut_low (others chosen) count height low outer within f past fits.outside })
    (record { inside = cut_low chosen count height low more within e past fits'.inside; outside = cut_low (others chosen) count height low extra within f past fits'.outside })
    (sym (segments_low chosen count height low inner outer e f past) ∙ same ∙ segments_low chosen count height low more extra e f past)
equal_by chosen count height low inner more outer extra within fits fits' same below false false e f false g =
    let above : low + 2 ^ height < count = leb-false _ _ g in
    let ins = length (cover_within chosen count height low) in
    let outs = length (cover_within (others chosen) count height low) in
    let nodes = sym (segments_node chosen count height low inner outer e f above) ∙ same ∙ segments_node chosen count height low more extra e f above in
    let lefts = below low (take ins inner) (take ins more) (take outs outer) (take outs extra) within
    (record { inside = cut_left chosen count height low inner e fits.inside; outside = cut_left (others chosen) count height low outer f fits.outside })
    (record { inside = cut_left chosen count height low more e fits'.inside; outside = cut_left (others chosen) count height low extra f fits'.outside })
    (left_equal _ _ _ _ nodes) in
    let rights = below (low + 2 ^ height) (drop ins inner) (drop ins more) (drop outs outer) (drop outs extra) above
    (record { inside = cut_right chosen count height low inner e fits.inside; outside = cut_right (others chosen) count height low outer f fits.outside })
    (record { inside = cut_right chosen count height low more e fits'.inside; outside = cut_right (others chosen) count height low extra f fits'.outside })
    (right_equal _ _ _ _ nodes) in
    (from_parts ins inner more lefts.0 rights.0, from_parts outs outer extra lefts.1 rights.1)

segments_equal : (chosen : ℕ → Bool) (count height low : ℕ) (inner more outer extra : List (List ℕ)) → low < count
    → FitsCovers chosen count height low inner outer → FitsCovers chosen count height low more extra
    → joined_segments_within chosen count height low inner outer ≡ joined_segments_within chosen count height low more extra → (inner ≡ more) × (outer ≡ extra)
segments_equal chosen count zero low inner more outer extra within fits fits' same = equal_end chosen count low inner more outer extra within fits fits' same (is_covered chosen count 0 low) refl
segments_equal chosen count (suc height) low inner more outer extra within fits fits' same =
    equal_by chosen count height low inner more outer extra within fits fits' same
    (λ at ins ins' outs outs' in_it first second one. segments_equal chosen count height at ins ins' outs outs' in_it first second one)
    (is_covered chosen count (suc height) low) (is_covered (others chosen) count (suc height) low) refl refl (nat_le count (low + 2 ^ height)) refl

-- a join of sized roots is sized
sized_end : (chosen : ℕ → Bool) (count low : ℕ) (inner outer : List (List ℕ)) → AreHashes inner → AreHashes outer → (here : Bool) → chosen low ≡ here → IsSized (joined_segments_within chosen count 0 low inner outer)
unfolding joined_segments_within
sized_end chosen count low inner outer ins outs true e = rw e (first_given_sized inner ins)
sized_end chosen count low inner outer ins outs false e = rw e (first_given_sized outer outs)

sized_by : (chosen : ℕ → Bool) (count height low : ℕ) (inner outer : List (List ℕ)) → AreHashes inner → AreHashes outer
    → ((at : ℕ) (ins outs : List (List ℕ)) → AreHashes ins → AreHashes outs → IsSized (joined_segments_within chosen count height at ins outs))
    → (inside outside : Bool) → is_covered chosen count (suc height) low ≡ inside → is_covered (others chosen) count (suc height) low ≡ outside
    → (short : Bool) → nat_le count (low + 2 ^ height) ≡ short → IsSized (joined_segments_within chosen count (suc height) low inner outer)
sized_by chosen count height low inner outer ins outs below true outside e f short g = rw (segments_inner chosen count (suc height) low inner outer e) (first_given_sized inner ins)
sized_by chosen count height low inner outer ins outs below false true e f short g = rw (segments_outer chosen count (suc height) low inner outer e f) (first_given_sized outer outs)
sized_by chosen count height low inner outer ins outs below false false e f true g = rw (segments_low chosen count height low inner outer e f (leb-true _ _ g)) (below low inner outer ins outs)
sized_by chosen count height low inner outer ins outs below false false e f false g =
    let first = length (cover_within chosen count height low) in
    let second = length (cover_within (others chosen) count height low) in
    rw (segments_node chosen count height low inner outer e f (leb-false _ _ g))
    (node_sized _ _ (below low (take first inner) (take second outer) (take_sized first inner ins) (take_sized second outer outs))
    (below (low + 2 ^ height) (drop first inner) (drop second outer) (drop_sized first inner ins) (drop_sized second outer outs)))

segments_sized : (chosen : ℕ → Bool) (count height low : ℕ) (inner outer : List (List ℕ)) → AreHashes inner → AreHashes outer → IsSized (joined_segments_within chosen count height low inner outer)
segments_sized chosen count zero low inner outer ins outs = sized_end chosen count low inner outer ins outs (chosen low) refl
segments_sized chosen count (suc height) low inner outer ins outs =
    sized_by chosen count height low inner outer ins outs (λ at first second all each. segments_sized chosen count height at first second all each)
    (is_covered chosen count (suc height) low) (is_covered (others chosen) count (suc height) low) refl refl (nat_le count (low + 2 ^ height)) refl

-- joins of one set of places have one shape
shape_end : (chosen : ℕ → Bool) (count low : ℕ) (inner more outer extra : List (List ℕ)) → (here : Bool) → chosen low ≡ here
    → HaveOneShape (joined_segments_within chosen count 0 low inner outer) (joined_segments_within chosen count 0 low more extra)
unfolding joined_segments_within
shape_end chosen count low inner more outer extra true e = rw e (given_shape (first_hash inner) (first_hash more))
shape_end chosen count low inner more outer extra false e = rw e (given_shape (first_hash outer) (first_hash extra))

shape_by : (chosen : ℕ → Bool) (count height low : ℕ) (inner more outer extra : List (List ℕ))
    → ((at : ℕ) (ins ins' outs outs' : List (List ℕ)) → HaveOneShape (joined_segments_within chosen count height at ins outs) (joined_segments_within chosen count height at ins' outs'))
    → (inside outside : Bool) → is_covered chosen count (suc height) low ≡ inside → is_covered (others chosen) count (suc height) low ≡ outside
    → (short : Bool) → nat_le count (low + 2 ^ height) ≡ short
    → HaveOneShape (joined_segments_within chosen count (suc height) low inner outer) (joined_segments_within chosen count (suc height) low more extra)
shape_by chosen count height low inner more outer extra below true outside e f short g =
    rw (segments_inner chosen count (suc height) low inner outer e, segments_inner chosen count (suc height) low more extra e) (given_shape (first_hash inner) (first_hash more))
shape_by chosen count height low inner more outer extra below false true e f short g =
    rw (segments_outer chosen count (suc height) low inner outer e f, segments_outer chosen count (suc height) low more extra e f) (given_shape (first_hash outer) (first_hash extra))
shape_by chosen count height low inner more outer extra below false false e f true g =
    rw (segments_low chosen count height low inner outer e f (leb-true _ _ g), segments_low chosen count height low more extra e f (leb-true _ _ g)) (below low inner more outer extra)
shape_by chosen count height low inner more outer extra below false false e f false g =
    let first = length (cover_within chosen count height low) in
    let second = length (cover_within (others chosen) count height low) in
    rw (segments_node chosen count height low inner outer e f (leb-false _ _ g), segments_node chosen count height low more extra e f (leb-false _ _ g))
    (node_shape _ _ _ _ (below low (take first inner) (take first more) (take second outer) (take second extra)) (below (low + 2 ^ height) (drop first inner) (drop first more) (drop second outer) (drop second extra)))

segments_shape : (chosen : ℕ → Bool) (count height low : ℕ) (inner more outer extra : List (List ℕ))
    → HaveOneShape (joined_segments_within chosen count height low inner outer) (joined_segments_within chosen count height low more extra)
segments_shape chosen count zero low inner more outer extra = shape_end chosen count low inner more outer extra (chosen low) refl
segments_shape chosen count (suc height) low inner more outer extra =
    shape_by chosen count height low inner more outer extra (λ at ins ins' outs outs'. segments_shape chosen count height at ins ins' outs outs')
    (is_covered chosen count (suc height) low) (is_covered (others chosen) count (suc height) low) refl refl (nat_le count (low + 2 ^ height)) refl

collide_by : (chosen : ℕ → Bool) (count : ℕ) (inner more outer extra : List (List ℕ)) → 0 < count → FitsCovers chosen count count 0 inner outer → FitsCovers chosen count count 0 more extra
    → (joined_segments_within chosen count count 0 inner outer ≡ joined_segments_within chosen count count 0 more extra)
    ⊎ Collides (joined_segments_within chosen count count 0 inner outer) (joined_segments_within chosen count count 0 more extra)
    → ((inner ≡ more) × (outer ≡ extra)) ⊎ Collides (joined_segments_within chosen count count 0 inner outer) (joined_segments_within chosen count count 0 more extra)
collide_by chosen count inner more outer extra some fits fits' (inl same) = inl (segments_equal chosen count count 0 inner more outer extra some fits fits' same)
collide_by chosen count inner more outer extra some fits fits' (inr clash) = inr clash

fits_whole : (chosen : ℕ → Bool) (count : ℕ) (inner outer : List (List ℕ)) (tree : Tree) → JoinsSegments chosen count inner outer tree → FitsCovers chosen count count 0 inner outer
unfolding cover
fits_whole chosen count inner outer tree joins = record { inside = joins.places; outside = joins.segments }

-- Two joins of the roots of both covers of a set of places that give one root join the same, or collide.
pub segments_collide : (chosen : ℕ → Bool) (count : ℕ) (inner more outer extra : List (List ℕ)) (tree other : Tree) → 0 < count
    → JoinsSegments chosen count inner outer tree → JoinsSegments chosen count more extra other
    → AreHashes inner → AreHashes outer → AreHashes more → AreHashes extra → hash_of tree ≡ hash_of other
    → ((inner ≡ more) × (outer ≡ extra)) ⊎ Collides tree other
segments_collide chosen count inner more outer extra tree other some joins joins' ins outs ins' outs' one =
    rw (joins.joined, joins'.joined)
    (collide_by chosen count inner more outer extra some (fits_whole chosen count inner outer tree joins) (fits_whole chosen count more extra other joins')
    (one_or_collides (joined_segments_within chosen count count 0 inner outer) (joined_segments_within chosen count count 0 more extra)
    (segments_sized chosen count count 0 inner outer ins outs) (segments_sized chosen count count 0 more extra ins' outs')
    (segments_shape chosen count count 0 inner more outer extra) (sym (ap hash_of joins.joined) ∙ one ∙ ap hash_of joins'.joined)
    (same_tree (joined_segments_within chosen count count 0 inner outer) (joined_segments_within chosen count count 0 more extra)) refl))
