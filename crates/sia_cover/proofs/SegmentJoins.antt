-- Laws of the join of the roots of both covers.
use Rattle.std.proofs.Common.{◌≡◌, ℕ, zero, suc, ◌+◌, ◌^◌, ◌<◌, ◌≤◌, true, false, List, length, take, drop, refl, sym, ◌∙◌, ap, arith, suc-add, zero-add}
use native.Mathlib.Nat.{pow-suc}
use Rattle.std.specs.Prelude.{Bool}
use Rattle.std.proofs.lemmas.Bool.{le-leb, lt-leb, not-true}
use Rattle.sia_merkle.specs.Computations.{hash_of}
use Rattle.sia_merkle.specs.Computations.Tree.{Given, Node}
use Rattle.sia_merkle.specs.Roots.{first_hash, node_digest}
use Rattle.sia_merkle.specs.Segments.{cover_within, is_covered, others, joined_segments_within}
use Rattle.sia_merkle.proofs.Trees.{lt_pow, pow_up}
use Rattle.sia_cover.proofs.Covers.{covered_at, past_covered}
use Rattle.sia_cover.proofs.Joins.{hash_of_node}

-- the join, case by case
pub segments_inner : (chosen : ℕ → Bool) (count height low : ℕ) (inner outer : List (List ℕ)) → is_covered chosen count height low ≡ true
    → joined_segments_within chosen count height low inner outer ≡ Given (first_hash inner)
unfolding joined_segments_within
segments_inner chosen count zero low inner outer e = rw (covered_at chosen count 0 low low e (omega arith) (omega arith)) refl
segments_inner chosen count (suc height) low inner outer e = rw e refl

pub segments_outer : (chosen : ℕ → Bool) (count height low : ℕ) (inner outer : List (List ℕ)) → is_covered chosen count height low ≡ false → is_covered (others chosen) count height low ≡ true
    → joined_segments_within chosen count height low inner outer ≡ Given (first_hash outer)
unfolding joined_segments_within
segments_outer chosen count zero low inner outer e f =
    let out : chosen low ≡ false = not-true (chosen low) (covered_at (others chosen) count 0 low low f (omega arith) (omega arith)) in
    rw out refl
segments_outer chosen count (suc height) low inner outer e f = rw (e, f) refl

pub segments_low : (chosen : ℕ → Bool) (count height low : ℕ) (inner outer : List (List ℕ)) → is_covered chosen count (suc height) low ≡ false → is_covered (others chosen) count (suc height) low ≡ false
    → count ≤ low + 2 ^ height → joined_segments_within chosen count (suc height) low inner outer ≡ joined_segments_within chosen count height low inner outer
unfolding joined_segments_within
segments_low chosen count height low inner outer e f past = rw (e, f, le-leb _ _ past) refl

pub segments_node : (chosen : ℕ → Bool) (count height low : ℕ) (inner outer : List (List ℕ)) → is_covered chosen count (suc height) low ≡ false → is_covered (others chosen) count (suc height) low ≡ false
    → low + 2 ^ height < count → joined_segments_within chosen count (suc height) low inner outer ≡ Node
    (joined_segments_within chosen count height low (take (length (cover_within chosen count height low)) inner) (take (length (cover_within (others chosen) count height low)) outer))
    (joined_segments_within chosen count height (low + 2 ^ height) (drop (length (cover_within chosen count height low)) inner) (drop (length (cover_within (others chosen) count height low)) outer))
unfolding joined_segments_within
segments_node chosen count height low inner outer e f above = rw (e, f, lt-leb _ _ above) refl

-- a place of the tree is on one side or on the other
other_by : (chosen : ℕ → Bool) (count low : ℕ) → low < count → is_covered chosen count 0 low ≡ false → (here : Bool) → chosen low ≡ here → is_covered (others chosen) count 0 low ≡ true
other_by chosen count low within e false h = let top : low + 2 ^ 0 ≤ count = omega arith in rw (le-leb _ _ top, h) refl
other_by chosen count low within e true h =
    let top : low + 2 ^ 0 ≤ count = omega arith in
    let covered : is_covered chosen count 0 low ≡ true = rw (le-leb _ _ top, h) refl in
    absurd (let no : true ≡ false = sym covered ∙ e in cc)

pub other_covered : (chosen : ℕ → Bool) (count height low : ℕ) → height ≡ 0 → low < count → is_covered chosen count height low ≡ false → is_covered (others chosen) count height low ≡ true
other_covered chosen count height low is within e =
    ap (λ h. is_covered (others chosen) count h low) is ∙ other_by chosen count low within (ap (λ h. is_covered chosen count h low) (sym is) ∙ e) (chosen low) refl

-- any two heights that the places fit give one join
segments_add : (chosen : ℕ → Bool) (count more height : ℕ) (inner outer : List (List ℕ)) → count ≤ 2 ^ height
    → joined_segments_within chosen count (more + height) 0 inner outer ≡ joined_segments_within chosen count height 0 inner outer
segments_add chosen count zero height inner outer fits = rw zero-add refl
segments_add chosen count (suc more) height inner outer fits =
    let low : count ≤ 0 + 2 ^ (more + height) = omega (arith, pow_up more height) in
    let wide : count < 0 + 2 ^ suc (more + height) = omega (arith, pow-suc 2 (more + height), lt_pow (more + height)) in
    rw suc-add (segments_low chosen count (more + height) 0 inner outer (past_covered chosen count (suc (more + height)) 0 wide) (past_covered (others chosen) count (suc (more + height)) 0 wide) low
    ∙ segments_add chosen count more height inner outer fits)

pub segments_at : (chosen : ℕ → Bool) (count height : ℕ) (inner outer : List (List ℕ)) → count ≤ 2 ^ height
    → joined_segments_within chosen count count 0 inner outer ≡ joined_segments_within chosen count height 0 inner outer
segments_at chosen count height inner outer fits =
    let swapped : height + count ≡ count + height = omega arith in
    sym (segments_add chosen count height count inner outer (omega (arith, lt_pow count))) ∙ ap (λ h. joined_segments_within chosen count h 0 inner outer) swapped ∙ segments_add chosen count count height inner outer fits

pub segments_lower : (chosen : ℕ → Bool) (count height lower low : ℕ) (inner outer : List (List ℕ)) → height ≡ suc lower → is_covered chosen count height low ≡ false → is_covered (others chosen) count height low ≡ false
    → count ≤ low + 2 ^ lower → joined_segments_within chosen count height low inner outer ≡ joined_segments_within chosen count lower low inner outer
segments_lower chosen count height lower low inner outer is e f past =
    ap (λ h. joined_segments_within chosen count h low inner outer) is
    ∙ segments_low chosen count lower low inner outer (ap (λ h. is_covered chosen count h low) (sym is) ∙ e) (ap (λ h. is_covered (others chosen) count h low) (sym is) ∙ f) past

-- the join of its two parts
pub segments_both : (chosen : ℕ → Bool) (count height lower low : ℕ) (inner outer inner_left inner_right outer_left outer_right : List (List ℕ)) → height ≡ suc lower
    → is_covered chosen count height low ≡ false → is_covered (others chosen) count height low ≡ false → low + 2 ^ lower < count
    → inner_left ≡ take (length (cover_within chosen count lower low)) inner → inner_right ≡ drop (length (cover_within chosen count lower low)) inner
    → outer_left ≡ take (length (cover_within (others chosen) count lower low)) outer → outer_right ≡ drop (length (cover_within (others chosen) count lower low)) outer
    → node_digest (hash_of (joined_segments_within chosen count lower low inner_left outer_left)) (hash_of (joined_segments_within chosen count lower (low + 2 ^ lower) inner_right outer_right))
    ≡ hash_of (joined_segments_within chosen count height low inner outer)
segments_both chosen count height lower low inner outer inner_left inner_right outer_left outer_right is e f above il ir ol or =
    rw (il, ir, ol, or) (sym (ap (λ h. hash_of (joined_segments_within chosen count h low inner outer)) is
    ∙ ap hash_of (segments_node chosen count lower low inner outer (ap (λ h. is_covered chosen count h low) (sym is) ∙ e) (ap (λ h. is_covered (others chosen) count h low) (sym is) ∙ f) above)
    ∙ hash_of_node (joined_segments_within chosen count lower low (take (length (cover_within chosen count lower low)) inner) (take (length (cover_within (others chosen) count lower low)) outer))
    (joined_segments_within chosen count lower (low + 2 ^ lower) (drop (length (cover_within chosen count lower low)) inner) (drop (length (cover_within (others chosen) count lower low)) outer))))
