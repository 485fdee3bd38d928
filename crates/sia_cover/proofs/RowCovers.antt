-- The cover of the places of a row of hashes at the end of a list.
use Rattle.std.proofs.Common.{◌≡◌, ℕ, suc, ◌+◌, ◌-◌, ◌*◌, ◌^◌, ◌<◌, ◌≤◌, true, false, List, [], ◌∷◌, ◌++◌, length, take, drop, refl, sym, ◌∙◌, ap, arith, append-nil}
use Rattle.std.specs.Prelude.{Bool}
use Rattle.std.proofs.lemmas.List.{drop-drop, take_all}
use Rattle.sia_merkle.specs.Roots.{tree_root}
use Rattle.sia_merkle.specs.Segments.{cover, cover_within, is_covered, others, segment_root, segment_roots}
use Rattle.sia_merkle.proofs.Windows.{root_at}
use Rattle.sia_cover.proofs.Covers.{cover_both, cover_clear, cover_lower, cover_past, covered_within, roots_both}
use Rattle.sia_cover.proofs.Growth.{cover_grown, one_root}

-- How a row of hashes from a base on stands to the whole list.
pub record IsRow (count base : ℕ) (hashes row : List (List ℕ)) : Type 0 where
  pub behind : drop base hashes ≡ row
  pub all : length hashes ≡ count

-- a covered segment's root
pub row_full : (chosen : ℕ → Bool) (count base at height index : ℕ) (hashes row roots : List (List ℕ)) (root : List ℕ) → IsRow count base hashes row → base + at ≡ index * 2 ^ height
    → is_covered chosen count height (base + at) ≡ true → root ≡ tree_root height (take (2 ^ height) (drop at row))
    → roots ++ root ∷ [] ≡ roots ++ segment_roots hashes (cover_within chosen (length hashes) height (base + at))
row_full chosen count base at height index hashes row roots root is aligned e made =
    let there : drop at row ≡ drop (base + at) hashes = ap (drop at) (sym is.behind) ∙ drop-drop at base hashes in
    let whole : is_covered chosen (length hashes) height (base + at) ≡ true = ap (λ n. is_covered chosen n height (base + at)) is.all ∙ e in
    ap (λ top. roots ++ top ∷ []) (made ∙ ap (λ part. tree_root height (take (2 ^ height) part)) there ∙ sym (root_at hashes height (base + at) index aligned))
    ∙ ap (λ tops. roots ++ tops) (sym (one_root chosen (length hashes) height (base + at) hashes whole))

-- no segment
pub row_clear : (chosen : ℕ → Bool) (count base low height : ℕ) (hashes row roots : List (List ℕ)) → IsRow count base hashes row → is_covered (others chosen) count height low ≡ true
    → roots ≡ roots ++ segment_roots hashes (cover_within chosen (length hashes) height low)
row_clear chosen count base low height hashes row roots is e =
    sym (ap (λ cover. roots ++ segment_roots hashes cover) (cover_clear chosen (length hashes) height low (ap (λ n. is_covered (others chosen) n height low) is.all ∙ e)) ∙ append-nil roots)

-- the first half alone
pub row_low : (chosen : ℕ → Bool) (count base low height lower : ℕ) (hashes row roots new : List (List ℕ)) → IsRow count base hashes row → height ≡ suc lower → count ≤ low + 2 ^ lower → low < count
    → is_covered chosen count height low ≡ false → new ≡ roots ++ segment_roots hashes (cover_within chosen (length hashes) lower low) → new ≡ roots ++ segment_roots hashes (cover_within chosen (length hashes) height low)
row_low chosen count base low height lower hashes row roots new is up past some e made =
    let all : length hashes ≡ count = is.all in
    made ∙ ap (λ cover. roots ++ segment_roots hashes cover) (sym (cover_lower chosen (length hashes) height lower low up (omega arith) (omega arith) (ap (λ n. is_covered chosen n height low) all ∙ e)))

-- both halves
pub row_both : (chosen : ℕ → Bool) (count base low height lower next : ℕ) (hashes row roots half new : List (List ℕ)) → IsRow count base hashes row → height ≡ suc lower → next ≡ low + 2 ^ lower
    → is_covered chosen count height low ≡ false → half ≡ roots ++ segment_roots hashes (cover_within chosen (length hashes) lower low)
    → new ≡ half ++ segment_roots hashes (cover_within chosen (length hashes) lower next) → new ≡ roots ++ segment_roots hashes (cover_within chosen (length hashes) height low)
row_both chosen count base low height lower next hashes row roots half new is up there e first second =
    second ∙ ap (λ at. half ++ segment_roots hashes (cover_within chosen (length hashes) lower at)) there
    ∙ ap (λ front. front ++ segment_roots hashes (cover_within chosen (length hashes) lower (low + 2 ^ lower))) first
    ∙ roots_both hashes roots (cover_within chosen (length hashes) lower low) (cover_within chosen (length hashes) lower (low + 2 ^ lower)) (cover_within chosen (length hashes) height low)
    (cover_both chosen (length hashes) height lower low up (ap (λ n. is_covered chosen n height low) is.all ∙ e))

-- a whole row
pub whole_full : (chosen : ℕ → Bool) (count base level index : ℕ) (hashes row roots : List (List ℕ)) (root : List ℕ) → IsRow count base hashes row → base ≡ index * 2 ^ level
    → length row ≤ 2 ^ level → is_covered chosen count level base ≡ true → root ≡ tree_root level row
    → roots ++ root ∷ [] ≡ roots ++ segment_roots hashes (cover_within chosen (length hashes) level base)
whole_full chosen count base level index hashes row roots root is aligned short e made =
    let same : base + 0 ≡ base = omega arith in
    row_full chosen count base 0 level index hashes row roots root is (same ∙ aligned) (ap (is_covered chosen count level) same ∙ e) (made ∙ ap (tree_root level) (sym (take_all (2 ^ level) row short)))
    ∙ ap (λ at. roots ++ segment_roots hashes (cover_within chosen (length hashes) level at)) same

-- no row
pub whole_none : (chosen : ℕ → Bool) (count base level : ℕ) (hashes row roots : List (List ℕ)) → IsRow count base hashes row → count ≤ base → roots ≡ roots ++ segment_roots hashes (cover_within chosen (length hashes) level base)
whole_none chosen count base level hashes row roots is none =
    let all : length hashes ≡ count = is.all in
    sym (ap (λ cover. roots ++ segment_roots hashes cover) (cover_past chosen (length hashes) level base (omega arith)) ∙ append-nil roots)

-- the roots after a last row, which is shorter than a part
pub grown_roots : (chosen : ℕ → Bool) (level before more : ℕ) (hashes roots new : List (List ℕ)) → length hashes ≡ before * 2 ^ level + more → more < 2 ^ level
    → roots ≡ segment_roots hashes (cover chosen (before * 2 ^ level)) → new ≡ roots ++ segment_roots hashes (cover_within chosen (length hashes) level (before * 2 ^ level))
    → new ≡ segment_roots hashes (cover chosen (length hashes))
grown_roots chosen level before more hashes roots new all short was made =
    made ∙ ap (λ front. front ++ segment_roots hashes (cover_within chosen (length hashes) level (before * 2 ^ level))) was
    ∙ roots_both hashes [] (cover chosen (before * 2 ^ level)) (cover_within chosen (length hashes) level (before * 2 ^ level)) (cover chosen (length hashes))
    (cover_grown chosen level before more (before * 2 ^ level) (length hashes) refl all short)
