-- The join of a row with the roots of a cover, subtree by subtree.
use Rattle.std.proofs.Common.{◌≡◌, ℕ, zero, suc, ◌+◌, ◌-◌, ◌*◌, ◌^◌, ◌<◌, ◌≤◌, true, false, List, [], ◌∷◌, length, map, take, drop, refl, sym, ◌∙◌, ap, arith, min, length-take, length-drop, zero-add}
use native.Mathlib.Nat.{pow-suc}
use Rattle.std.specs.Prelude.{Bool, not, count_by}
use Rattle.std.specs.List.{range_with_len}
use Rattle.std.proofs.lemmas.Bool.{le-leb}
use Rattle.std.proofs.lemmas.List.{take-map, drop-map, take-take, drop-drop}
use Rattle.sia_merkle.specs.Computations.{Tree, hash_of}
use Rattle.sia_merkle.specs.Computations.Tree.{Given}
use Rattle.sia_merkle.specs.Roots.{first_hash, node_digest, tree_root}
use Rattle.sia_merkle.specs.Segments.{cover, cover_within, is_covered, others, places_within, joined_within}
use Rattle.sia_cover.specs.Joined.{count_below}
use Rattle.sia_cover.proofs.Counts.{below_parts, count_all}
use Rattle.sia_cover.proofs.Covers.{all_pass, covered_at, covered_within, cover_past, not_covered, power_above}
use Rattle.sia_cover.proofs.Joins.{join_chosen, join_node, join_front, hash_given, hash_of_node, one_hash}
use Rattle.sia_merkle.proofs.Windows.{root_node}
use Rattle.sia_cover.proofs.SameCovers.{cover_any}

-- a subtree whose places are all chosen
covered_when : (chosen : ℕ → Bool) (count height low : ℕ) → low + 2 ^ height ≤ count → ((place : ℕ) → low ≤ place → place < low + 2 ^ height → chosen place ≡ true) → is_covered chosen count height low ≡ true
covered_when chosen count height low fits each = rw (le-leb _ _ fits) (all_pass chosen low (2 ^ height) each)

full_node : (chosen : ℕ → Bool) (count height low : ℕ) (hashes outer : List (List ℕ)) → is_covered chosen count (suc height) low ≡ true → 2 ^ suc height ≤ length hashes
    → ((at : ℕ) (row roots : List (List ℕ)) → is_covered chosen count height at ≡ true → 2 ^ height ≤ length row → hash_of (joined_within chosen count height at (map Given row) roots) ≡ tree_root height (take (2 ^ height) row))
    → hash_of (joined_within chosen count (suc height) low (map Given hashes) outer) ≡ tree_root (suc height) (take (2 ^ suc height) hashes)
full_node chosen count height low hashes outer e enough below =
    let up : 2 ^ suc height ≡ 2 ^ height * 2 = pow-suc 2 height in
    let some : 0 < 2 ^ height = power_above height in
    let top : low + 2 ^ suc height ≤ count = covered_within chosen count (suc height) low e in
    let each = λ (place : ℕ) (from : low ≤ place) (to : place < low + 2 ^ suc height). covered_at chosen count (suc height) low place e from to in
    let here : chosen low ≡ true = each low (omega arith) (omega arith) in
    let mixed : is_covered (others chosen) count (suc height) low ≡ false = not_covered (others chosen) count (suc height) low (ap not here) in
    let above : low + 2 ^ height < count = omega arith in
    let left : is_covered chosen count height low ≡ true = covered_when chosen count height low (omega arith) (λ place from to. each place from (omega arith)) in
    let right : is_covered chosen count height (low + 2 ^ height) ≡ true = covered_when chosen count height (low + 2 ^ height) (omega arith) (λ place from to. each place (omega arith) (omega arith)) in
    let whole : min (2 ^ height) (count - low) ≡ 2 ^ height = omega arith in
    let places : places_within chosen count height low ≡ 2 ^ height =
    ap (λ n. count_by chosen (range_with_len low n)) whole ∙ count_all chosen low (2 ^ height) (λ place from to. each place from (omega arith)) in
    let cut = length (cover_within (others chosen) count height low) in
    let long : 0 + 2 ^ height < length hashes = omega arith in
    let left_row : 2 ^ height ≤ length (take (2 ^ height) hashes) = omega (arith, length-take (2 ^ height) hashes) in
    let right_row : 2 ^ height ≤ length (drop (2 ^ height) hashes) = omega (arith, length-drop (2 ^ height) hashes) in
    ap hash_of (join_node chosen count height low (map Given hashes) outer mixed above)
    ∙ hash_of_node (joined_within chosen count height low (take (places_within chosen count height low) (map Given hashes)) (take cut outer))
    (joined_within chosen count height (low + 2 ^ height) (drop (places_within chosen count height low) (map Given hashes)) (drop cut outer))
    ∙ ap (λ n. node_digest (hash_of (joined_within chosen count height low (take n (map Given hashes)) (take cut outer))) (hash_of (joined_within chosen count height (low + 2 ^ height) (drop n (map Given hashes)) (drop cut outer)))) places
    ∙ ap (λ trees. node_digest (hash_of (joined_within chosen count height low trees (take cut outer))) (hash_of (joined_within chosen count height (low + 2 ^ height) (drop (2 ^ height) (map Given hashes)) (drop cut outer)))) (take-map Given (2 ^ height) hashes)
    ∙ ap (λ trees. node_digest (hash_of (joined_within chosen count height low (map Given (take (2 ^ height) hashes)) (take cut outer))) (hash_of (joined_within chosen count height (low + 2 ^ height) trees (drop cut outer)))) (drop-map Given (2 ^ height) hashes)
    ∙ ap (λ hash. node_digest hash (hash_of (joined_within chosen count height (low + 2 ^ height) (map Given (drop (2 ^ height) hashes)) (drop cut outer))))
    (below low (take (2 ^ height) hashes) (take cut outer) left left_row ∙ ap (tree_root height) (take-take (2 ^ height) (2 ^ height) hashes (omega arith)))
    ∙ ap (node_digest (tree_root height (take (2 ^ height) hashes))) (below (low + 2 ^ height) (drop (2 ^ height) hashes) (drop cut outer) right right_row)
    ∙ sym (root_node hashes height 0 long ∙ ap (λ n. node_digest (tree_root height (take (2 ^ height) hashes)) (tree_root height (take (2 ^ height) (drop n hashes)))) (zero-add (2 ^ height)))

-- the join of a subtree whose places are all chosen is the root over the first hashes of the row
pub full_join : (chosen : ℕ → Bool) (count height low : ℕ) (hashes outer : List (List ℕ)) → is_covered chosen count height low ≡ true → 2 ^ height ≤ length hashes
    → hash_of (joined_within chosen count height low (map Given hashes) outer) ≡ tree_root height (take (2 ^ height) hashes)
full_join chosen count zero low hashes outer e enough =
    ap hash_of (join_chosen chosen count low (map Given hashes) outer (covered_at chosen count 0 low low e (omega arith) (omega arith))) ∙ one_hash hashes
full_join chosen count (suc height) low hashes outer e enough =
    full_node chosen count height low hashes outer e enough (λ at row roots f long. full_join chosen count height at row roots f long)

-- where the row's part for a subtree begins, and that it is there
pub row_reaches : (chosen : ℕ → Bool) (count height low before len : ℕ) → is_covered chosen count height low ≡ true → before ≡ count_below chosen low → len ≡ count_below chosen count → before + 2 ^ height ≤ len
row_reaches chosen count height low before len e first all =
    let top : low + 2 ^ height ≤ count = covered_within chosen count height low e in
    let split : count ≡ low + 2 ^ height + (count - (low + 2 ^ height)) = omega arith in
    let rest = below_parts chosen (low + 2 ^ height) (count - (low + 2 ^ height)) in
    let whole : count_below chosen count ≡ count_below chosen (low + 2 ^ height + (count - (low + 2 ^ height))) = ap (count_below chosen) split in
    let part : count_by chosen (range_with_len low (2 ^ height)) ≡ 2 ^ height = count_all chosen low (2 ^ height) (λ place from to. covered_at chosen count height low place e from to) in
    omega (arith, whole, rest, part, below_parts chosen low (2 ^ height), first, all)

pub row_joined : (chosen : ℕ → Bool) (count height low before : ℕ) (hashes outer : List (List ℕ)) → is_covered chosen count height low ≡ true → before ≡ count_below chosen low → length hashes ≡ count_below chosen count
    → tree_root height (take (2 ^ height) (drop before hashes)) ≡ hash_of (joined_within chosen count height low (drop (count_below chosen low) (map Given hashes)) outer)
row_joined chosen count height low before hashes outer e first all =
    let reach : before + 2 ^ height ≤ length hashes = row_reaches chosen count height low before (length hashes) e first all in
    let long : 2 ^ height ≤ length (drop before hashes) = omega (arith, length-drop before hashes) in
    sym (ap (λ n. hash_of (joined_within chosen count height low (drop n (map Given hashes)) outer)) (sym first)
    ∙ ap (λ trees. hash_of (joined_within chosen count height low trees outer)) (drop-map Given before hashes)
    ∙ full_join chosen count height low (drop before hashes) outer e long)

-- the join of its two halves
pub join_both : (chosen : ℕ → Bool) (count height lower low : ℕ) (inner : List Tree) (outer lefts rights : List (List ℕ)) → height ≡ suc lower
    → is_covered (others chosen) count height low ≡ false → low + 2 ^ lower < count
    → lefts ≡ take (length (cover_within (others chosen) count lower low)) outer → rights ≡ drop (length (cover_within (others chosen) count lower low)) outer
    → node_digest (hash_of (joined_within chosen count lower low (drop (count_below chosen low) inner) lefts))
    (hash_of (joined_within chosen count lower (low + 2 ^ lower) (drop (count_below chosen (low + 2 ^ lower)) inner) rights))
    ≡ hash_of (joined_within chosen count height low (drop (count_below chosen low) inner) outer)
join_both chosen count height lower low inner outer lefts rights is e above left right =
    let cut = length (cover_within (others chosen) count lower low) in
    let places = places_within chosen count lower low in
    let row = drop (count_below chosen low) inner in
    let whole : min (2 ^ lower) (count - low) ≡ 2 ^ lower = omega arith in
    let counted : count_below chosen low + places ≡ count_below chosen (low + 2 ^ lower) = ap (λ n. count_below chosen low + count_by chosen (range_with_len low n)) whole ∙ sym (below_parts chosen low (2 ^ lower)) in
    let behind : drop places row ≡ drop (count_below chosen (low + 2 ^ lower)) inner = drop-drop places (count_below chosen low) inner ∙ ap (λ n. drop n inner) counted in
    sym (ap (λ h. hash_of (joined_within chosen count h low row outer)) is
    ∙ ap hash_of (join_node chosen count lower low row outer (ap (λ h. is_covered (others chosen) count h low) (sym is) ∙ e) above)
    ∙ hash_of_node (joined_within chosen count lower low (take places row) (take cut outer)) (joined_within chosen count lower (low + 2 ^ lower) (drop places row) (drop cut outer))
    ∙ ap (λ t. node_digest (hash_of t) (hash_of (joined_within chosen count lower (low + 2 ^ lower) (drop places row) (drop cut outer)))) (join_front chosen count lower low places row (take cut outer) (omega arith) (omega arith))
    ∙ ap (λ xs. node_digest (hash_of (joined_within chosen count lower low row (take cut outer))) (hash_of (joined_within chosen count lower (low + 2 ^ lower) xs (drop cut outer)))) behind
    ∙ ap (λ xs. node_digest (hash_of (joined_within chosen count lower low row xs)) (hash_of (joined_within chosen count lower (low + 2 ^ lower) (drop (count_below chosen (low + 2 ^ lower)) inner) (drop cut outer)))) (sym left)
    ∙ ap (λ xs. node_digest (hash_of (joined_within chosen count lower low row lefts)) (hash_of (joined_within chosen count lower (low + 2 ^ lower) (drop (count_below chosen (low + 2 ^ lower)) inner) xs))) (sym right))

-- the join of no places
nothing_by : (chosen : ℕ → Bool) (here : Bool) → chosen 0 ≡ here → first_hash [] ≡ hash_of (joined_within chosen 0 0 0 [] [])
unfolding joined_within
nothing_by chosen true e = rw e (sym (hash_given (first_hash [])))
nothing_by chosen false e = rw e (sym (hash_given (first_hash [])))

none_left : {X : Type 0} (xs : List X) → length xs ≡ 0 → xs ≡ []
none_left [] none = refl
none_left (x ∷ xs) none = absurd (let some : suc (length xs) ≡ 0 = none in omega arith)

pub no_segments : (chosen : ℕ → Bool) (count : ℕ) → count ≡ 0 → cover chosen count ≡ []
no_segments chosen count is = cover_any chosen count 0 (omega arith) ∙ cover_past chosen count 0 0 (omega arith)

pub join_nothing : (chosen : ℕ → Bool) (count : ℕ) (inner outer : List (List ℕ)) → count ≡ 0 → length inner ≡ count_below chosen count → length outer ≡ length (cover (others chosen) count)
    → first_hash [] ≡ hash_of (joined_within chosen count count 0 (map Given inner) outer)
join_nothing chosen count inner outer is places segments =
    let no_places : length inner ≡ 0 = places ∙ ap (count_below chosen) is in
    let none : length outer ≡ 0 = segments ∙ ap length (no_segments (others chosen) count is) in
    nothing_by chosen (chosen 0) refl
    ∙ sym (ap (λ n. hash_of (joined_within chosen n n 0 (map Given inner) outer)) is ∙ ap (λ hashes. hash_of (joined_within chosen 0 0 0 (map Given hashes) outer)) (none_left inner no_places)
    ∙ ap (λ hashes. hash_of (joined_within chosen 0 0 0 [] hashes)) (none_left outer none))
