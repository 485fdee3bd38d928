-- What is kept after a change of the list.
use Rattle.std.proofs.Common.{◌≡◌, ℕ, zero, suc, ◌+◌, ◌*◌, ◌^◌, ◌≤◌, List, [], ◌∷◌, ◌++◌, length, set, refl, sym, subst, ◌∙◌, ⊎_elim, arith, length-set, length-append}
use Rattle.std.proofs.lemmas.List.{get_or_append_left}
use Rattle.std.proofs.lemmas.Nat.{pow_pos}
use Rattle.sia_merkle.specs.Segments.{segment_root}
use Rattle.sia_roottree.specs.KeptNodes.{kept_root, node_place, AreKept, AreKeptBeside}
use Rattle.sia_roottree.proofs.Halves.{segment_one, segment_front, segment_set_before, segment_set_behind}
use Rattle.sia_roottree.proofs.NodePlaces.{place_within, place_beside}

-- a hash itself is kept as it is
pub kept_one : (hashes nodes : List (List ℕ)) (index : ℕ) → (index + 1) * 2 ^ 0 ≤ length hashes → kept_root hashes nodes 0 index ≡ segment_root hashes 0 index
unfolding kept_root
kept_one hashes nodes index within = sym (segment_one hashes index within)

pub node_same : (hashes other nodes : List (List ℕ)) (below index : ℕ) → kept_root other nodes (suc below) index ≡ kept_root hashes nodes (suc below) index
unfolding kept_root
node_same hashes other nodes below index = refl

kept_front : (hashes more nodes others : List (List ℕ)) (level index : ℕ) → length nodes ≡ length hashes → (index + 1) * 2 ^ level ≤ length hashes
    → kept_root (hashes ++ more) (nodes ++ others) level index ≡ kept_root hashes nodes level index
unfolding kept_root
kept_front hashes more nodes others zero index same within = get_or_append_left hashes more [] index (omega arith)
kept_front hashes more nodes others (suc below) index same within = get_or_append_left nodes others [] (node_place below index) (omega (arith, place_within below index))

-- another hash at a place
pub beside_set : (hashes nodes : List (List ℕ)) (place : ℕ) (hash : List ℕ) → AreKept hashes nodes → AreKeptBeside place 0 (set hashes place hash) nodes
beside_set hashes nodes place hash kept zero index within either = kept_one (set hashes place hash) nodes index within
beside_set hashes nodes place hash kept (suc below) index within either =
    let whole : (index + 1) * 2 ^ suc below ≤ length hashes = omega (arith, length-set hashes place hash) in
    let before : kept_root (set hashes place hash) nodes (suc below) index ≡ segment_root hashes (suc below) index = node_same hashes (set hashes place hash) nodes below index ∙ kept (suc below) index whole in
    ⊎_elim (λ low. absurd (omega arith)) (λ other. before ∙ ⊎_elim
    (λ lt. sym (segment_set_before hashes hash place (suc below) index lt))
    (λ ge. sym (segment_set_behind hashes hash place (suc below) index ge))
    (place_beside place (suc below) index other)) either

-- one more hash
beside_last : (hashes nodes : List (List ℕ)) (hash node : List ℕ) → length nodes ≡ length hashes → AreKept hashes nodes
    → AreKeptBeside (length hashes) 0 (hashes ++ hash ∷ []) (nodes ++ node ∷ [])
beside_last hashes nodes hash node same kept zero index within either = kept_one (hashes ++ hash ∷ []) (nodes ++ node ∷ []) index within
beside_last hashes nodes hash node same kept (suc below) index within either =
    let longer : length (hashes ++ hash ∷ []) ≡ length hashes + 1 = length-append hashes (hash ∷ []) in
    let end : (index + 1) * 2 ^ suc below ≡ index * 2 ^ suc below + 2 ^ suc below = omega arith in
    ⊎_elim (λ low. absurd (omega arith)) (λ other. ⊎_elim
    (λ lt. absurd (omega (arith, pow_pos (suc below))))
    (λ whole. kept_front hashes (hash ∷ []) nodes (node ∷ []) (suc below) index same whole ∙ (kept (suc below) index whole ∙ sym (segment_front hashes (hash ∷ []) (suc below) index whole)))
    (place_beside (length hashes) (suc below) index other)) either

pub beside_push : (hashes nodes longer others : List (List ℕ)) (hash node : List ℕ) (place : ℕ) → longer ≡ hashes ++ hash ∷ [] → others ≡ nodes ++ node ∷ [] → place ≡ length hashes
    → length nodes ≡ length hashes → AreKept hashes nodes → AreKeptBeside place 0 longer others
beside_push hashes nodes longer others hash node place is nodes_is at same kept = rw (is, nodes_is, at) (beside_last hashes nodes hash node same kept)

-- one fewer
pub kept_pop : (hashes nodes longer all more others : List (List ℕ)) → longer ≡ hashes ++ more → all ≡ nodes ++ others → length nodes ≡ length hashes → AreKept longer all → AreKept hashes nodes
kept_pop hashes nodes longer all more others is all_is same before level index whole =
    let kept : AreKept (hashes ++ more) (nodes ++ others) = subst (AreKept (hashes ++ more)) all_is (subst (λ l. AreKept l all) is before) in
    let longer : length (hashes ++ more) ≡ length hashes + length more = length-append hashes more in
    sym (kept_front hashes more nodes others level index same whole) ∙ (kept level index (omega arith) ∙ segment_front hashes more level index whole)
