-- Nodes over a place are made anew, from the lowest one up.
use Rattle.std.proofs.Common.{◌≡◌, ◌≢◌, ◌⊎◌, ℕ, zero, suc, ◌+◌, ◌-◌, ◌*◌, ◌^◌, ◌/◌, ◌<◌, ◌≤◌, List, [], length, set, sym, subst, ◌∙◌, ap, inl, inr, ⊎_elim, arith, get_or-set_same, get_or-set_other}
use native.Mathlib.Nat.{pow-suc}
use Rattle.sia_merkle.specs.Roots.{node_digest}
use Rattle.sia_merkle.specs.Segments.{segment_root}
use Rattle.sia_roottree.specs.KeptNodes.{kept_root, node_place, AreKept, AreKeptBeside}
use Rattle.sia_roottree.proofs.Changes.{kept_one}
use Rattle.sia_roottree.proofs.Halves.{segment_split}
use Rattle.sia_roottree.proofs.NodePlaces.{le_or_more, one_or_other, level_low, place_within, place_same, whole_below}

module _ (hashes nodes : List (List ℕ)) (place below : ℕ) (same : length nodes ≡ length hashes) (kept : AreKeptBeside place below hashes nodes) where
  -- the nodes with that over two halves of height `below`
  abbrev new_nodes : ℕ → List (List ℕ)
  new_nodes index = set nodes (node_place below index) (node_digest (kept_root hashes nodes below (2 * index)) (kept_root hashes nodes below (2 * index + 1)))

  -- the new node
  made : (index : ℕ) → (index + 1) * 2 ^ suc below ≤ length hashes → kept_root hashes (new_nodes index) (suc below) index ≡ segment_root hashes (suc below) index
  unfolding kept_root
  made index whole =
      let end : (index + 1) * 2 ^ suc below ≡ (2 * index + 1 + 1) * 2 ^ below = ap (λ w. (index + 1) * w) (pow-suc 2 below) ∙ (omega arith) in
      let more : (2 * index + 1 + 1) * 2 ^ below ≡ (2 * index + 1) * 2 ^ below + 2 ^ below = omega arith in
      let left = kept below (2 * index) (omega arith) (inl (omega arith)) in
      let right = kept below (2 * index + 1) (omega arith) (inl (omega arith)) in
      get_or-set_same nodes (node_place below index) _ [] (omega (arith, place_within below index))
      ∙ (ap (λ x. node_digest x (kept_root hashes nodes below (2 * index + 1))) left ∙ (ap (λ y. node_digest (segment_root hashes below (2 * index)) y) right ∙ sym (segment_split hashes below index whole)))

  -- another one
  other_node : (index lower other : ℕ) → (below ≢ lower) ⊎ (index ≢ other) → kept_root hashes (new_nodes index) (suc lower) other ≡ kept_root hashes nodes (suc lower) other
  unfolding kept_root
  other_node index lower other differ =
      get_or-set_other nodes (node_place below index) (node_place lower other) _ []
      (λ e. let one = place_same lower below other index e in ⊎_elim (λ ne. ne (sym one.0)) (λ ne. ne (sym one.1)) differ)

  raised_at : (index : ℕ) → index ≡ place / 2 ^ suc below → (index + 1) * 2 ^ suc below ≤ length hashes → AreKeptBeside place (suc below) hashes (new_nodes index)
  raised_at index is whole zero other within either = kept_one hashes (new_nodes index) other within
  raised_at index is whole (suc lower) other within either = ⊎_elim here there (one_or_other below lower) where
    old : (suc lower ≤ below) ⊎ (other ≢ place / 2 ^ suc lower) → (below ≢ lower) ⊎ (index ≢ other) → kept_root hashes (new_nodes index) (suc lower) other ≡ segment_root hashes (suc lower) other
    old which differ = other_node index lower other differ ∙ kept (suc lower) other within which

    here : below ≡ lower → kept_root hashes (new_nodes index) (suc lower) other ≡ segment_root hashes (suc lower) other
    here level =
        ⊎_elim
        (λ one. subst (λ (l : ℕ). kept_root hashes (new_nodes index) (suc l) other ≡ segment_root hashes (suc l) other) level
        (subst (λ (o : ℕ). kept_root hashes (new_nodes index) (suc below) o ≡ segment_root hashes (suc below) o) one (made index whole)))
        (λ ne. old (inr (λ e. ne (is ∙ (ap (λ l. place / 2 ^ suc l) level ∙ sym e)))) (inr ne))
        (one_or_other index other)

    there : below ≢ lower → kept_root hashes (new_nodes index) (suc lower) other ≡ segment_root hashes (suc lower) other
    there ne = ⊎_elim
        (λ low. old (inl (⊎_elim (λ le. le) (λ lt. absurd (ne (omega arith))) (le_or_more (suc lower) below))) (inl ne))
        (λ apart. old (inr apart) (inl ne))
        either

  -- a node that is not whole ends it
  pub stops : length hashes < (place / 2 ^ (below + 1) + 1) * 2 ^ (below + 1) → AreKept hashes nodes
  stops short level index whole = ⊎_elim (λ low. kept level index whole (inl low)) above (le_or_more level below) where
    above : below < level → kept_root hashes nodes level index ≡ segment_root hashes level index
    above high = ⊎_elim here (λ ne. kept level index whole (inr ne)) (one_or_other index (place / 2 ^ level)) where
      here : index ≡ place / 2 ^ level → kept_root hashes nodes level index ≡ segment_root hashes level index
      here is =
          let up : level ≡ below + 1 + (level - (below + 1)) = omega arith in
          let there : (place / 2 ^ level + 1) * 2 ^ level ≤ length hashes = subst (λ (i : ℕ). (i + 1) * 2 ^ level ≤ length hashes) is whole in
          let low = whole_below place (below + 1) (level - (below + 1)) (length hashes) (subst (λ (l : ℕ). (place / 2 ^ l + 1) * 2 ^ l ≤ length hashes) up there) in
          absurd (omega arith)

-- one node more
pub raised : (hashes nodes new : List (List ℕ)) (place below index : ℕ) → length nodes ≡ length hashes → AreKeptBeside place below hashes nodes
    → index ≡ place / 2 ^ (below + 1) → (index + 1) * 2 ^ (below + 1) ≤ length hashes
    → new ≡ set nodes (node_place below index) (node_digest (kept_root hashes nodes below (2 * index)) (kept_root hashes nodes below (2 * index + 1)))
    → AreKeptBeside place (below + 1) hashes new
raised hashes nodes new place below index same kept is whole new_is =
    let up : below + 1 ≡ suc below = omega arith in
    let is' : index ≡ place / 2 ^ suc below = is ∙ ap (λ l. place / 2 ^ l) up in
    let whole' : (index + 1) * 2 ^ suc below ≤ length hashes = subst (λ (l : ℕ). (index + 1) * 2 ^ l ≤ length hashes) up whole in
    subst (AreKeptBeside place (below + 1) hashes) (sym new_is) (subst (λ (l : ℕ). AreKeptBeside place l hashes (new_nodes hashes nodes place below same kept index)) (sym up) (raised_at hashes nodes place below same kept index is' whole'))

-- all levels are made
pub raised_all : (hashes nodes : List (List ℕ)) (place top : ℕ) → length hashes ≤ 65536 → top ≡ 16 → AreKeptBeside place top hashes nodes → AreKept hashes nodes
raised_all hashes nodes place top few is kept level index whole = let low = level_low level index (omega arith) in kept level index whole (inl (omega arith))
