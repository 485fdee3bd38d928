-- What a list has itself is accepted under its root.
use Rattle.std.proofs.Common.{◌≡◌, ℕ, ◌*◌, ◌<◌, ◌≤◌, List, length, map, refl, sym, ◌∙◌, arith}
use Rattle.std.proofs.lemmas.List.{length-map}
use Rattle.sia_merkle.specs.Computations.Tree.{Given, Leaf}
use Rattle.sia_merkle.specs.Roots.{leaf_count, leaf_digest, leaves_of, node_root_of, root_of}
use Rattle.sia_merkle.proofs.Cuts.{length-leaf_hashes, length-leaves}
use Rattle.sia_range.specs.Ranges.{IsRangeProof, IsUpdateOf, part_between, roots_inside, roots_outside}
use Rattle.sia_range.proofs.ByteLeaves.{part_leaves}
use Rattle.sia_range.proofs.RangeSoundness.{own_given_joins, own_leaves_root, own_nodes_root, part_length}
use Rattle.sia_range.proofs.UpdateSoundness.{own_segments_joins, own_segments_root}

pub own_nodes : (list : List (List ℕ)) (a b : ℕ) → a < b → b ≤ length list → IsRangeProof (node_root_of list) (length list) a b (map Given (part_between a b list)) (roots_outside list (length list) a b)
own_nodes list a b some within = record {
  joins = own_given_joins (length list) a b (map Given (part_between a b list)) list some within (length-map (part_between a b list) Given ∙ part_length a b list (omega arith) within);
  gives = own_nodes_root a b (length list) list (omega arith) within refl;
}

own_leaves : (leaves : List (List ℕ)) (a b count : ℕ) → a < b → b ≤ count → count ≡ length leaves
    → IsRangeProof (root_of leaves) count a b (map Leaf (part_between a b leaves)) (roots_outside (map leaf_digest leaves) count a b)
own_leaves leaves a b count some within is = record {
  joins = own_given_joins count a b (map Leaf (part_between a b leaves)) (map leaf_digest leaves) some within (length-map (part_between a b leaves) Leaf ∙ part_length a b leaves (omega arith) (omega arith));
  gives = own_leaves_root a b count leaves (omega arith) within is;
}

pub own_range : (bytes : List ℕ) (a b : ℕ) → a < b → b ≤ leaf_count (length bytes)
    → IsRangeProof (root_of (leaves_of bytes)) (leaf_count (length bytes)) a b (map Leaf (leaves_of (part_between (64 * a) (64 * b) bytes))) (roots_outside (map leaf_digest (leaves_of bytes)) (leaf_count (length bytes)) a b)
own_range bytes a b some within = rw (part_leaves bytes a b some within) (own_leaves (leaves_of bytes) a b (leaf_count (length bytes)) some within (sym (length-leaves bytes)))

pub own_update : (bytes : List ℕ) (a b : ℕ) → a < b → b ≤ leaf_count (length bytes)
    → IsUpdateOf (root_of (leaves_of bytes)) (leaf_count (length bytes)) a b (roots_inside (map leaf_digest (leaves_of bytes)) (leaf_count (length bytes)) a b) (roots_outside (map leaf_digest (leaves_of bytes)) (leaf_count (length bytes)) a b)
own_update bytes a b some within = record {
  joins = own_segments_joins (leaf_count (length bytes)) a b (map leaf_digest (leaves_of bytes));
  gives = own_segments_root (leaf_count (length bytes)) a b (map leaf_digest (leaves_of bytes)) (omega arith) (sym (length-leaf_hashes bytes));
}
