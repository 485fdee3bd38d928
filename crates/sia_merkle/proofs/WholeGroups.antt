-- The roots of whole groups of leaves, and of what comes behind them.
use Rattle.std.proofs.Common.{◌≡◌, ℕ, ◌+◌, ◌*◌, ◌/◌, ◌%◌, ◌^◌, ◌<◌, List, [], ◌∷◌, ◌++◌, length, map, take, drop, refl, sym, ◌∙◌, ap, ap₂, arith}
use Rattle.std.proofs.lemmas.List.{append-nil, drop_at, length-append, take_at}
use Rattle.sia_merkle.specs.Levels.{pairs, levels_up}
use Rattle.sia_merkle.specs.Pieces.{AreGroups}
use Rattle.sia_merkle.specs.Roots.{leaf_digest, leaves_of, node_root_of, root_of}
use Rattle.sia_merkle.proofs.Cuts.{length-leaf_hashes}
use Rattle.sia_merkle.proofs.Fours.{leaves_apart}
use Rattle.sia_merkle.proofs.Raises.{length-up, node_root_of-up}

-- no bytes have no group
pub no_groups : AreGroups [] []
unfolding levels_up pairs leaves_of
no_groups = record { whole = refl; roots_are = refl }

-- the roots of the groups of a front, and what stands so many levels above the rest
pub groups_behind : (roots : List (List ℕ)) (front back : List ℕ) → AreGroups roots front → roots ++ levels_up 6 (map leaf_digest (leaves_of back)) ≡ levels_up 6 (map leaf_digest (leaves_of (front ++ back)))
unfolding levels_up pairs leaves_of
groups_behind roots front [] are = append-nil roots ∙ are.roots_are ∙ ap (λ bytes. levels_up 6 (map leaf_digest (leaves_of bytes))) (sym (append-nil front))
groups_behind roots front (byte ∷ back) are =
    let size : length front ≡ 64 * (length roots * 2 ^ 6) = are.whole ∙ (omega arith) in
    let more : length front < length (front ++ byte ∷ back) = omega (arith, length-append front (byte ∷ back)) in
    let first : take (length front) (front ++ byte ∷ back) ≡ front = take_at front (byte ∷ back) (length front) refl in
    let rest : drop (length front) (front ++ byte ∷ back) ≡ byte ∷ back = drop_at front (byte ∷ back) (length front) refl in
    ap₂ (λ xs ys. xs ++ ys) (are.roots_are ∙ ap (λ bytes. levels_up 6 (map leaf_digest (leaves_of bytes))) (sym first)) (ap (λ bytes. levels_up 6 (map leaf_digest (leaves_of bytes))) (sym rest))
    ∙ leaves_apart 6 (length roots) (length front) (front ++ byte ∷ back) size more

-- a piece of whole groups more
pub groups_more : (roots new : List (List ℕ)) (front piece : List ℕ) → AreGroups roots front → length piece % 4096 ≡ 0
    → new ≡ roots ++ levels_up 6 (map leaf_digest (leaves_of piece)) → AreGroups new (front ++ piece)
groups_more roots new front piece are groups is =
    let count : length (map leaf_digest (leaves_of piece)) ≡ length piece / 4096 * 2 ^ 6 = length-leaf_hashes piece ∙ (omega arith) in
    let grown : length new ≡ length roots + length piece / 4096 = ap length is ∙ length-append roots (levels_up 6 (map leaf_digest (leaves_of piece))) ∙ ap (λ n. length roots + n) (length-up 6 (length piece / 4096) (map leaf_digest (leaves_of piece)) count) in
    record {
      whole = omega (arith, length-append front piece, are.whole, grown);
      roots_are = is ∙ groups_behind roots front piece are;
    }

-- the root over the groups and a last piece
pub groups_root : (roots new : List (List ℕ)) (front last : List ℕ) → AreGroups roots front
    → new ≡ roots ++ levels_up 6 (map leaf_digest (leaves_of last)) → node_root_of new ≡ root_of (leaves_of (front ++ last))
groups_root roots new front last are is =
    ap node_root_of (is ∙ groups_behind roots front last are) ∙ node_root_of-up 6 (map leaf_digest (leaves_of (front ++ last)))
