use Rattle.std.proofs.Common.{◌≡◌, ◌+◌, ◌*◌, ◌∷◌, [], ◌++◌, length, map, take, ap, ap₂, ◌∙◌, sym, arith}
use Rattle.std.proofs.lemmas.List.{append-nil, append_assoc, length-append, take_all}
use Rattle.sia_merkle.specs.Levels.{pairs, levels_up}
use Rattle.sia_merkle.specs.Roots.{leaf_digest, leaves_of, node_root_of}
use Rattle.sia_merkle.proofs.Cuts.{length-leaf_hashes}
use Rattle.sia_merkle.proofs.Fours.{group_pushed, groups_before}
use Rattle.sia_merkle.proofs.pieces.push_parts.Goals as goal

pub loop-place-init : goal.loop-place-init
unfolding levels_up pairs
loop-place-init c = sym (append-nil c.args.groups.now)

pub push_hash-requires : goal.push_hash-requires
push_hash-requires c =
    let up = levels_up 6 (take (c.loop-place.place * 64) (map leaf_digest (leaves_of c.args.bytes.now))) in
    let size : length c.loop-place.groups ≡ length c.args.groups.now + length up = ap length c.loop-place.invariant ∙ length-append c.args.groups.now up in
    omega (arith, size, groups_before (map leaf_digest (leaves_of c.args.bytes.now)) c.loop-place.place (omega (arith, length-leaf_hashes c.args.bytes.now)))

pub loop-place-preserved : goal.loop-place-preserved
loop-place-preserved c =
    let before = levels_up 6 (take (c.loop-place.place * 64) (map leaf_digest (leaves_of c.args.bytes.now))) in
    c.push_hash.ensures
    ∙ ap₂ (λ stack root. stack ++ root ∷ []) c.loop-place.invariant (c.leaf_part_root.ensures ∙ ap (λ part. node_root_of (map leaf_digest (leaves_of part))) c.part_of.ensures)
    ∙ append_assoc c.args.groups.now before _
    ∙ ap (λ up. c.args.groups.now ++ up) (sym (group_pushed c.args.bytes.now c.loop-place.place (omega arith)))

pub returns : goal.returns
returns c =
    c.loop-place.invariant
    ∙ ap (λ hashes. c.args.groups.now ++ levels_up 6 hashes) (take_all (c.loop-place.place * 64) (map leaf_digest (leaves_of c.args.bytes.now)) (omega (arith, length-leaf_hashes c.args.bytes.now)))
