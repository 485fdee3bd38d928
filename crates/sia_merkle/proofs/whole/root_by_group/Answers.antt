use Rattle.std.proofs.Common.{◌∷◌, [], ◌++◌, length, ap, ap₂, ◌∙◌, sym, arith}
use Rattle.sia_merkle.specs.Levels.{pairs, levels_up}
use Rattle.sia_merkle.specs.Roots.{node_root_of}
use Rattle.sia_merkle.proofs.Fours.{groups_before, hashes_pushed}
use Rattle.sia_merkle.proofs.Raises.{up_all}
use Rattle.sia_merkle.proofs.whole.root_by_group.Goals as goal

pub loop-place-init : goal.loop-place-init
unfolding levels_up pairs
loop-place-init c = c.new-stack.ensures

pub push_hash-requires : goal.push_hash-requires
push_hash-requires c = omega (arith, ap length c.loop-place.invariant ∙ groups_before c.args.hashes.now c.loop-place.place (omega arith))

pub loop-place-preserved : goal.loop-place-preserved
loop-place-preserved c =
    c.push_hash.ensures
    ∙ ap₂ (λ stack root. stack ++ root ∷ []) c.loop-place.invariant (c.part_root.ensures ∙ ap node_root_of c.group_of.ensures)
    ∙ sym (hashes_pushed c.args.hashes.now c.loop-place.place (omega arith))

pub returns : goal.returns
returns c = c.root.ensures ∙ ap node_root_of c.loop-place.invariant ∙ up_all 6 c.loop-place.place c.args.hashes.now (omega arith)
