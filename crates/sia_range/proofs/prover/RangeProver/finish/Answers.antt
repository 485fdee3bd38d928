use Rattle.std.proofs.Common.{◌≡◌, ◌^◌, ◌≤◌, ◌++◌, length, map, subst, ◌∙◌, ap, arith}
use Rattle.sia_merkle.specs.Roots.{leaf_count, leaf_digest, leaves_of, root_of}
use Rattle.sia_merkle.proofs.Cuts.{length-leaf_hashes}
use Rattle.sia_merkle.proofs.Trees.{node_root_of-at}
use Rattle.sia_range.specs.Proving.{Proving}
use Rattle.sia_range.specs.Ranges.{roots_outside}
use Rattle.sia_range.proofs.Kept.{kept_root, outer_grown}
use Rattle.sia_range.proofs.prover.RangeProver.finish.Goals as goal

pub append_part-requires-clause-part : goal.append_part-requires-clause-part
append_part-requires-clause-part c = omega (arith, length-leaf_hashes c.args.last.now)

pub append_part-requires-clause-root : goal.append_part-requires-clause-root
append_part-requires-clause-root c =
    let few : length (map leaf_digest (leaves_of c.args.last.now)) ≤ 2 ^ 10 = omega (arith, length-leaf_hashes c.args.last.now) in
    c.root-last_root.ensures ∙ node_root_of-at 10 (map leaf_digest (leaves_of c.args.last.now)) few

pub returns-clause-root : goal.returns-clause-root
returns-clause-root c =
    kept_root c.self.inside.count c.self.inside.places.start c.self.inside.places.end c.self.inside.pieces c.self.inside.outer _ c.args.last.now c.root_behind-root.result c.self.invariant c.root_behind-root.ensures
    ∙ ap (λ (seen : Proving). root_of (leaves_of (seen.bytes ++ c.args.last.now))) c.self.view_is

pub returns-clause-hashes : goal.returns-clause-hashes
returns-clause-hashes c =
    subst (λ (seen : Proving). c.append_part.new.roots ≡ roots_outside (map leaf_digest (leaves_of (seen.bytes ++ c.args.last.now))) (leaf_count (length (seen.bytes ++ c.args.last.now))) seen.start seen.end) c.self.view_is
    (outer_grown c.self.inside.places.start c.self.inside.places.end c.self.inside.count _ c.args.last.now c.self.inside.outer c.append_part.new.roots c.self.invariant.whole c.self.invariant.outer_is c.in_ok-append_part.ensures)
