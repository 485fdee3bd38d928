use Rattle.std.proofs.Common.{◌≡◌, ◌∙◌, ◌<◌, ℕ, Bool, ap, length, get_or, arith}
use Rattle.sia_merkle.specs.Segments.{cover, others, segment_roots}
use Rattle.sia_diff.specs.Diffs.{touched_or_new}
use Rattle.sia_diff.specs.DiffSteps.{touched_places}
use Rattle.sia_diff.proofs.Listed.{are_places, chosen_is, touched_below}
use Rattle.sia_diff.proofs.prove.prove_diff.Goals as goal

pub hashes_of-requires : goal.hashes_of-requires
hashes_of-requires g c = λ k within.
    let is : c.as_slice.result.now ≡ touched_places c.count-n.result c.args.steps.now = c.as_slice.ensures ∙ c.in_ok-touched.ensures in
    let below : get_or (touched_places c.count-n.result c.args.steps.now) k 0 < c.count-n.result = touched_below c.count-n.result c.args.steps.now k 0 (omega (arith, ap length is)) in
    omega (arith, ap (λ places. get_or places k 0) is, c.count-n.ensures)

pub invariant_of-chosen : goal.invariant_of-chosen
invariant_of-chosen g c = record { places = are_places c.count-n.result c.args.steps.now c.as_slice-2.result.now (c.as_slice-2.ensures ∙ c.in_ok-touched.ensures) }

pub returns-clause-nodes : goal.returns-clause-nodes
returns-clause-nodes g c =
    let len = length (g.N.Nodes.hashes c.args.nodes.now) in
    c.in_ok-roots.ensures
    ∙ ap (λ (chosen : ℕ → Bool). segment_roots (g.N.Nodes.hashes c.args.nodes.now) (cover (others chosen) len)) (chosen_is c.count-n.result c.args.steps.now c.as_slice-2.result.now (c.as_slice-2.ensures ∙ c.in_ok-touched.ensures))
    ∙ ap (λ n. segment_roots (g.N.Nodes.hashes c.args.nodes.now) (cover (others (touched_or_new n c.args.steps.now)) len)) c.count-n.ensures
