use Rattle.std.proofs.Common.{◌∙◌, ◌++◌, ◌∷◌, [], ap, sym, map, take, get_or}
use Rattle.std.proofs.lemmas.List.{take_all}
use Rattle.sia_diff.proofs.Moves.{map_next, one_root_at}
use Rattle.sia_diff.proofs.prove.hashes_of.Goals as goal

pub loop-place-preserved : goal.loop-place-preserved
loop-place-preserved g c =
    let place = get_or c.args.places.now c.loop-place.place-index 0 in
    c.in_ok-push.ensures.ok ∙ ap (λ hashes. hashes ++ c.node-hash.result ∷ []) c.loop-place.invariant
    ∙ ap (λ hash. map (λ other. get_or (g.N.Nodes.hashes c.args.nodes.now) other []) (take c.loop-place.place-index c.args.places.now) ++ hash ∷ [])
    (c.node-hash.ensures ∙ one_root_at (g.N.Nodes.hashes c.args.nodes.now) place (c.requires c.loop-place.place-index c.loop-place-test.true))
    ∙ sym (map_next (λ other. get_or (g.N.Nodes.hashes c.args.nodes.now) other []) c.args.places.now c.loop-place.place-index c.loop-place-test.true)

pub returns : goal.returns
returns g c =
    c.loop-place.invariant ∙ ap (map (λ other. get_or (g.N.Nodes.hashes c.args.nodes.now) other [])) (take_all c.loop-place.place-index c.args.places.now c.loop-place-test.false)
