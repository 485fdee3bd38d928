use Rattle.std.proofs.Common.{◌≡◌, map, take, slice_index_or, []}
use Rattle.sia_diff.proofs.prove.hashes_of.Given as goal

abbrev pub invariant-loop-place : goal.invariant-loop-place
invariant-loop-place g l = l.hashes ≡ map (λ place. slice_index_or (g.N.Nodes.hashes l.nodes) place []) (take l.place-index l.places)
