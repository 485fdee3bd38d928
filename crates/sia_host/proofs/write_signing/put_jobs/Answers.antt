-- All sectors are put.
use Rattle.std.proofs.Common.{◌≡◌, ◌∙◌, arith, length, sym}
use Rattle.std.specs.Vec.Iter.{into_iter_items}
use Rattle.sia_host.proofs.Written.{nothing_put}
use Rattle.sia_host.proofs.write_signing.put_jobs.Goals as goal

pub returns : goal.returns
returns c =
    let none : length (into_iter_items c.loop-bytes.bytes-iterator) ≡ 0 = omega (arith, c.loop-bytes.bytes-iterator.rest.ok, c.in-None.ensures.steps) in
    sym (c.loop-bytes.invariant.rest ∙ nothing_put _ _ _ none)
