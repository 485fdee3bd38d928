-- The first pass has the parts of all workers, and they have nothing left to split off.
use Rattle.std.proofs.Common.{◌∙◌, length, ap, arith}
use Rattle.std.proofs.lemmas.List.{length-replicate}
use Rattle.sia_turn.specs.Tokens.{Token}
use Rattle.sia_turn.proofs.Gathering.{workers_sum}
use Rattle.sia_bench.proofs.turns.turn_nanos.Goals as goal

pub close-count-requires-clause-all : goal.close-count-requires-clause-all
close-count-requires-clause-all g c =
    let gathers = c.gather.ensures in
    let first = c.in-Ok.ensures in
    let lent = c.in_ok-passes.ensures.pass in
    let sums = workers_sum _ c.count_all.new.passes.items c.count_all.ensures.workers in
    let parts = ap (λ (t : Token _). t.parts) lent in
    let rest = ap (λ (t : Token _). t.rest) lent in
    let many = ap length c.in_ok-passes.ensures.new ∙ length-replicate c.args.crew.threads _ in
    omega (arith, gathers.parts, gathers.rest, sums.0, sums.1, parts, rest, first.turn.1, first.pass.1, first.pass.2, c.count_all.ensures.len, many, c.count_all.new.passes.ok.0, c.in_ok-passes.passes.ok.0)
