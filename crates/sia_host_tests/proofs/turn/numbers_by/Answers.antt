-- The first pass has the parts of all workers, and they have nothing left to split off.
use Rattle.std.proofs.Common.{◌∙◌, ℕ, length, ap, arith}
use Rattle.std.proofs.lemmas.List.{length-replicate}
use Rattle.sia_turn.specs.Tokens.{Token}
use Rattle.sia_turn.proofs.Gathering.{workers_sum}
use Rattle.sia_host_tests.proofs.turn.numbers_by.Goals as goal

pub close-requires-clause-all : goal.close-requires-clause-all
close-requires-clause-all g c =
    let gathers = c.gather.ensures in
    let first = c.in-Ok.ensures in
    let lent = c.in_ok-passes.ensures.pass in
    let sums = workers_sum _ c.add_from_all.new.passes.items c.add_from_all.ensures.workers in
    let parts = ap (λ (t : Token ℕ). t.parts) lent in
    let rest = ap (λ (t : Token ℕ). t.rest) lent in
    let many = ap length c.in_ok-passes.ensures.new ∙ length-replicate c.args.workers _ in
    omega (arith, gathers.parts, gathers.rest, sums.0, sums.1, parts, rest, first.turn.1, first.pass.1, first.pass.2, c.add_from_all.ensures.len, many, c.add_from_all.new.passes.ok.0, c.in_ok-passes.passes.ok.0)
