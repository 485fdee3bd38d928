-- One root more is told.
use Rattle.std.proofs.Common.{◌≡◌, ◌∙◌, ◌-◌, ap, arith, drop, take}
use Rattle.sia_host.proofs.Readable.{one_more_told}
use Rattle.sia_host.proofs.reading.roots_between.Goals as goal

pub loop-i-preserved : goal.loop-i-preserved
loop-i-preserved c = one_more_told _ _ _ c.args.first c.args.end c.loop-i.i _ c.requires.within (omega arith) c.loop-i.invariant c.get.ensures c.in_ok-push.ensures.ok

pub returns : goal.returns
returns c =
    let all : c.loop-i.i ≡ c.args.end - c.args.first = omega arith in
    c.loop-i.invariant ∙ ap (λ n. take n (drop c.args.first c.args.tree.now.hashes)) all
