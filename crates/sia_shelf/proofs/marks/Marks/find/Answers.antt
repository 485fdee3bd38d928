use Rattle.std.proofs.Common.{◌≡◌, ◌+◌, arith, rules, refl, ap, take, drop, ◌∙◌}
use Rattle.sia_shelf.specs.Shelf.{free_from}
use Rattle.sia_shelf.proofs.Finding.{length-free}
use Rattle.sia_shelf.proofs.Tallying.{skip_taken}
use Rattle.sia_shelf.proofs.marks.Marks.find.Goals as goal

pub returns-then-self-more-clause-full : goal.returns-then-self-more-clause-full
returns-then-self-more-clause-full c =
    let all = length-free 0 c.self.inside.marks.items in
    rw (← c.self.view_is) (λ same. omega (arith, all, c.self.invariant.counted, c.if-self-more.true), λ fewer. refl)

pub returns-in-Ok-clause-ok : goal.returns-in-Ok-clause-ok
returns-in-Ok-clause-ok c =
    let sum : c.self.inside.low ≡ 0 + c.self.inside.low = omega arith in
    let skipped = ap (λ k. free_from k (drop c.self.inside.low c.self.inside.marks.items)) sum
    ∙ skip_taken c.self.inside.low 0 c.self.inside.marks.items c.self.invariant.lower c.self.invariant.low_within in
    rw (← c.self.view_is) (c.in-Ok.ensures ∙ ap (take c.args.more) (search (rules, skipped)))

pub returns-in-Ok-clause-full : goal.returns-in-Ok-clause-full
returns-in-Ok-clause-full c =
    let all = length-free 0 c.self.inside.marks.items in
    rw (← c.self.view_is) (λ same. cc, λ fewer. absurd (omega (arith, all, c.self.invariant.counted, c.if-self-more.false, fewer)))

pub returns-in-Err-clause-full : goal.returns-in-Err-clause-full
returns-in-Err-clause-full c =
    let all = length-free 0 c.self.inside.marks.items in
    rw (← c.self.view_is) (λ same. cc, λ fewer. absurd (omega (arith, all, c.self.invariant.counted, c.if-self-more.false, fewer)))
