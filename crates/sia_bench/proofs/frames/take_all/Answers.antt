use Rattle.std.proofs.Common.{◌≡◌, ℕ, ◌+◌, ◌^◌, List, arith, ap, ◌∙◌, length}
use Rattle.std.specs.List.{sum_by}
use Rattle.sia_rhp.specs.Frames.{frames_of}
use Rattle.sia_bench.proofs.Framing.{told, if_told, moved, taken_more, taken_all, sum_next}
use Rattle.sia_bench.proofs.frames.take_all.Goals as goal

pub loop-body-preserved : goal.loop-body-preserved
loop-body-preserved g c =
    let was = c.loop-body.invariant in
    let moves = c.in_ok-body.ensures.moves was.1 in
    let goes = moved c.loop-body.reader c.next.new.self c.in-Some.body c.in_ok-body.field-0 c.in-Some.is moves in (
      goes.0 ∙ was.0,
      goes.1,
      omega (arith, was.2, goes.2, c.len.ensures),
      λ first is.
          let left = was.3 first is in
          let took = told _ _ left.0 left.1 (c.in_ok-body.ensures.bytes was.1) in
          let more = taken_more c.args.limit c.loop-body.reader c.next.new.self left.0 c.in-Some.body c.in_ok-body.field-0 (g.L.Link.left c.next.new.link) was.0 c.in-Some.is moves took in
          (more.0, more.1, omega (arith, left.2, ap length more.2), omega (arith, left.3, sum_next c.in-Some.body _ _ more.2, c.len.ensures)),
    )

pub returns-clause-frames : goal.returns-clause-frames
returns-clause-frames g c = if_told _ (g.L.Link.left c.args.link.now) (λ first is.
    let was = c.loop-body.invariant in
    let left = was.3 first is in
    let took = told _ _ left.0 left.1 (c.in_ok-body.ensures.bytes was.1) in
    let none = taken_all c.args.limit c.loop-body.reader left.0 c.in_ok-body.field-0 _ was.0 c.in_default.is took in
    omega (arith, left.2, ap length none))

pub returns-clause-bytes : goal.returns-clause-bytes
returns-clause-bytes g c = if_told _ (g.L.Link.left c.args.link.now) (λ first is.
    let was = c.loop-body.invariant in
    let left = was.3 first is in
    let took = told _ _ left.0 left.1 (c.in_ok-body.ensures.bytes was.1) in
    let none = taken_all c.args.limit c.loop-body.reader left.0 c.in_ok-body.field-0 _ was.0 c.in_default.is took in
    omega (arith, left.3, ap (sum_by length) none))
