use Rattle.std.proofs.Common.{◌+◌, ◌≤◌, ℕ, Option, IfSome, refl, subst}
use Rattle.sia_edge.proofs.Runs.{quiet_on}
use Rattle.sia_journal.specs.Opening.{FrameEnds}
use Rattle.sia_journal.proofs.Walking.{sets_out, goes_further, last_found, breaks_off, ends_open}
use Rattle.sia_journal.proofs.scan.last_gate.Goals as goal

pub loop-place-init : goal.loop-place-init
loop-place-init g c = sets_out g.D.Disk.tells c.requires.long

pub loop-place-preserved : goal.loop-place-preserved
loop-place-preserved g c =
    let Ends : Option ℕ → Type 0 = λ frame. FrameEnds (g.D.Disk.standing c.array.new.disk).seen c.loop-place.place frame in
    let In : Option ℕ → Type 0 = λ frame. IfSome frame (λ next. (c.loop-place.place + 9 ≤ next) × (next ≤ c.args.end)) in
    let bounds = subst In c.in-Some.is c.in_ok-frame.ensures.within in
    goes_further g.D.Disk.tells c.loop-place.invariant c.requires.end c.loop-place-test.true c.in_ok-bytes.ensures.bytes c.if-gate-ne1.false
    c.array.ensures.quiet (λ told. subst Ends c.in-Some.is (c.in_ok-frame.ensures.frame told)) bounds.0 bounds.1
    c.frame_end.ensures.quiet

pub returns-then-gate-ne1-clause-last : goal.returns-then-gate-ne1-clause-last
returns-then-gate-ne1-clause-last g c =
    last_found g.D.Disk.tells c.loop-place.invariant c.requires.end c.loop-place-test.true c.in_ok-bytes.ensures.bytes refl c.if-gate-ne1.true

pub returns-in-None-clause-cause : goal.returns-in-None-clause-cause
returns-in-None-clause-cause g c =
    let Ends : Option ℕ → Type 0 = λ frame. FrameEnds (g.D.Disk.standing c.array.new.disk).seen c.loop-place.place frame in
    breaks_off g.D.Disk.tells c.loop-place.invariant c.requires.end c.loop-place-test.true c.in_ok-bytes.ensures.bytes c.if-gate-ne1.false
    c.array.ensures.quiet (λ told. subst Ends c.in-None.is (c.in_ok-frame.ensures.frame told))

pub returns-in-None-clause-quiet : goal.returns-in-None-clause-quiet
returns-in-None-clause-quiet g c = quiet_on (quiet_on c.loop-place.invariant.quiet c.array.ensures.quiet) c.frame_end.ensures.quiet

pub returns-clause-cause : goal.returns-clause-cause
returns-clause-cause g c = ends_open g.D.Disk.tells c.loop-place.invariant c.requires.end c.loop-place-test.false
