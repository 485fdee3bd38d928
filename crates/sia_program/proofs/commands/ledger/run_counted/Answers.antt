use Rattle.std.proofs.Common.{◌+◌, ◌≡◌, sym, ◌∙◌, length, arith}
use Rattle.sia_program.proofs.Feeds.{run_end, run_more, run_over, run_stopped}
use Rattle.sia_program.proofs.commands.ledger.run_counted.Goals as goal

pub returns-then-is_at_end : goal.returns-then-is_at_end
returns-then-is_at_end g c =
    sym c.loop-i.invariant ∙ run_end g.C.SigCheck.verdict (length c.args.feed.now + 1) c.loop-i.i c.loop-i.cursor c.loop-i.ledger c.loop-i-test.true (sym c.is_at_end.ensures ∙ c.if-is_at_end.true)

pub returns-in-Err : goal.returns-in-Err
returns-in-Err g c =
    run_stopped g.C.SigCheck.verdict (length c.args.feed.now + 1) c.loop-i.i c.loop-i.cursor c.do_record.new.cursor c.loop-i.ledger c.do_record.new.ledger c.do_record.new.ledger c.in-Err.fault _ c.loop-i-test.true
    (sym c.is_at_end.ensures ∙ c.if-is_at_end.false) c.loop-i.invariant c.in-Err.ensures

pub loop-i-preserved : goal.loop-i-preserved
loop-i-preserved g c =
    run_more g.C.SigCheck.verdict (length c.args.feed.now + 1) c.loop-i.i c.loop-i.cursor c.do_record.new.cursor c.loop-i.ledger c.do_record.new.ledger c.loop-i-test.true
    (sym c.is_at_end.ensures ∙ c.if-is_at_end.false) c.in-Ok.ensures ∙ c.loop-i.invariant

pub returns : goal.returns
returns g c =
    let all : length c.args.feed.now + 1 ≡ c.loop-i.i = omega arith in
    rw c.at.ensures (sym c.loop-i.invariant ∙ run_over g.C.SigCheck.verdict (length c.args.feed.now + 1) c.loop-i.i c.loop-i.cursor c.loop-i.ledger all)
