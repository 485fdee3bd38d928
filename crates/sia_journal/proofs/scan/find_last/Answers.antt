use Rattle.std.proofs.Common.{arith, rules}
use Rattle.sia_edge.proofs.Runs.{quiet_on}
use Rattle.sia_journal.proofs.Exits.{if_err}
use Rattle.sia_journal.proofs.Finding.{other_header, this_header, walk_cause}
use Rattle.sia_journal.proofs.Listing.{listed_no_header, listed_past_limit}
use Rattle.sia_journal.proofs.scan.find_last.Goals as goal

pub returns-then-ne-clause-cause : goal.returns-then-ne-clause-cause
returns-then-ne-clause-cause g c = λ told.
    let file = (g.D.Disk.standing c.args.disk.now).seen in
    listed_no_header c.args.header.now c.args.limit file c.requires (other_header file c.args.header.now c.in_ok-front.front c.ne.result (c.in_ok-front.ensures.bytes told) c.ne.ensures c.if-ne.true)

pub returns-then-end-limit-clause-cause : goal.returns-then-end-limit-clause-cause
returns-then-end-limit-clause-cause g c = λ told.
    let file = (g.D.Disk.standing c.args.disk.now).seen in
    listed_past_limit c.args.header.now c.args.limit file c.requires (this_header file c.args.header.now c.in_ok-front.front c.ne.result (c.in_ok-front.ensures.bytes told) c.ne.ensures c.if-ne.false)
    (omega (arith, c.length-end.ensures, c.if-end-limit.true))

pub returns-clause-quiet : goal.returns-clause-quiet
returns-clause-quiet g c = quiet_on c.array.ensures.quiet c.last_gate.ensures.quiet

pub returns-clause-cause : goal.returns-clause-cause
returns-clause-cause g c =
    let file = (g.D.Disk.standing c.args.disk.now).seen in
    if_err c.last_gate.result
    (walk_cause g.D.Disk.tells c.args.header.now c.args.limit (λ told. search rules) (omega arith)
    (λ told. this_header file c.args.header.now c.in_ok-front.front c.ne.result (c.in_ok-front.ensures.bytes told) c.ne.ensures c.if-ne.false)
    c.requires (omega (arith, c.length-end.ensures, c.if-end-limit.false)) (g.D.Disk.standing c.last_gate.new.disk) c.array.ensures.quiet)
    c.last_gate.ensures.cause
