use Rattle.std.proofs.Common.{arith}
use Rattle.sia_journal.proofs.Appending.{wrote_body, body_kept, wrote_gate, gate_kept}
use Rattle.sia_journal.proofs.Frames.{body_size}
use Rattle.sia_journal.proofs.journal.Journal.append.Goals as goal

pub returns-in_err-store-clause-images : goal.returns-in_err-store-clause-images
returns-in_err-store-clause-images g c = λ told header records holds.
    wrote_body header records c.args.framed.now c.args.self.now.limit holds.sized c.args.self.now.gate holds c.requires.ends (omega (arith, c.requires.ends, c.size.ensures.exact, c.if-need-self.false)) c.body.ensures c.store.ensures.changes

pub returns-in_err-store-2-clause-images : goal.returns-in_err-store-2-clause-images
returns-in_err-store-2-clause-images g c = λ told header records holds.
    let kept = body_kept header records c.args.framed.now c.args.self.now.limit holds.sized c.args.self.now.gate holds c.requires.ends (omega (arith, c.requires.ends, c.size.ensures.exact, c.if-need-self.false)) (g.D.Disk.standing c.store.new.disk) c.body.ensures (c.in_ok-store.ensures.kept told) c.in_ok-store.ensures.settled in
    wrote_gate header records c.args.framed.now c.args.self.now.limit holds.sized c.args.self.now.gate holds c.requires.ends (omega (arith, c.requires.ends, c.size.ensures.exact, c.if-need-self.false)) (wrote_body header records c.args.framed.now c.args.self.now.limit holds.sized c.args.self.now.gate holds c.requires.ends (omega (arith, c.requires.ends, c.size.ensures.exact, c.if-need-self.false)) c.body.ensures c.store.ensures.changes) kept.1 c.store-2.ensures.changes

pub returns-clause-images : goal.returns-clause-images
returns-clause-images g c = λ told header records holds.
    let kept = body_kept header records c.args.framed.now c.args.self.now.limit holds.sized c.args.self.now.gate holds c.requires.ends (omega (arith, c.requires.ends, c.size.ensures.exact, c.if-need-self.false)) (g.D.Disk.standing c.store.new.disk) c.body.ensures (c.in_ok-store.ensures.kept told) c.in_ok-store.ensures.settled in
    wrote_gate header records c.args.framed.now c.args.self.now.limit holds.sized c.args.self.now.gate holds c.requires.ends (omega (arith, c.requires.ends, c.size.ensures.exact, c.if-need-self.false)) (wrote_body header records c.args.framed.now c.args.self.now.limit holds.sized c.args.self.now.gate holds c.requires.ends (omega (arith, c.requires.ends, c.size.ensures.exact, c.if-need-self.false)) c.body.ensures c.store.ensures.changes) kept.1 c.store-2.ensures.changes

pub returns-clause-kept : goal.returns-clause-kept
returns-clause-kept g c = λ told header records holds.
    let kept = body_kept header records c.args.framed.now c.args.self.now.limit holds.sized c.args.self.now.gate holds c.requires.ends (omega (arith, c.requires.ends, c.size.ensures.exact, c.if-need-self.false)) (g.D.Disk.standing c.store.new.disk) c.body.ensures (c.in_ok-store.ensures.kept told) c.in_ok-store.ensures.settled in
    gate_kept header records c.args.framed.now c.args.self.now.limit holds.sized c.args.self.now.gate holds c.requires.ends (omega (arith, c.requires.ends, c.size.ensures.exact, c.if-need-self.false)) (g.D.Disk.standing c.store.new.disk) (g.D.Disk.standing c.store-2.new.disk) kept.0 (c.in_ok-store-2.ensures.kept told) c.in_ok-store-2.ensures.settled

pub returns-clause-end : goal.returns-clause-end
returns-clause-end g c =
    omega (arith, body_size c.body.result.now c.args.framed.now c.body.ensures, c.in_ok-store.ensures.end, c.in_ok-store-2.ensures.end, c.requires.ends)

pub returns-clause-ready : goal.returns-clause-ready
returns-clause-ready g c = record {
  begins = omega (arith, c.requires.begins);
  ends = omega (arith, returns-clause-end g c, c.requires.ends, c.size.ensures.exact);
  within = omega (arith, c.if-need-self.false);
  bounded = c.requires.bounded;
}
