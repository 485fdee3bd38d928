use Rattle.std.proofs.Common.{ℕ, List, Some, refl, ap, arith, subst, sym, ◌∙◌}
use Rattle.sia_rhp.specs.Frames.{Reader}
use Rattle.sia_session.specs.declared.serve.Ended.TheVariants as ended
use Rattle.sia_session.specs.Served.{Exchanged, ended_at, script_for}
use Rattle.sia_session.specs.Talk.{limit_of}
use Rattle.sia_session.specs.Told.{Grows}
use Rattle.sia_session.proofs.Following.{alone_both, alone_none}
use Rattle.sia_session.proofs.Talking.{at_first, closes, close_fault, close_none, goes_further, goes_no_further, in_body}
use Rattle.sia_session.proofs.serve.converse.Goals as goal

pub returns-in-Err-clause-talk : goal.returns-in-Err-clause-talk
returns-in-Err-clause-talk g c =
    rw c.ended_by.ensures (closes c.args.session.now c.loop-fault.session c.loop-fault.reader.room (ended_at c.in-Err.fault) (g.L.Link.left c.args.link.now) (g.L.Link.left c.loop-fault.link) (g.L.Link.left c.next.new.link) (g.K.Desk.acts c.args.desk.now) (g.K.Desk.acts c.loop-fault.desk) (g.L.Link.taken c.args.link.now) (g.L.Link.taken c.loop-fault.link) (g.L.Link.taken c.next.new.link) c.loop-fault.invariant.so_far
    (close_fault c.loop-fault.session c.loop-fault.reader.limit c.loop-fault.reader.room c.in-Err.fault (g.L.Link.left c.loop-fault.link) (g.L.Link.left c.next.new.link) c.loop-fault.invariant.limit (c.in-Err.ensures.bytes c.loop-fault.invariant.fault)) c.next.ensures.apart)

pub returns-in-Ok-None-clause-talk : goal.returns-in-Ok-None-clause-talk
returns-in-Ok-None-clause-talk g c =
    let one = rw c.in-Ok-None.field-0-is at c.in-Ok-None.ensures in
    closes c.args.session.now c.loop-fault.session c.loop-fault.reader.room ended.End (g.L.Link.left c.args.link.now) (g.L.Link.left c.loop-fault.link) (g.L.Link.left c.next.new.link) (g.K.Desk.acts c.args.desk.now) (g.K.Desk.acts c.loop-fault.desk) (g.L.Link.taken c.args.link.now) (g.L.Link.taken c.loop-fault.link) (g.L.Link.taken c.next.new.link) c.loop-fault.invariant.so_far
    (close_none c.loop-fault.session c.loop-fault.reader.limit c.loop-fault.reader.room (g.L.Link.left c.loop-fault.link) (g.L.Link.left c.next.new.link) c.loop-fault.invariant.limit (one.bytes c.loop-fault.invariant.fault)) one.apart

pub returns-in-Some-clause-talk : goal.returns-in-Some-clause-talk
returns-in-Some-clause-talk g c =
    let one = rw c.in-Ok-Some.field-0-is at c.in-Ok-Some.ensures in
    let moves = one.moves c.loop-fault.invariant.fault in
    let here = in_body c.args.session.now c.loop-fault.session c.loop-fault.reader.limit c.loop-fault.reader.room c.next.new.self.room c.in-Ok-Some.body (g.L.Link.left c.args.link.now) (g.L.Link.left c.loop-fault.link) (g.L.Link.left c.next.new.link) (g.K.Desk.acts c.args.desk.now) (g.K.Desk.acts c.loop-fault.desk) (g.L.Link.taken c.args.link.now) (g.L.Link.taken c.loop-fault.link) (g.L.Link.taken c.next.new.link) c.loop-fault.invariant.so_far c.loop-fault.invariant.limit (one.bytes c.loop-fault.invariant.fault) (ap (λ (r : Reader). r.room) moves.0) one.apart in
    let E : List ℕ → Type 0 = λ read. Grows (g.K.Desk.acts c.loop-fault.desk) (g.K.Desk.acts c.exchange.new.desk) (λ done. Grows (g.L.Link.taken c.next.new.link) (g.L.Link.taken c.exchange.new.link) (λ sent. Exchanged (script_for c.loop-fault.session read) c.exchange.new.session.state (Some c.in-Some.ended) done sent)) in
    goes_no_further c.args.session.now c.loop-fault.session c.exchange.new.session c.next.new.self.room c.in-Ok-Some.body (g.L.Link.left c.args.link.now) (g.L.Link.left c.next.new.link) (g.L.Link.left c.exchange.new.link) (g.K.Desk.acts c.args.desk.now) (g.K.Desk.acts c.loop-fault.desk) (g.K.Desk.acts c.exchange.new.desk) (g.L.Link.taken c.args.link.now) (g.L.Link.taken c.next.new.link) (g.L.Link.taken c.exchange.new.link) here c.in-Some.ended (subst E c.as_slice.ensures c.in-Some.ensures.acts) c.exchange.ensures.apart

pub loop-fault-init : goal.loop-fault-init
loop-fault-init g c = record {
  so_far = rw c.new-reader.ensures (at_first c.args.session.now (g.L.Link.left c.args.link.now) (g.K.Desk.acts c.args.desk.now) (g.L.Link.taken c.args.link.now));
  number = refl;
  sector = refl;
  later = omega arith;
  alone = alone_none g.K.Desk.stays g.K.Desk.stops g.K.Desk.sector c.args.desk.now g.met.K.Desk.stays_itself;
  fault = rw c.new-reader.ensures refl;
  limit = rw (c.new-reader.ensures, c.body_limit.ensures, c.sector.ensures) refl;
}

pub loop-fault-preserved : goal.loop-fault-preserved
loop-fault-preserved g c =
    let one = rw c.in-Ok-Some.field-0-is at c.in-Ok-Some.ensures in
    let moves = one.moves c.loop-fault.invariant.fault in
    let here = in_body c.args.session.now c.loop-fault.session c.loop-fault.reader.limit c.loop-fault.reader.room c.next.new.self.room c.in-Ok-Some.body (g.L.Link.left c.args.link.now) (g.L.Link.left c.loop-fault.link) (g.L.Link.left c.next.new.link) (g.K.Desk.acts c.args.desk.now) (g.K.Desk.acts c.loop-fault.desk) (g.L.Link.taken c.args.link.now) (g.L.Link.taken c.loop-fault.link) (g.L.Link.taken c.next.new.link) c.loop-fault.invariant.so_far c.loop-fault.invariant.limit (one.bytes c.loop-fault.invariant.fault) (ap (λ (r : Reader). r.room) moves.0) one.apart in
    record {
      so_far = goes_further c.args.session.now c.loop-fault.session c.exchange.new.session c.next.new.self.room c.in-Ok-Some.body (g.L.Link.left c.args.link.now) (g.L.Link.left c.next.new.link) (g.L.Link.left c.exchange.new.link) (g.K.Desk.acts c.args.desk.now) (g.K.Desk.acts c.loop-fault.desk) (g.K.Desk.acts c.exchange.new.desk) (g.L.Link.taken c.args.link.now) (g.L.Link.taken c.next.new.link) (g.L.Link.taken c.exchange.new.link) here (rw c.as_slice.ensures at c.in-None.ensures.acts) c.exchange.ensures.apart c.exchange.ensures.number c.exchange.ensures.sector;
      number = c.exchange.ensures.number ∙ c.loop-fault.invariant.number;
      sector = c.exchange.ensures.sector ∙ c.loop-fault.invariant.sector;
      later = omega (arith, c.loop-fault.invariant.later, one.later, c.exchange.ensures.later);
      alone = alone_both g.K.Desk.stays g.K.Desk.stops g.K.Desk.sector c.args.desk.now c.loop-fault.desk c.exchange.new.desk g.met.K.Desk.stays_on c.loop-fault.invariant.alone c.exchange.ensures.alone;
      fault = ap (λ (r : Reader). r.fault) moves.0;
      limit = ap (λ (r : Reader). r.limit) moves.0 ∙ c.loop-fault.invariant.limit ∙ ap limit_of (sym c.exchange.ensures.sector);
    }
