use Rattle.std.proofs.Common.{◌≡◌, ◌≤◌, None}
use Rattle.sia_session.specs.Acts.{LeavesAlone}
use Rattle.sia_session.specs.Served.{talk_in}
use Rattle.sia_session.specs.Talk.{limit_of}
use Rattle.sia_session.proofs.Talking.{SoFar}
use Rattle.sia_session.proofs.serve.converse.Given as goal

abbrev pub invariant-loop-fault : goal.invariant-loop-fault
invariant-loop-fault g l = record {
  so_far : SoFar l.fn.session (talk_in l.session l.reader.room) (g.L.Link.left l.fn.link) (g.L.Link.left l.link) (g.K.Desk.acts l.fn.desk) (g.K.Desk.acts l.desk) (g.L.Link.taken l.fn.link) (g.L.Link.taken l.link);
  number : l.session.number ≡ l.fn.session.number;
  sector : l.session.sector ≡ l.fn.session.sector;
  later : g.L.Link.faults l.fn.link ≤ g.L.Link.faults l.link;
  alone : LeavesAlone g.K.Desk.stays g.K.Desk.stops g.K.Desk.sector l.fn.desk l.desk;
  fault : l.reader.fault ≡ None;
  limit : l.reader.limit ≡ limit_of l.session.sector;
}

abbrev pub decreases-loop-fault : goal.decreases-loop-fault
decreases-loop-fault g l = l.reader.room
