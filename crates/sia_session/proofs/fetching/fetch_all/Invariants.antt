use Rattle.std.proofs.Common.{[], drop}
use Rattle.sia_session.specs.Acts.{LeavesAlone}
use Rattle.sia_session.specs.Talk.{fetch}
use Rattle.sia_session.specs.Told.{Grows}
use Rattle.sia_session.proofs.Following.{Leads}
use Rattle.sia_session.proofs.fetching.fetch_all.Given as goal

abbrev pub invariant-loop-want : goal.invariant-loop-want
invariant-loop-want g l = record {
  alone : LeavesAlone g.K.Desk.stays g.K.Desk.stops g.K.Desk.sector l.fn.desk l.desk;
  acts : Grows (g.K.Desk.acts l.fn.desk) (g.K.Desk.acts l.desk) (Leads (fetch l.session l.wants []) (fetch l.session (drop l.want-index l.wants) l.sectors));
}
