use Rattle.std.proofs.Common.{Err, refl}
use Rattle.std.proofs.lemmas.Result.{err_from_is_err_and}
use Rattle.sia_session.specs.Script.{Follows}
use Rattle.sia_session.specs.Talk.{read_with}
use Rattle.sia_session.proofs.Following.{alone_none, none_more}
use Rattle.sia_session.proofs.reading.read_sectors.Goals as goal

pub returns-in_err-read-clause-acts : goal.returns-in_err-read-clause-acts
returns-in_err-read-clause-acts g c =
    let p = err_from_is_err_and c.from_residual.result c.from_residual.ensures.1 in
    rw p.1 (none_more (g.K.Desk.acts c.args.desk.now) (g.K.Desk.acts c.args.desk.now) (Follows (read_with c.args.state c.args.session c.args.request c.args.sectors) (Err p.0)) refl tt)

pub returns-in_err-read-clause-alone : goal.returns-in_err-read-clause-alone
returns-in_err-read-clause-alone g c = alone_none g.K.Desk.stays g.K.Desk.stops g.K.Desk.sector c.args.desk.now g.met.K.Desk.stays_itself

pub returns-clause-acts : goal.returns-clause-acts
returns-clause-acts g c = rw c.in_ok-read.ensures at c.ask.ensures.acts
