use Rattle.std.proofs.Common.{[], Err, refl}
use Rattle.std.proofs.lemmas.Result.{err_from_is_err_and}
use Rattle.sia_session.specs.Script.{Follows}
use Rattle.sia_session.specs.Talk.{fetch, read_with, reads, sectors_read, with_fetched}
use Rattle.sia_session.proofs.Following.{alone_both, alone_none, both, caused_second, first_stopped, none_more}
use Rattle.sia_session.proofs.reading.read.Goals as goal

pub returns-in_err-wants-clause-acts : goal.returns-in_err-wants-clause-acts
returns-in_err-wants-clause-acts g c =
    let p = err_from_is_err_and c.from_residual.result c.from_residual.ensures.1 in
    rw p.1 (none_more (g.K.Desk.acts c.args.desk.now) (g.K.Desk.acts c.args.desk.now) (Follows (reads c.args.state c.args.session c.args.sector c.args.request) (Err p.0)) refl tt)

pub returns-in_err-wants-clause-alone : goal.returns-in_err-wants-clause-alone
returns-in_err-wants-clause-alone g c = alone_none g.K.Desk.stays g.K.Desk.stops g.K.Desk.sector c.args.desk.now g.met.K.Desk.stays_itself

pub returns-in-Err-clause-acts : goal.returns-in-Err-clause-acts
returns-in-Err-clause-acts g c =
    let got = rw (c.as_slice-2.ensures.value, c.in_ok-wants.ensures, c.as_slice.ensures) at c.in-Err.ensures.acts in
    first_stopped (g.K.Desk.acts c.args.desk.now) (g.K.Desk.acts c.fetch_all.new.desk) (fetch c.args.session (sectors_read c.args.sector c.args.request.sections) []) (with_fetched c.args.state (read_with c.args.state c.args.session c.args.request)) c.in-Err.stop c.in-Err.stop got

pub returns-in-Ok-clause-acts : goal.returns-in-Ok-clause-acts
returns-in-Ok-clause-acts g c =
    let got = rw (c.as_slice-2.ensures.value, c.in_ok-wants.ensures, c.as_slice.ensures) at c.in-Ok.ensures.acts in
    both (g.K.Desk.acts c.args.desk.now) (g.K.Desk.acts c.fetch_all.new.desk) (g.K.Desk.acts c.read_fetched.new.desk) (fetch c.args.session (sectors_read c.args.sector c.args.request.sections) []) (with_fetched c.args.state (read_with c.args.state c.args.session c.args.request)) c.in-Ok.fetched c.read_fetched.result got c.read_fetched.ensures.acts

pub returns-in-Ok-clause-alone : goal.returns-in-Ok-clause-alone
returns-in-Ok-clause-alone g c = alone_both g.K.Desk.stays g.K.Desk.stops g.K.Desk.sector c.args.desk.now c.fetch_all.new.desk c.read_fetched.new.desk g.met.K.Desk.stays_on c.fetch_all.ensures.alone c.read_fetched.ensures.alone

pub returns-in-Ok-clause-stop : goal.returns-in-Ok-clause-stop
returns-in-Ok-clause-stop g c = caused_second g.K.Desk.stops c.args.desk.now c.fetch_all.new.desk c.read_fetched.new.desk c.read_fetched.result c.fetch_all.ensures.alone.later c.read_fetched.ensures.stop
