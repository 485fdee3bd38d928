use Rattle.std.proofs.Common.{[], refl}
use Rattle.std.proofs.lemmas.Result.{err_from_is_err_and}
use Rattle.sia_commands.specs.declared.want.Want.TheVariants as want
use Rattle.sia_session.specs.Talk.{fetch}
use Rattle.sia_session.proofs.Following.{Leads, none_more, alone_both, alone_none}
use Rattle.sia_session.proofs.SectorsGot.{fetch_stopped, fetch_cut, fetch_done, fetch_more, fetch_over}
use Rattle.sia_session.proofs.fetching.fetch_all.Goals as goal

pub loop-want-init : goal.loop-want-init
loop-want-init g c = record {
  alone = alone_none g.K.Desk.stays g.K.Desk.stops g.K.Desk.sector c.args.desk.now g.met.K.Desk.stays_itself;
  acts = rw c.new-sectors.ensures (none_more (g.K.Desk.acts c.args.desk.now) (g.K.Desk.acts c.args.desk.now) (Leads (fetch c.args.session c.args.wants.now []) (fetch c.args.session c.args.wants.now [])) refl (tt, refl));
}

pub returns-in-Err-clause-acts : goal.returns-in-Err-clause-acts
returns-in-Err-clause-acts g c =
    fetch_stopped (g.K.Desk.acts c.args.desk.now) (g.K.Desk.acts c.loop-want.desk) (g.K.Desk.acts c.act.new.self) c.args.session c.loop-want.want-index c.args.wants.now (want.Root []) c.loop-want.sectors
    c.loop-want.invariant.acts c.in-Err.stop c.in-Err.stop c.loop-want-test.true c.in-Err.ensures.acts

pub returns-in-Err-clause-alone : goal.returns-in-Err-clause-alone
returns-in-Err-clause-alone g c = alone_both g.K.Desk.stays g.K.Desk.stops g.K.Desk.sector c.args.desk.now c.loop-want.desk c.act.new.self g.met.K.Desk.stays_on c.loop-want.invariant.alone c.act.ensures.alone

pub returns-in_err-push-in-Sector-clause-acts : goal.returns-in_err-push-in-Sector-clause-acts
returns-in_err-push-in-Sector-clause-acts g c =
    let p = err_from_is_err_and c.from_residual.result c.from_residual.ensures.1 in
    rw p.1 (fetch_cut (g.K.Desk.acts c.args.desk.now) (g.K.Desk.acts c.loop-want.desk) (g.K.Desk.acts c.act.new.self) c.args.session c.loop-want.want-index c.args.wants.now (want.Root []) c.loop-want.sectors
    c.loop-want.invariant.acts c.in-Ok.reply p.0 c.loop-want-test.true c.in-Ok.ensures.acts)

pub returns-in_err-push-in-Sector-clause-alone : goal.returns-in_err-push-in-Sector-clause-alone
returns-in_err-push-in-Sector-clause-alone g c = alone_both g.K.Desk.stays g.K.Desk.stops g.K.Desk.sector c.args.desk.now c.loop-want.desk c.act.new.self g.met.K.Desk.stays_on c.loop-want.invariant.alone c.act.ensures.alone

pub returns-in_default-clause-acts : goal.returns-in_default-clause-acts
returns-in_default-clause-acts g c =
    fetch_done (g.K.Desk.acts c.args.desk.now) (g.K.Desk.acts c.loop-want.desk) (g.K.Desk.acts c.act.new.self) c.args.session c.loop-want.want-index c.args.wants.now (want.Root []) c.loop-want.sectors
    c.loop-want.invariant.acts c.in-Ok.reply c.loop-want-test.true c.in_default.not-Sector c.in-Ok.ensures.acts

pub returns-in_default-clause-alone : goal.returns-in_default-clause-alone
returns-in_default-clause-alone g c = alone_both g.K.Desk.stays g.K.Desk.stops g.K.Desk.sector c.args.desk.now c.loop-want.desk c.act.new.self g.met.K.Desk.stays_on c.loop-want.invariant.alone c.act.ensures.alone

pub loop-want-preserved : goal.loop-want-preserved
loop-want-preserved g c =
    let e = c.in-Sector.is in
    record {
      alone = alone_both g.K.Desk.stays g.K.Desk.stops g.K.Desk.sector c.args.desk.now c.loop-want.desk c.act.new.self g.met.K.Desk.stays_on c.loop-want.invariant.alone c.act.ensures.alone;
      acts = rw c.in_ok-push-in-Sector.ensures.ok (fetch_more (g.K.Desk.acts c.args.desk.now) (g.K.Desk.acts c.loop-want.desk) (g.K.Desk.acts c.act.new.self) c.args.session c.loop-want.want-index c.args.wants.now (want.Root []) c.loop-want.sectors
          c.loop-want.invariant.acts c.in-Sector.bytes c.loop-want-test.true (rw e at c.in-Ok.ensures.acts));
    }

pub returns-clause-acts : goal.returns-clause-acts
returns-clause-acts g c =
    fetch_over (g.K.Desk.acts c.args.desk.now) (g.K.Desk.acts c.loop-want.desk) (g.K.Desk.acts c.loop-want.desk) c.args.session c.loop-want.want-index c.args.wants.now (want.Root []) c.loop-want.sectors
    c.loop-want.invariant.acts c.loop-want-test.false
