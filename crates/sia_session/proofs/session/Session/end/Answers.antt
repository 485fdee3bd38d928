use Rattle.std.proofs.Common.{◌≡◌, ℕ, ap, subst}
use Rattle.sia_session.specs.Served.{LeftWhere, Standing}
use Rattle.sia_session.specs.Told.{Grows}
use Rattle.sia_session.proofs.Serving.{left_where}
use Rattle.sia_session.proofs.session.Session.end.Goals as goal

pub returns-clause-acts : goal.returns-clause-acts
returns-clause-acts g c =
    let e : c.self.inside.number ≡ c.args.self.number = ap (λ (s : Standing). s.number) c.self.view_is in
    let P : ℕ → Type 0 = λ n. Grows (g.K.Desk.acts c.args.desk.now) (g.K.Desk.acts c.act.new.self) (LeftWhere n (g.K.Desk.acts c.args.desk.now)) in
    subst P e (left_where (g.K.Desk.sector c.args.desk.now) c.self.inside.number (g.K.Desk.acts c.args.desk.now) (g.K.Desk.acts c.act.new.self) c.act.result c.act.ensures.acts c.act.ensures.live c.act.ensures.kind)
