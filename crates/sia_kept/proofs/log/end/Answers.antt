-- What is kept is a filter, which has one session fewer where one is found.
use Rattle.std.proofs.Common.{◌≡◌, ◌<◌, ◌∙◌, sym, ap, subst, length, vec_len, IsSome, arith, rules}
use Rattle.std.proofs.lemmas.Fn.{filter_same}
use Rattle.sia_kept.specs.Sessions.{with_number, without_session}
use Rattle.sia_kept.proofs.Events.{fewer}
use Rattle.sia_kept.proofs.log.end.Goals as goal

pub returns-clause-items : goal.returns-clause-items
returns-clause-items c = filter_same _ _ _ (λ x b f k. search rules) _ _ c.retain.ensures.filtered

pub returns-clause-fewer : goal.returns-clause-fewer
returns-clause-fewer c found =
    let kept : c.retain.new.self.items ≡ without_session c.args.number c.args.sessions.now.items = filter_same _ _ _ (λ x b f k. search rules) _ _ c.retain.ensures.filtered in
    let less : length (without_session c.args.number c.args.sessions.now.items) < length c.args.sessions.now.items = fewer c.args.number c.args.sessions.now.items found in
    let size : length c.retain.new.self.items ≡ length (without_session c.args.number c.args.sessions.now.items) = ap length kept in
    omega (arith, c.retain.new.self.ok.0, c.args.sessions.now.ok.0)
