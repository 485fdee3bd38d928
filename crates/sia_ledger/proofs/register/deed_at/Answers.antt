use Rattle.std.proofs.Common.{sym, ◌∙◌}
use Rattle.sia_ledger.proofs.Registering.{last_there, no_place, not_past}
use Rattle.sia_ledger.proofs.register.deed_at.Goals as goal

pub returns-in_err-place : goal.returns-in_err-place
returns-in_err-place c = λ id is. rw c.from_residual.ensures (sym (no_place 0 c.args.facts.now id (sym is ∙ c.in_err-place.was)))

pub returns-in_err-fact : goal.returns-in_err-fact
returns-in_err-fact c = λ id is. absurd (not_past c.args.facts.now id c.in_ok-place.place (sym is ∙ c.in_ok-place.was) c.in_err-fact.ensures.lookup.0)

pub returns : goal.returns
returns c = λ id is. last_there c.args.facts.now id c.in_ok-place.place c.in_ok-fact.fact.now (sym is ∙ c.in_ok-place.was) c.in_ok-fact.ensures.lookup.1
