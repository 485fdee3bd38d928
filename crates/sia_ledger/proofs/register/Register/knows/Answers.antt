use Rattle.std.proofs.Common.{ap, ◌∙◌}
use Rattle.std.specs.Prelude.{is_some}
use Rattle.sia_ledger.proofs.Registering.{placed}
use Rattle.sia_ledger.proofs.register.Register.knows.Goals as goal

pub returns : goal.returns
returns c = rw (← c.self.view_is) (c.contains_key.ensures ∙ ap is_some (c.self.invariant.finds c.args.id.now) ∙ placed 0 c.self.inside.facts.items c.args.id.now)
