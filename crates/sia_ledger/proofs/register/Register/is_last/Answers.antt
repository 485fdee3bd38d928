use Rattle.std.proofs.Common.{◌≡◌, ◌∙◌}
use Rattle.sia_ledger.proofs.Places.{found_last, found_some_fact}
use Rattle.sia_ledger.proofs.register.Register.is_last.Goals as goal

pub returns-in-Some : goal.returns-in-Some
returns-in-Some c = rw (← c.self.view_is) (λ fact is. found_last c.self.inside.facts.items c.args.place c.index.result.now fact c.in-Some.last.now (rw (← c.self.view_is) at c.requires) c.index.ensures is (c.in-Some.ensures.value ∙ c.self.invariant.finds c.index.result.now.id))

pub returns-in-None : goal.returns-in-None
returns-in-None c = rw (← c.self.view_is) (λ fact is. absurd (found_some_fact c.self.inside.facts.items c.args.place c.index.result.now (rw (← c.self.view_is) at c.requires) c.index.ensures (c.in-None.ensures.value ∙ c.self.invariant.finds c.index.result.now.id)))
