use Rattle.std.proofs.Common.{ap, sym, ◌∙◌}
use Rattle.std.specs.Prelude.{option_copied}
use Rattle.sia_ledger.proofs.LastDeeds.{last-append-some, last-append-none}
use Rattle.sia_ledger.proofs.draft.Draft.last.Goals as goal

pub returns-in-Some : goal.returns-in-Some
returns-in-Some c =
    let found = sym (ap option_copied c.in-Some.is) ∙ c.last.ensures in
    rw (← c.self.view_is) (last-append-some c.self.inside.kept.now c.self.inside.fresh c.args.id.now c.in-Some.deed.now found)

pub returns-in-None : goal.returns-in-None
returns-in-None c =
    let none = sym (ap option_copied c.in-None.is) ∙ c.last.ensures in
    rw (← c.self.view_is) (c.last-in-None.ensures ∙ last-append-none c.self.inside.kept.now c.self.inside.fresh c.args.id.now none)
