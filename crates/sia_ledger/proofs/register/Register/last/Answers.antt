use Rattle.std.proofs.Common.{◌∙◌, ap, sym}
use Rattle.sia_ledger.specs.Facts.{last_deed}
use Rattle.sia_ledger.specs.Registered.{last_place}
use Rattle.sia_ledger.proofs.register.Register.last.Goals as goal

pub returns : goal.returns
returns c =
    let facts = c.as_slice.ensures.value in
    rw (← c.self.view_is)
    (c.deed_at.ensures c.args.id.now (c.copied.ensures ∙ c.get.ensures.value ∙ c.self.invariant.finds c.args.id.now ∙ ap (λ all. last_place all c.args.id.now) (sym facts))
    ∙ ap (λ all. last_deed all c.args.id.now) facts)
