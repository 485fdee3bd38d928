use Rattle.std.proofs.Common.{◌∙◌, ap, sym, refl, length}
use Rattle.std.specs.Prelude.{cond, Some}
use Rattle.std.specs.Str.{bytes_eq}
use Rattle.std.specs.HashMap.{get}
use Rattle.sia_ledger.specs.Facts.{last_deed}
use Rattle.sia_ledger.specs.Registered.{last_place}
use Rattle.sia_ledger.proofs.Registering.{registered_more}
use Rattle.sia_ledger.proofs.register.Register.push.Goals as goal

pub invariant_of-self-in-Ok : goal.invariant_of-self-in-Ok
invariant_of-self-in-Ok c =
    let id = c.args.fact.id in
    let facts = c.as_slice.ensures.value ∙ c.in_ok-reserve.ensures.items in
    let before = c.deed_at.ensures id (c.in-Ok.ensures.old ∙ c.self.invariant.finds id ∙ ap (λ all. last_place all id) (sym facts)) ∙ ap (λ all. last_deed all id) facts in
    rw (c.push_reserved.ensures.items, c.push_reserved-in-Ok.ensures.items, c.in_ok-reserve.ensures.items, c.in_ok-reserve-2.ensures.items)
    (registered_more c.self.inside.places c.insert.new.self c.self.inside.links.items c.self.inside.sums c.more.new.self c.self.inside.facts.items c.args.fact c.in-Ok.earlier c.self.invariant c.in-Ok.ensures.old
    (λ q. c.in-Ok.ensures.updates.0 q ∙ ap (λ k. cond (bytes_eq id q) (Some k) (get bytes_eq c.self.inside.places q)) (c.len.ensures ∙ ap length (sym c.self.view_is)))
    (c.more.ensures c.self.inside.facts.items c.args.fact c.self.invariant.summed refl (sym before)))
