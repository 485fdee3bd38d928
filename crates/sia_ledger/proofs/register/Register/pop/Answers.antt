use Rattle.std.proofs.Common.{◌∙◌, ap, sym, refl}
use Rattle.sia_ledger.specs.Facts.{last_deed}
use Rattle.sia_ledger.specs.Registered.{last_place}
use Rattle.sia_ledger.proofs.Registering.{earlier_is, last_found, registered_less, unlinked}
use Rattle.sia_ledger.proofs.register.Register.pop.Goals as goal

pub set_back-requires : goal.set_back-requires
set_back-requires c =
    let x = c.in-Some-Some.fact in
    last_found c.self.inside.facts.items c.pop.new.self.items x _ c.in-Some-Some.ensures.items (c.self.invariant.finds x.id)

pub invariant_of-self : goal.invariant_of-self
invariant_of-self c =
    let x = c.in-Some-Some.fact in
    let front = c.pop.new.self.items in
    let was = rw (c.in-Some-Some.ensures.items, c.in-Some-Some.ensures'.items) at c.self.invariant in
    let parts = unlinked c.pop-2.new.self.items c.in-Some-Some.link front x was.linked in
    let facts = c.as_slice.ensures.value in
    let before = c.deed_at.ensures x.id (earlier_is c.in-Some-Some.link front x parts.last ∙ ap (λ all. last_place all x.id) (sym facts)) ∙ ap (λ all. last_deed all x.id) facts in
    registered_less c.self.inside.places c.set_back.new.places c.pop-2.new.self.items c.in-Some-Some.link c.self.inside.sums c.less.new.self front x was c.set_back.ensures
    (c.less.ensures front x was.summed refl (sym before))
