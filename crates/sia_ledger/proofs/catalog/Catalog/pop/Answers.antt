use Rattle.std.proofs.Common.{◌≡◌, ◌-◌, Some, length, take, sym, subst}
use Rattle.std.specs.Prelude.{slice_get}
use Rattle.sia_ledger.specs.Cataloged.{IsCataloged}
use Rattle.sia_ledger.proofs.Cataloging.{last_split}
use Rattle.sia_ledger.proofs.catalog.Catalog.pop.Goals as goal

pub invariant_of-self : goal.invariant_of-self
invariant_of-self c =
    let facts = c.self.inside.register in
    let fact = c.in-Some.fact.now in
    let last : Some fact ≡ slice_get facts (length facts - 1) = rw c.as_slice.ensures at c.in-Some.ensures.value in
    let all = subst (IsCataloged c.self.inside.addresses c.self.inside.ends) (last_split facts fact (sym last)) c.self.invariant in
    rw c.pop.ensures (c.pop_keys.ensures (take (length facts - 1) facts) fact (sym c.address_paid-address.ensures) (sym c.end_set-end.ensures) all)
