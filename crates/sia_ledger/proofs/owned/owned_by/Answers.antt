use Rattle.std.proofs.Common.{◌≡◌, ◌+◌, ◌<◌, ◌≤◌, ℕ, Option, length, sym, ◌∙◌, arith, subst}
use Rattle.sia_ledger.proofs.Places.{paying_begins, left_less, left_of, next_paying, none_paying}
use Rattle.sia_ledger.proofs.owned.owned_by.Goals as goal

pub loop-next-init : goal.loop-next-init
loop-next-init c = paying_begins c.args.address.now c.args.catalog.now c.last_paying-next.result c.new-coins.result.items c.last_paying-next.ensures c.new-coins.ensures.items

pub put_at-requires-clause-within : goal.put_at-requires-clause-within
put_at-requires-clause-within c =
    let at = c.loop-next.invariant in
    rw c.register.ensures (next_paying c.args.address.now c.args.catalog.now at.0 c.in-Some.place at.1 (sym at.2 ∙ c.in-Some.is)).within

pub put_at-requires-clause-put : goal.put_at-requires-clause-put
put_at-requires-clause-put c =
    let at = c.loop-next.invariant in
    rw c.register.ensures (at.3 ∙ (next_paying c.args.address.now c.args.catalog.now at.0 c.in-Some.place at.1 (sym at.2 ∙ c.in-Some.is)).same)

pub paying_before-next-requires : goal.paying_before-next-requires
paying_before-next-requires c =
    let at = c.loop-next.invariant in
    (next_paying c.args.address.now c.args.catalog.now at.0 c.in-Some.place at.1 (sym at.2 ∙ c.in-Some.is)).has

pub loop-next-smaller : goal.loop-next-smaller
loop-next-smaller c =
    let at = c.loop-next.invariant in
    let place = c.in-Some.place in
    let here = next_paying c.args.address.now c.args.catalog.now at.0 place at.1 (sym at.2 ∙ c.in-Some.is) in
    let within : place ≤ length c.args.catalog.now = omega (arith, here.within) in
    subst (λ (o : Option ℕ). left_of c.paying_before-next.result < left_of o) (sym c.in-Some.is)
    (left_less place c.paying_before-next.result (λ q e. (next_paying c.args.address.now c.args.catalog.now place q within (sym c.paying_before-next.ensures ∙ e)).below))

pub loop-next-preserved : goal.loop-next-preserved
loop-next-preserved c =
    let at = c.loop-next.invariant in
    let place = c.in-Some.place in
    let here = next_paying c.args.address.now c.args.catalog.now at.0 place at.1 (sym at.2 ∙ c.in-Some.is) in
    let within : place ≤ length c.args.catalog.now = omega (arith, here.within) in
    (place, within, c.paying_before-next.ensures, rw c.register.ensures at c.in_ok-put_at.ensures)

pub returns : goal.returns
returns c =
    let at = c.loop-next.invariant in
    c.from_vec.ensures ∙ at.3 ∙ none_paying c.args.address.now c.args.catalog.now at.0 at.1 (sym at.2 ∙ c.in_default.is)
