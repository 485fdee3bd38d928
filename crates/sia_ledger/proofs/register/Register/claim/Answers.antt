use Rattle.std.proofs.Common.{◌∙◌, ap, sym, arith, length, [], get_or}
use Rattle.sia_ledger.specs.declared.fact.Fact.{Fact}
use Rattle.sia_ledger.specs.declared.register.Link.{Link}
use Rattle.std.proofs.Common.{List}
use Rattle.sia_ledger.proofs.Claimed.{claim_is, claims_none, length-links, shares_beside}
use Rattle.sia_ledger.proofs.Registering.{is_last}
use Rattle.sia_ledger.proofs.RunningSums.{shares_is}
use Rattle.sia_ledger.proofs.register.Register.claim.Goals as goal

pub both_at-requires : goal.both_at-requires
both_at-requires c =
    let facts = c.self.inside.facts.items in
    let found = sym (c.get.ensures.value ∙ c.self.invariant.finds c.args.id.now) ∙ sym c.copied.ensures ∙ c.in-Some.is in
    rw (c.as_slice.ensures.value, c.as_slice-in-Some.ensures.value) (record {
      within = omega (arith, (is_last 0 facts c.args.id.now c.in-Some.place found).within);
      beside = ap length c.self.invariant.linked ∙ length-links [] facts;
    })

pub returns-in-None : goal.returns-in-None
returns-in-None c = λ behind later new fits.
    let found = sym (c.get.ensures.value ∙ c.self.invariant.finds c.args.id.now) ∙ sym c.copied.ensures ∙ c.in-None.is in
    rw (← c.self.view_is) (claims_none c.self.inside.facts.items behind c.args.id.now found new)

pub returns-in-Some : goal.returns-in-Some
returns-in-Some c = λ behind later new fits.
    let facts = c.self.inside.facts.items in
    let id = c.args.id.now in
    let place = c.in-Some.place in
    let x = c.both_at.result.0.now in
    let found = sym (c.get.ensures.value ∙ c.self.invariant.finds id) ∙ sym c.copied.ensures ∙ c.in-Some.is in
    let here = c.both_at.ensures.fact ∙ ap (λ (all : List Fact). get_or all place x) c.as_slice.ensures.value in
    let beside = c.both_at.ensures.link ∙ ap (λ (all : List Link). get_or all place c.both_at.result.1.now) c.as_slice-in-Some.ensures.value in
    let before = shares_beside c.self.inside.links.items facts place c.both_at.result.1.now x c.self.invariant.linked beside (omega (arith, (is_last 0 facts id place found).within)) in
    rw (← c.self.view_is, c.funds.ensures)
    (claim_is facts behind id place c.self.inside.sums.shares c.both_at.result.1.now.shares c.args.later x found here new (shares_is c.self.inside.sums facts c.self.invariant.summed) before later (rw (← c.self.view_is) at fits))
