use Rattle.std.proofs.Common.{◌≡◌, List, ap, ◌∙◌}
use Rattle.sia_ledger.specs.declared.fact.Fact.{Fact}
use Rattle.sia_ledger.specs.Holdings.{contract_status, status_of}
use Rattle.sia_ledger.specs.State.{State}
use Rattle.sia_ledger.proofs.Outcomes.{settled_missed, settled_valid}
use Rattle.sia_ledger.proofs.Right.{each_proof_right}
use Rattle.sia_ledger.proofs.ledger.Ledger.status.Goals as goal

pub returns-clause-valid : goal.returns-clause-valid
returns-clause-valid c =
    let same : c.status_among.result ≡ status_of c.args.self.now c.args.contract.now = c.status_among.ensures ∙ ap (λ (facts : List Fact). contract_status facts c.args.contract.now) (c.register.ensures ∙ c.catalog.ensures.facts ∙ ap (λ (s : State). s.facts) c.base.ensures.state) in
    rw same (settled_valid c.args.self.now c.base.ensures.sound c.args.contract.now)

pub returns-clause-right : goal.returns-clause-right
returns-clause-right c = each_proof_right c.args.self.now c.base.ensures.sound

pub returns-clause-missed : goal.returns-clause-missed
returns-clause-missed c =
    let same : c.status_among.result ≡ status_of c.args.self.now c.args.contract.now = c.status_among.ensures ∙ ap (λ (facts : List Fact). contract_status facts c.args.contract.now) (c.register.ensures ∙ c.catalog.ensures.facts ∙ ap (λ (s : State). s.facts) c.base.ensures.state) in
    rw same (settled_missed c.args.self.now c.base.ensures.sound c.args.contract.now)
