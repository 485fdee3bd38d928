use Rattle.std.proofs.Common.{◌∙◌, ◌-◌, ap, sym, arith}
use Rattle.sia_rules.proofs.Issue.{issued-fits}
use Rattle.sia_ledger.proofs.Issues.{issued_is}
use Rattle.sia_ledger.proofs.holdings.issued_at.Goals as goal

pub overflow_mul-result-2 : goal.overflow_mul-result-2
overflow_mul-result-2 c =
    let first = c.from-early.ensures ∙ c.min.ensures in
    let whole = issued_is c.args.height c.from-early.result (c.from.result - c.from-early.result) first (ap (λ k. k - c.from-early.result) c.from.ensures) in
    omega (arith, whole, issued-fits c.args.height c.requires)

pub overflow_add-result : goal.overflow_add-result
overflow_add-result c =
    let first = c.from-early.ensures ∙ c.min.ensures in
    let whole = issued_is c.args.height c.from-early.result (c.from.result - c.from-early.result) first (ap (λ k. k - c.from-early.result) c.from.ensures) in
    omega (arith, whole, issued-fits c.args.height c.requires)

pub returns : goal.returns
returns c =
    let first = c.from-early.ensures ∙ c.min.ensures in
    sym (issued_is c.args.height c.from-early.result (c.from.result - c.from-early.result) first (ap (λ k. k - c.from-early.result) c.from.ensures))
