use Rattle.std.proofs.Common.{◌≡◌, ap, ◌∙◌}
use Rattle.std.proofs.lemmas.Result.{err_from_is_err_and}
use Rattle.sia_encoding.specs.Answer.{unless}
use Rattle.sia_encoding.proofs.Answering.{handed_on}
use Rattle.sia_rules.specs.Answers.{block_told}
use Rattle.sia_ledger.specs.Rules.{locked}
use Rattle.sia_ledger.proofs.NeedFaults.{timelocks_as_one, entry_found, entry_passed}
use Rattle.sia_ledger.proofs.unlocking.check_each_timelock.Goals as goal

pub returns-in_err-check_timelock : goal.returns-in_err-check_timelock
returns-in_err-check_timelock g c =
    let p = err_from_is_err_and c.from_residual.result c.from_residual.ensures.1 in
    rw (p.1, p.2)
    (handed_on block_told c.in_err-check_timelock.field-0.0 _ _
    (λ e is. ap unless (c.loop-i.invariant ∙ entry_found (locked c.args.height c.args.t) (timelocks_as_one c.args.height c.args.t) g.T.Locked.need c.args.all.now c.args.first c.loop-i.i c.saturating_add-index.result c.index-all-i.result e c.loop-i-test.true c.index-all-i.is c.saturating_add-index.ensures is))
    c.in_err-check_timelock.ensures)

pub loop-i-preserved : goal.loop-i-preserved
loop-i-preserved g c =
    c.loop-i.invariant ∙ entry_passed (locked c.args.height c.args.t) (timelocks_as_one c.args.height c.args.t) g.T.Locked.need c.args.all.now c.args.first c.loop-i.i c.saturating_add-index.result c.index-all-i.result c.loop-i-test.true c.index-all-i.is c.saturating_add-index.ensures c.in_ok-check_timelock.ensures
