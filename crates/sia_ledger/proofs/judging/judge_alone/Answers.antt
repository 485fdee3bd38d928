use Rattle.sia_sign.proofs.FirstFault.{second_decides}
use Rattle.sia_rules.specs.Values.{value_fault}
use Rattle.sia_ledger.specs.Refusal.{transaction_refusal}
use Rattle.sia_ledger.proofs.judging.judge_alone.Goals as goal

pub judge_transaction-requires-clause-bounded : goal.judge_transaction-requires-clause-bounded
judge_transaction-requires-clause-bounded g c = rw c.begin-draft.ensures.same c.requires.bounded

pub returns : goal.returns
returns g c =
    rw (second_decides (value_fault 0 c.args.tx.now) (transaction_refusal g.C.SigCheck.verdict c.args.base.now 0 c.args.tx.now) c.in_ok-values.ensures.judged)
    (rw c.begin-draft.ensures.same at c.judge_transaction.ensures)
