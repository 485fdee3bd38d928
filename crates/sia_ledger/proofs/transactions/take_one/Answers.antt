use Rattle.sia_encoding.proofs.Answering.{unless_ok}
use Rattle.sia_ledger.specs.Known.{state_in}
use Rattle.sia_ledger.proofs.Bounds.{bounded_after, claims_fit}
use Rattle.sia_ledger.proofs.transactions.take_one.Goals as goal

pub do_transaction-requires-clause-fits : goal.do_transaction-requires-clause-fits
do_transaction-requires-clause-fits g c =
    claims_fit g.C.SigCheck.verdict c.args.maturity (state_in c.args.draft.now) c.args.t c.args.tx.now c.requires.bounded (unless_ok _ c.in_ok-judge_transaction.ensures)

pub returns-clause-bounded : goal.returns-clause-bounded
returns-clause-bounded g c =
    rw c.in_ok-do_transaction.ensures.done
    (bounded_after g.C.SigCheck.verdict c.args.maturity (state_in c.args.draft.now) c.args.t c.args.tx.now c.requires.bounded (unless_ok _ c.in_ok-judge_transaction.ensures))
