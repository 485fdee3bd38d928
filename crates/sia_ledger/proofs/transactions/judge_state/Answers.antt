use Rattle.sia_encoding.proofs.Answering.{unless_ok}
use Rattle.sia_ledger.specs.Known.{state_in}
use Rattle.sia_ledger.proofs.Bounds.{coins_fit, funds_fit}
use Rattle.sia_ledger.proofs.transactions.judge_state.Goals as goal

pub judge_balance-requires-clause-coins : goal.judge_balance-requires-clause-coins
judge_balance-requires-clause-coins g c =
    coins_fit (state_in c.args.draft.now) c.args.t c.args.tx.now c.requires.bounded c.requires.once (unless_ok _ (rw c.as_slice.ensures at c.in_ok-check_coins.ensures))

pub judge_balance-requires-clause-funds : goal.judge_balance-requires-clause-funds
judge_balance-requires-clause-funds g c =
    funds_fit (state_in c.args.draft.now) c.args.t c.args.tx.now c.requires.bounded c.requires.once (unless_ok _ (rw c.as_slice-5.ensures at c.in_ok-check_funds.ensures))
