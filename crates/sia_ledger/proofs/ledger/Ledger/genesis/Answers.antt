use Rattle.sia_encoding.proofs.Answering.{unless_ok}
use Rattle.sia_ledger.proofs.Beginning.{genesis_none, none_there}
use Rattle.sia_ledger.proofs.Grown.{kept_none}
use Rattle.sia_ledger.proofs.ledger.Ledger.genesis.Goals as goal

pub invariant_of-result : goal.invariant_of-result
invariant_of-result c =
    let sound = genesis_none c.args.params (unless_ok _ c.in_ok-check_params.ensures) in
    let new = none_there c.in_ok-begun.begun.twice c.if-is_some.ensures in
    rw (c.new.ensures, c.new-2.ensures, c.in_ok-ids.ensures, c.in_ok-append.ensures.ok, c.new-catalog.ensures)
    (kept_none c.args.params.maturity c.args.params.funds _ _ (rw new at rw c.as_slice-2.ensures at c.in_ok-begun.ensures) sound.0 sound.1 c.know.ensures)
