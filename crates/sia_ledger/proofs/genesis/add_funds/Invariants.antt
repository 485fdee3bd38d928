use Rattle.std.proofs.Common.{◌≡◌, drop}
use Rattle.sia_types.specs.declared.funds.FundOutput.{FundOutput}
use Rattle.sia_ids.specs.Identifiers.{genesis_fund_id, new_fund}
use Rattle.sia_ledger.specs.declared.fact.Deed.TheVariants as deed
use Rattle.sia_ledger.specs.Facts.{fact}
use Rattle.sia_ledger.specs.Known.{state_in}
use Rattle.sia_ledger.specs.State.{add_all, numbered}
use Rattle.sia_ledger.proofs.genesis.add_funds.Given as goal

abbrev pub invariant-loop-index : goal.invariant-loop-index
invariant-loop-index l = record {
  rest : add_all (state_in l.fn.draft) (numbered (λ i (fund : FundOutput). fact (genesis_fund_id l.id i) (deed.Fund (new_fund fund))) 0 l.funds) ≡ add_all (state_in l.draft) (numbered (λ i (fund : FundOutput). fact (genesis_fund_id l.id i) (deed.Fund (new_fund fund))) l.index (drop l.index l.funds));
  kept : l.draft.kept ≡ l.fn.draft.kept;
  ids : l.draft.ids ≡ l.fn.draft.ids;
}
