use Rattle.std.proofs.Common.{◌≡◌, drop, map, fold}
use Rattle.sia_ledger.specs.Known.{state_in}
use Rattle.sia_types.specs.declared.funds.FundOutput.{FundOutput}
use Rattle.sia_ledger.specs.declared.fact.Deed.TheVariants as deed
use Rattle.sia_ledger.specs.Facts.{fact}
use Rattle.sia_ledger.specs.State.{add_all, numbered}
use Rattle.sia_ids.specs.Transactions.{fund_id}
use Rattle.sia_ledger.proofs.funds.make_funds.Given as goal

abbrev pub invariant-loop-index : goal.invariant-loop-index
invariant-loop-index l = record {
  rest : add_all (state_in l.fn.draft) (numbered (λ i (x : FundOutput). fact (fund_id l.tx i) (deed.Fund x)) 0 l.tx.fund_outputs) ≡ add_all (state_in l.draft) (numbered (λ i (x : FundOutput). fact (fund_id l.tx i) (deed.Fund x)) l.index (drop l.index l.tx.fund_outputs));
  kept : l.draft.kept ≡ l.fn.draft.kept;
  ids : l.draft.ids ≡ l.fn.draft.ids;
}
