use Rattle.std.proofs.Common.{◌≡◌, drop, map, fold}
use Rattle.sia_ledger.specs.Known.{state_in}
use Rattle.sia_types.specs.declared.file_contracts.FileContract.{FileContract}
use Rattle.sia_ledger.specs.declared.fact.Deed.TheVariants as deed
use Rattle.sia_ledger.specs.Facts.{fact}
use Rattle.sia_ledger.specs.State.{add_all, numbered}
use Rattle.sia_ids.specs.Transactions.{contract_id}
use Rattle.sia_ledger.specs.Effects.{formed}
use Rattle.sia_ledger.proofs.contracts.form_contracts.Given as goal

abbrev pub invariant-loop-index : goal.invariant-loop-index
invariant-loop-index l = record {
  rest : add_all (state_in l.fn.draft) (numbered (λ i (x : FileContract). fact (contract_id l.tx i) (deed.Formed (formed x))) 0 l.tx.contracts) ≡ add_all (state_in l.draft) (numbered (λ i (x : FileContract). fact (contract_id l.tx i) (deed.Formed (formed x))) l.index (drop l.index l.tx.contracts));
  kept : l.draft.kept ≡ l.fn.draft.kept;
  ids : l.draft.ids ≡ l.fn.draft.ids;
}
