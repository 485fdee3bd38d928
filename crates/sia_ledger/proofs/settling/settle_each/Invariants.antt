use Rattle.std.proofs.Common.{◌≡◌, drop, map, fold}
use Rattle.sia_ledger.specs.Known.{state_in}
use Rattle.sia_ledger.specs.Effects.{settled}
use Rattle.std.specs.Prelude.{false}
use Rattle.sia_ledger.proofs.settling.settle_each.Given as goal

abbrev pub invariant-loop-contract : goal.invariant-loop-contract
invariant-loop-contract l = record {
  rest : fold (settled l.from false) (state_in l.fn.draft) l.contracts ≡ fold (settled l.from false) (state_in l.draft) (drop l.contract-index l.contracts);
  kept : l.draft.kept ≡ l.fn.draft.kept;
  ids : l.draft.ids ≡ l.fn.draft.ids;
}
