use Rattle.std.proofs.Common.{◌≡◌, drop, map, fold}
use Rattle.sia_ledger.specs.Known.{state_in}
use Rattle.sia_ledger.specs.Effects.{with_revision}
use Rattle.sia_ledger.proofs.contracts.revise_contracts.Given as goal

abbrev pub invariant-loop-revision : goal.invariant-loop-revision
invariant-loop-revision l = record {
  rest : fold with_revision (state_in l.fn.draft) l.tx.revisions ≡ fold with_revision (state_in l.draft) (drop l.revision-index l.tx.revisions);
  kept : l.draft.kept ≡ l.fn.draft.kept;
  ids : l.draft.ids ≡ l.fn.draft.ids;
}
