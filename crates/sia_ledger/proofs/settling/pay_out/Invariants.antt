use Rattle.std.proofs.Common.{◌≡◌, drop, map, fold}
use Rattle.sia_ledger.specs.Known.{state_in}
use Rattle.sia_ledger.specs.Effects.{settlement_facts}
use Rattle.sia_ledger.specs.State.{add_all}
use Rattle.sia_ledger.proofs.settling.pay_out.Given as goal

abbrev pub invariant-loop-index : goal.invariant-loop-index
invariant-loop-index l = record {
  rest : add_all (state_in l.fn.draft) (settlement_facts l.from l.contract l.valid 0 l.outputs) ≡ add_all (state_in l.draft) (settlement_facts l.from l.contract l.valid l.index (drop l.index l.outputs));
  kept : l.draft.kept ≡ l.fn.draft.kept;
  ids : l.draft.ids ≡ l.fn.draft.ids;
}
