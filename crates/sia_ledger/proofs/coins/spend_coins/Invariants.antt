use Rattle.std.proofs.Common.{◌≡◌, drop, map, fold}
use Rattle.sia_ledger.specs.Known.{state_in}
use Rattle.sia_types.specs.declared.coins.CoinInput.{CoinInput}
use Rattle.sia_ledger.specs.Facts.{spent}
use Rattle.sia_ledger.specs.State.{add_all}
use Rattle.sia_ledger.proofs.coins.spend_coins.Given as goal

abbrev pub invariant-loop-input : goal.invariant-loop-input
invariant-loop-input l = record {
  rest : add_all (state_in l.fn.draft) (map (λ (input : CoinInput). spent input.parent) l.tx.coin_inputs) ≡ add_all (state_in l.draft) (map (λ (input : CoinInput). spent input.parent) (drop l.input-index l.tx.coin_inputs));
  kept : l.draft.kept ≡ l.fn.draft.kept;
  ids : l.draft.ids ≡ l.fn.draft.ids;
}
