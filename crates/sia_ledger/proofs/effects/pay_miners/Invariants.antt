use Rattle.std.proofs.Common.{◌≡◌, drop, map, fold}
use Rattle.sia_ledger.specs.Known.{state_in}
use Rattle.sia_types.specs.declared.coins.CoinOutput.{CoinOutput}
use Rattle.sia_ledger.specs.declared.fact.Deed.TheVariants as deed
use Rattle.sia_ledger.specs.Facts.{fact}
use Rattle.sia_ledger.specs.State.{add_all, numbered}
use Rattle.sia_ids.specs.Identifiers.{block_id, payout_id}
use Rattle.sia_ledger.proofs.effects.pay_miners.Given as goal

abbrev pub invariant-loop-index : goal.invariant-loop-index
invariant-loop-index l = record {
  rest : add_all (state_in l.fn.draft) (numbered (λ i (x : CoinOutput). fact (payout_id (block_id l.block) i) (deed.Coin x l.from)) 0 l.block.payouts) ≡ add_all (state_in l.draft) (numbered (λ i (x : CoinOutput). fact (payout_id (block_id l.block) i) (deed.Coin x l.from)) l.index (drop l.index l.block.payouts));
  kept : l.draft.kept ≡ l.fn.draft.kept;
  ids : l.draft.ids ≡ l.fn.draft.ids;
}
