use Rattle.std.proofs.Common.{◌≡◌, drop, map, fold}
use Rattle.sia_ledger.specs.Known.{state_in}
use Rattle.sia_types.specs.declared.coins.CoinOutput.{CoinOutput}
use Rattle.sia_ledger.specs.declared.fact.Deed.TheVariants as deed
use Rattle.sia_ledger.specs.Facts.{fact}
use Rattle.sia_ledger.specs.State.{add_all, numbered}
use Rattle.sia_ids.specs.Transactions.{coin_id}
use Rattle.sia_ledger.proofs.coins.make_coins.Given as goal

abbrev pub invariant-loop-index : goal.invariant-loop-index
invariant-loop-index l = record {
  rest : add_all (state_in l.fn.draft) (numbered (λ i (x : CoinOutput). fact (coin_id l.tx i) (deed.Coin x l.from)) 0 l.tx.coin_outputs) ≡ add_all (state_in l.draft) (numbered (λ i (x : CoinOutput). fact (coin_id l.tx i) (deed.Coin x l.from)) l.index (drop l.index l.tx.coin_outputs));
  kept : l.draft.kept ≡ l.fn.draft.kept;
  ids : l.draft.ids ≡ l.fn.draft.ids;
}
