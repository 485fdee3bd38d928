use Rattle.std.proofs.Common.{◌≡◌, ◌++◌, take, drop}
use Rattle.sia_types.specs.declared.coin.Coin.{Coin}
use Rattle.sia_ledger.specs.Order.{put_by}
use Rattle.sia_ledger.proofs.owned.place_of_coin.Given as goal

abbrev pub invariant-loop-at : goal.invariant-loop-at
invariant-loop-at l = put_by (λ (c : Coin). c.id) l.coin l.coins ≡ take l.at l.coins ++ put_by (λ (c : Coin). c.id) l.coin (drop l.at l.coins)
