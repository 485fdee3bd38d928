use Rattle.std.proofs.Common.{◌≡◌, ◌++◌, take, drop}
use Rattle.sia_ledger.specs.Order.{put_by}
use Rattle.sia_ledger.proofs.ending.place_of.Given as goal

abbrev pub invariant-loop-at : goal.invariant-loop-at
invariant-loop-at l = put_by (λ i. i) l.id l.ids ≡ take l.at l.ids ++ put_by (λ i. i) l.id (drop l.at l.ids)
