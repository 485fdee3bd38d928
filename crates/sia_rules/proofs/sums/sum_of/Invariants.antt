use Rattle.std.proofs.Common.{◌≡◌, ◌<◌, ◌^◌, take}
use Rattle.std.specs.List.{sum_by}
use Rattle.sia_rules.proofs.sums.sum_of.Given as goal

abbrev pub invariant-loop-item : goal.invariant-loop-item
invariant-loop-item g l = record { sum : l.sum ≡ sum_by g.T.Valued.worth (take l.item-index l.items); low : l.sum < 2 ^ 128 }
