use Rattle.std.proofs.Common.{◌-◌, ◌^◌, take}
use Rattle.std.specs.List.{All}
use Rattle.sia_kept.proofs.typed.ListTyped.know.Given as goal

abbrev pub invariant-loop-item : goal.invariant-loop-item
invariant-loop-item g l = All (g.T.Item.codec.fits (2 ^ 64 - 1)) (take l.item-index l.items)
