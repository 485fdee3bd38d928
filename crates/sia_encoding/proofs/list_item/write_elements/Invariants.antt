use Rattle.std.proofs.Common.{◌≡◌, ◌++◌, take}
use Rattle.std.specs.List.{flat_map}
use Rattle.sia_encoding.proofs.list_item.write_elements.Given as goal

abbrev pub invariant-loop-item : goal.invariant-loop-item
invariant-loop-item g l = l.out ≡ l.fn.out ++ flat_map g.T.Item.codec.spelled (take l.item-index l.items)
