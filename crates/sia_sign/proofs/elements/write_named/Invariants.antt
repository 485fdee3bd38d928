use Rattle.std.proofs.Common.{◌≡◌, ◌++◌, take}
use Rattle.sia_sign.specs.SignedText.{spelled_each}
use Rattle.sia_sign.proofs.elements.write_named.Given as goal

abbrev pub invariant-loop-index : goal.invariant-loop-index
invariant-loop-index g l = l.out ≡ l.fn.out ++ spelled_each g.T.Item.codec l.all (take l.index-index l.indices)
