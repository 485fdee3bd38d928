use Rattle.std.proofs.Common.{◌≡◌, drop}
use Rattle.sia_pieces.specs.Pieces.{value}
use Rattle.sia_pieces.proofs.products.Products.value.Given as goal

abbrev pub invariant-loop-i : goal.invariant-loop-i
invariant-loop-i l = l.sum ≡ value (drop l.i l.coefficients) l.self.place
