use Rattle.std.proofs.Common.{◌≡◌, ℕ, ◌<◌, get_or, length}
use Rattle.sia_pieces.specs.Field.{product}
use Rattle.sia_pieces.proofs.products.Products.new.Given as goal

abbrev pub invariant-loop-a : goal.invariant-loop-a
invariant-loop-a l = record {
  long : length l.table ≡ 256;
  below : (a : ℕ) → a < l.a → get_or l.table a 0 ≡ product l.place a;
}
