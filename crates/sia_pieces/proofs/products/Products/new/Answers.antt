use Rattle.std.proofs.Common.{◌<◌, ◌≢◌, length, arith, get_or-set_other, get_or-set_same, below_more, length-set}
use Rattle.sia_pieces.proofs.products.Products.new.Goals as goal

pub loop-a-preserved : goal.loop-a-preserved
loop-a-preserved c = record {
  long = simp length-set c.loop-a.invariant.long;
  below =
      below_more _ _
      (λ a h. let other : a ≢ c.loop-a.a = omega arith in rw get_or-set_other (c.loop-a.invariant.below a h))
      (let within : c.loop-a.a < length c.loop-a.table = omega arith in rw get_or-set_same c.gf_mul.ensures);
}
