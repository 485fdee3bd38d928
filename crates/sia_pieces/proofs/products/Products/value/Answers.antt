use Rattle.std.proofs.Common.{length, refl, ◌∙◌, ap, arith, bit_xor, get_or, ◌-◌}
use Rattle.std.proofs.lemmas.List.{drop_all}
use Rattle.sia_pieces.specs.Pieces.{sum_of_terms}
use Rattle.sia_pieces.proofs.Values.{value_step}
use Rattle.sia_pieces.proofs.products.Products.value.Goals as goal

pub loop-i-init : goal.loop-i-init
unfolding sum_of_terms
loop-i-init c = rw (drop_all (length c.args.coefficients.now) c.args.coefficients.now (omega arith)) refl

pub loop-i-preserved : goal.loop-i-preserved
loop-i-preserved c =
    ap (bit_xor (get_or c.args.coefficients.now (c.loop-i.i - 1) 0)) (c.args.self.now.exact c.loop-i.sum (omega arith))
    ∙ value_step c.args.coefficients.now c.loop-i.i c.args.self.now.place c.loop-i.sum (omega (arith, c.type_inv.self)) (λ i. omega (arith, c.type_inv.coefficients i)) c.loop-i-test.true c.loop-i.auto.i c.loop-i.invariant
