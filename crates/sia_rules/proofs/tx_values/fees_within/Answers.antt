use Rattle.std.proofs.Common.{◌≡◌, ◌≤◌, refl, arith}
use Rattle.sia_rules.specs.Sums.{coins_out, fees_of}
use Rattle.sia_rules.proofs.Fitting.{part_fits}
use Rattle.sia_rules.proofs.tx_values.fees_within.Goals as goal

pub returns : goal.returns
unfolding coins_out
returns c =
    let low : fees_of c.args.tx.now ≤ coins_out c.args.tx.now = omega arith in
    rw (c.unwrap_or.ensures, c.sum_of.ensures, c.as_slice.ensures, ← part_fits (fees_of c.args.tx.now) (coins_out c.args.tx.now) low c.requires) refl
