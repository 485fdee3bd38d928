use Rattle.std.proofs.Common.{◌≡◌, arith}
use Rattle.sia_ledger.proofs.Places.{ending_end}
use Rattle.sia_ledger.proofs.ending.ending_among.Goals as goal

pub loop-at-init : goal.loop-at-init
loop-at-init c = record { put = rw (c.new-ids.ensures.items, c.len-at.ensures) (ending_end c.args.height c.args.fresh.now); within = omega (arith, c.len-at.ensures) }
