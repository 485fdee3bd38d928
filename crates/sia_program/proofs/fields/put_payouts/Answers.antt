use Rattle.std.specs.Prelude.{string_bytes}
use Rattle.sia_program.specs.Fields.{payout_line}
use Rattle.sia_program.proofs.EntryLines.{entries_over}
use Rattle.sia_program.proofs.fields.put_payouts.Goals as goal

pub returns : goal.returns
returns c = entries_over (payout_line c.args.block.now) (string_bytes c.loop-index.out) _ c.args.payouts.now c.loop-index.index c.loop-index-test.false c.loop-index.invariant
