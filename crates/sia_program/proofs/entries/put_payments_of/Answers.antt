use Rattle.std.specs.Prelude.{string_bytes}
use Rattle.sia_program.specs.Fields.{payment_line}
use Rattle.sia_program.proofs.EntryLines.{entries_over}
use Rattle.sia_program.proofs.entries.put_payments_of.Goals as goal

pub returns : goal.returns
returns c = entries_over (λ index. payment_line c.args.name.now) (string_bytes c.loop-output.out) _ c.args.outputs.now c.loop-output.output-index c.loop-output-test.false c.loop-output.invariant
