use Rattle.std.specs.Prelude.{string_bytes}
use Rattle.sia_program.specs.Fields.{transaction_lines}
use Rattle.sia_program.proofs.EntryLines.{entries_over}
use Rattle.sia_program.proofs.fields.put_transactions.Goals as goal

pub returns : goal.returns
returns c = entries_over (λ index. transaction_lines) (string_bytes c.loop-tx.out) _ c.args.transactions.now c.loop-tx.tx-index c.loop-tx-test.false c.loop-tx.invariant
