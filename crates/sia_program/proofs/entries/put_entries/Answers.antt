use Rattle.std.specs.Prelude.{string_bytes}
use Rattle.sia_program.proofs.EntryLines.{entries_over}
use Rattle.sia_program.proofs.entries.put_entries.Goals as goal

pub returns : goal.returns
returns g c = entries_over (g.T.Entry.lines c.args.tx.now) (string_bytes c.loop-index.out) _ c.args.entries.now c.loop-index.index c.loop-index-test.false c.loop-index.invariant
