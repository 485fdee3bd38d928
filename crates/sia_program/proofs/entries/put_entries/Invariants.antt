use Rattle.std.proofs.Common.{◌≡◌, ◌++◌, drop}
use Rattle.std.specs.Prelude.{string_bytes}
use Rattle.sia_program.specs.Fields.{lines_from}
use Rattle.sia_program.proofs.entries.put_entries.Given as goal

-- the lines that are written and those of the entries that are left make all of them
abbrev pub invariant-loop-index : goal.invariant-loop-index
invariant-loop-index g l =
    string_bytes l.out ++ lines_from (g.T.Entry.lines l.tx) l.index (drop l.index l.entries) ≡ string_bytes l.fn.out ++ lines_from (g.T.Entry.lines l.tx) 0 l.entries
