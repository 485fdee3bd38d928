use Rattle.std.proofs.Common.{◌≡◌, ◌++◌, drop}
use Rattle.std.specs.Prelude.{string_bytes}
use Rattle.sia_program.specs.Fields.{lines_from, payment_line}
use Rattle.sia_program.proofs.entries.put_payments_of.Given as goal

-- the lines that are written and those of the payments that are left make all of them
abbrev pub invariant-loop-output : goal.invariant-loop-output
invariant-loop-output l =
    string_bytes l.out ++ lines_from (λ index. payment_line l.name) l.output-index (drop l.output-index l.outputs) ≡ string_bytes l.fn.out ++ lines_from (λ index. payment_line l.name) 0 l.outputs
