use Rattle.std.proofs.Common.{◌≡◌, ◌++◌, drop}
use Rattle.std.specs.Prelude.{string_bytes}
use Rattle.sia_program.specs.Fields.{lines_from, payout_line}
use Rattle.sia_program.proofs.fields.put_payouts.Given as goal

-- the lines that are written and those of the payouts that are left make all of them
abbrev pub invariant-loop-index : goal.invariant-loop-index
invariant-loop-index l =
    string_bytes l.out ++ lines_from (payout_line l.block) l.index (drop l.index l.payouts) ≡ string_bytes l.fn.out ++ lines_from (payout_line l.block) 0 l.payouts
