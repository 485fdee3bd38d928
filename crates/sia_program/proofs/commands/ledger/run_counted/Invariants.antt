use Rattle.std.proofs.Common.{◌≡◌, ◌-◌}
use Rattle.sia_program.specs.Commands.Ledger.{run, run_at}
use Rattle.sia_program.proofs.commands.ledger.run_counted.Given as goal

-- the records that are left make of the chain what all of them make of the first one
abbrev pub invariant-loop-i : goal.invariant-loop-i
invariant-loop-i g l = run_at g.C.SigCheck.verdict (l.i-end - l.i) l.cursor l.ledger ≡ run g.C.SigCheck.verdict l.fn.ledger l.feed
