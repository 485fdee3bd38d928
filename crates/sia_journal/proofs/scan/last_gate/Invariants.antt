use Rattle.std.proofs.Common.{◌-◌}
use Rattle.sia_journal.proofs.Walking.{Walked}
use Rattle.sia_journal.proofs.scan.last_gate.Given as goal

abbrev pub invariant-loop-place : goal.invariant-loop-place
invariant-loop-place g l = Walked g.D.Disk.tells (g.D.Disk.standing l.fn.disk) (g.D.Disk.standing l.disk) l.place l.end

abbrev pub decreases-loop-place : goal.decreases-loop-place
decreases-loop-place g l = l.end - l.place
