use Rattle.std.proofs.Common.{◌≡◌, ◌≤◌, ◌<◌, ◌-◌, ℕ, IsTrue, take, drop, length, slice_index}
use Rattle.sia_edge.specs.Disk.{Quiet}
use Rattle.sia_edge.proofs.read_disk.read_whole.Given as goal

abbrev pub invariant-loop-done : goal.invariant-loop-done
invariant-loop-done g l =
    (l.done ≤ length l.buffer)
    × (IsTrue g.D.Disk.tells → take l.done l.buffer ≡ take l.done (drop l.at (g.D.Disk.standing l.fn.disk).seen))
    × ((i : ℕ) → slice_index l.buffer i < 256)
    × Quiet (g.D.Disk.standing l.fn.disk) (g.D.Disk.standing l.disk)

abbrev pub decreases-loop-done : goal.decreases-loop-done
decreases-loop-done g l = length l.initial.buffer - l.done
