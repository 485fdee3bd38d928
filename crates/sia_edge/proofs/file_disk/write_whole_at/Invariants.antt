use Rattle.std.proofs.Common.{◌≡◌, ◌≤◌, ◌+◌, ◌-◌, length, take, option_map}
use Rattle.std.specs.Prelude.{IfSome}
use Rattle.sia_edge.specs.Disk.{overwritten}
use Rattle.sia_edge.proofs.file_disk.write_whole_at.Given as goal

abbrev pub invariant-loop-done : goal.invariant-loop-done
invariant-loop-done g l =
    (l.done ≤ length l.bytes)
    × (g.F.OpenedFile.held l.file ≡ option_map (λ held. overwritten held l.at (take l.done l.bytes)) (g.F.OpenedFile.held l.fn.file))
    × IfSome (g.F.OpenedFile.held l.file) (λ held. l.at + l.done ≤ length held)

abbrev pub decreases-loop-done : goal.decreases-loop-done
decreases-loop-done g l = length l.bytes - l.done
