-- So many frames were sent.
use Rattle.std.proofs.Common.{◌≡◌, replicate}
use Rattle.std.specs.Io.KnownBytes.{Appends}
use Rattle.std.specs.List.{concat}
use Rattle.sia_rhp.specs.Frames.{frame_of}
use Rattle.sia_bench.proofs.frames.send_often.Given as goal

abbrev pub invariant-loop : goal.invariant-loop
invariant-loop g l =
    (l.count ≡ l.counter)
    × Appends (g.L.Link.taken l.fn.link) (g.L.Link.taken l.link) (concat (replicate l.counter (frame_of l.body)))
