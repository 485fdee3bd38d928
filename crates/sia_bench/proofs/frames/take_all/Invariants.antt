-- The frames so far were taken off the link, and the others are left.
use Rattle.std.proofs.Common.{◌≡◌, ℕ, ◌+◌, ◌*◌, ◌^◌, List, Some, None, length}
use Rattle.std.specs.List.{sum_by}
use Rattle.sia_rhp.specs.Frames.{frames_of}
use Rattle.sia_bench.proofs.frames.take_all.Given as goal

abbrev pub invariant-loop-body : goal.invariant-loop-body
invariant-loop-body g l =
    (l.reader.limit ≡ l.limit) × (l.reader.fault ≡ None) × (l.bytes + 8 * l.frames + l.reader.room ≡ 2 ^ 40)
    × ((first : List ℕ) → g.L.Link.left l.fn.link ≡ Some first
    → (rest : List ℕ) × (g.L.Link.left l.link ≡ Some rest)
    × (length (frames_of l.limit (2 ^ 40) first).bodies ≡ l.frames + length (frames_of l.limit l.reader.room rest).bodies)
    × (sum_by length (frames_of l.limit (2 ^ 40) first).bodies ≡ l.bytes + sum_by length (frames_of l.limit l.reader.room rest).bodies))

abbrev pub decreases-loop-body : goal.decreases-loop-body
decreases-loop-body g l = l.reader.room
