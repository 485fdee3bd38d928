use Rattle.std.proofs.Common.{◌≤◌, length, drop, arith}
use Rattle.std.proofs.lemmas.List.{length-drop}
use Rattle.sia_edge.proofs.Pieces.{put_more, put_inside}
use Rattle.sia_edge.proofs.file_disk.write_whole_at.Goals as goal

pub loop-done-preserved : goal.loop-done-preserved
loop-done-preserved g c =
    let so_far = c.loop-done.invariant in
    let put = c.in-Taken.ensures.bytes in
    let done = c.loop-done.done in
    let bytes = c.args.bytes.now in
    let fits : c.in-Taken.count ≤ length (drop done bytes) = c.in-Taken.ensures.bound.0 in (
      omega (arith, fits, length-drop done bytes, so_far.0),
      put_more _ _ _ bytes c.args.at done c.in-Taken.count so_far.1 put so_far.0 c.requires.inside,
      put_inside _ _ (drop done bytes) c.args.at done c.in-Taken.count put so_far.2 fits,
    )
