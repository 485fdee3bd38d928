use Rattle.std.proofs.Common.{arith, ap, ◌∙◌, ◌+◌, sym, take, drop}
use Rattle.std.proofs.lemmas.List.{drop-drop}
use Rattle.sia_edge.proofs.Filling.{filled, filled_fits}
use Rattle.sia_edge.proofs.Runs.{quiet_on}
use Rattle.sia_edge.proofs.read_disk.read_whole.Goals as goal

pub loop-done-preserved : goal.loop-done-preserved
loop-done-preserved g c =
    let so_far = c.loop-done.invariant in
    let read = c.in-Bytes.ensures in
    let count = c.in-Bytes.count in
    let done = c.loop-done.done in (
      filled_fits _ _ _ _ _ so_far.0 read.bound.1,
      λ told. filled _ _ _ _ _ _ so_far.0 read.bound.1 (so_far.1 told)
          (read.bytes told ∙ ap (λ seen. take count (drop (c.args.at + done) seen)) so_far.3.same ∙ ap (take count) (sym (drop-drop done c.args.at _))),
      λ i. omega (arith, c.type_inv.buffer i),
      quiet_on so_far.3 read.quiet,
    )
