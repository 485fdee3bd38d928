-- The changes are the write's steps, which are fit.
use Rattle.std.proofs.Common.{◌∙◌, ap, length, map}
use Rattle.sia_diff.specs.DiffSteps.{is_fit}
use Rattle.sia_records.specs.Stored.{step_of}
use Rattle.sia_records.specs.Writes.{steps_of}
use Rattle.sia_records.proofs.Slots.{steps_again}
use Rattle.sia_kept.specs.State.{Kept}
use Rattle.sia_host.proofs.write_signing.make_written.Goals as goal

pub freed_slots-requires : goal.freed_slots-requires
freed_slots-requires c =
    ap (λ all. is_fit (length c.contract.inside.sectors) (map step_of all)) (c.as_slice.ensures ∙ c.in_ok-changes.ensures)
    ∙ ap (λ steps. is_fit (length c.contract.inside.sectors) steps) (steps_again c.steps.result.now c.as_slice-free.result.now ∙ c.steps.ensures)
    ∙ ap (λ (k : Kept). is_fit (length k.sectors) (steps_of c.args.write)) c.contract.view_is ∙ c.requires.fit
