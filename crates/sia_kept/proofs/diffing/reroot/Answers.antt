-- As many roots as the steps leave.
use Rattle.std.proofs.Common.{◌≡◌, ◌∙◌, refl, ap, sym, length}
use Rattle.sia_diff.specs.DiffSteps.{count_after}
use Rattle.sia_diff.proofs.Fit.{fit_done}
use Rattle.sia_diff.proofs.Moves.{length_after}
use Rattle.sia_kept.proofs.diffing.reroot.Goals as goal

pub returns-clause-count : goal.returns-clause-count
returns-clause-count c =
    c.count_after-count.ensures ∙ ap (λ n. count_after n c.args.steps.now) c.count.ensures
    ∙ sym (length_after c.args.tree.now.hashes c.args.steps.now (length c.args.tree.now.hashes) refl (fit_done _ _ c.requires))
