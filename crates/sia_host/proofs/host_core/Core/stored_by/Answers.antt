-- The contract's size fits its type.
use Rattle.std.proofs.Common.{◌≡◌, ◌∙◌, ◌≤◌, ℕ, List, ap, arith, length}
use Rattle.sia_diff.specs.declared.steps.DiffStep.{DiffStep}
use Rattle.sia_diff.specs.DiffSteps.{after}
use Rattle.sia_kept.specs.State.{Kept, roots_of}
use Rattle.sia_host.specs.Replaying.{changed_roots}
use Rattle.sia_host.proofs.Replayed.{few_changed, product_fits}
use Rattle.sia_host.proofs.host_core.Core.stored_by.Goals as goal

pub overflow_mul-result : goal.overflow_mul-result
overflow_mul-result c =
    let many : c.in_ok-made.made.count ≡ length (changed_roots c.args.contract.now c.args.changes.now) =
    c.in_ok-made.ensures.count ∙ ap (λ (hashes : List (List ℕ)). length (after hashes c.as_slice.result.now)) (c.tree.ensures ∙ ap (λ (k : Kept). roots_of k) c.contract.view_is)
    ∙ ap (λ (steps : List DiffStep). length (after (roots_of c.args.contract.now) steps)) (c.as_slice.ensures ∙ c.in_ok-steps.ensures) in
    let few : length (changed_roots c.args.contract.now c.args.changes.now) ≤ 65536 = few_changed c.args.contract.now c.args.changes.now c.requires in
    omega (arith, product_fits c.self.inside.settings.sector c.in_ok-made.made.count c.self.invariant.0.size (omega (arith, many, few)))
