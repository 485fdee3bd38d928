-- The contract's size fits its type.
use Rattle.std.proofs.Common.{◌≡◌, ◌∙◌, ◌≤◌, ap, arith, length}
use Rattle.std.proofs.Math.Nat.{mul-le-mul_left}
use Rattle.sia_diff.specs.DiffSteps.{after}
use Rattle.sia_kept.specs.State.{Kept, roots_of}
use Rattle.sia_host.specs.Writing.{written_roots}
use Rattle.sia_host.proofs.Written.{few_written}
use Rattle.sia_host.proofs.write_signing.written_revision.Goals as goal

pub overflow_mul-sector : goal.overflow_mul-sector
overflow_mul-sector c =
    let many : c.in_ok-made.made.count ≡ length (written_roots c.args.contract.now c.args.write.now) =
    c.in_ok-made.ensures.count ∙ ap (λ hashes. length (after hashes c.steps.result.now)) c.tree.ensures ∙ ap (λ (k : Kept). length (after (roots_of k) c.steps.result.now)) c.contract.view_is
    ∙ ap (λ steps. length (after (roots_of c.args.contract.now) steps)) c.steps.ensures in
    let few : length (written_roots c.args.contract.now c.args.write.now) ≤ 65536 = few_written c.args.write.now c.args.contract.now c.requires.fit in
    let below : c.in_ok-made.made.count ≤ 65536 = omega (arith, many, few) in
    omega (arith, mul-le-mul_left c.args.sector below, c.requires.small)
