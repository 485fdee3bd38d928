use Rattle.std.proofs.Common.{◌≡◌, ◌∙◌, ap, length}
use Rattle.std.specs.List.{range_with_len, list_all}
use Rattle.std.proofs.lemmas.List.FromFn.{length-range_with_len}
use Rattle.sia_diff.specs.Chosen.{is_chosen}
use Rattle.sia_diff.specs.DiffSteps.{step_fits, counted_steps}
use Rattle.sia_diff.proofs.Moves.{length_spread}
use Rattle.sia_diff.proofs.moving.moved.Goals as goal

pub do_steps-requires : goal.do_steps-requires
do_steps-requires c =
    let len : length c.in_ok-hashes.hashes.items ≡ c.args.count = ap length c.in_ok-hashes.ensures ∙ length_spread (is_chosen c.args.chosen.now.old c.args.chosen.now.touched.now) (range_with_len 0 c.args.count) c.args.leaves.now ∙ length-range_with_len 0 c.args.count in
    ap (λ n. list_all (λ counted. step_fits counted.count counted.step) (counted_steps n c.args.steps.now)) len ∙ c.requires.fits
