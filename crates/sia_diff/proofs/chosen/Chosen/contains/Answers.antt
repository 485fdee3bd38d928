use Rattle.std.proofs.Common.{ap, ◌∙◌, count_by, nat_lt}
use Rattle.std.specs.List.{range_with_len}
use Rattle.sia_diff.specs.Chosen.{is_chosen}
use Rattle.sia_diff.proofs.Below.{contains_told}
use Rattle.sia_diff.proofs.chosen.Chosen.contains.Goals as goal

pub returns : goal.returns
returns c =
    ap (λ n. nat_lt n c.below.result) c.below-before.ensures ∙ ap (nat_lt (count_by (is_chosen c.args.self.now.old c.args.self.now.touched.now) (range_with_len 0 c.args.place))) c.below.ensures
    ∙ contains_told (is_chosen c.args.self.now.old c.args.self.now.touched.now) c.args.place
