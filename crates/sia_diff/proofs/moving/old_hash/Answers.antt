use Rattle.std.proofs.Common.{◌<◌, ◌∙◌, sym, length, arith, rules}
use Rattle.sia_diff.specs.Chosen.{is_chosen}
use Rattle.sia_diff.proofs.Moves.{rank_within}
use Rattle.sia_diff.proofs.moving.old_hash.Goals as goal

pub offset_bounds-leaves-below : goal.offset_bounds-leaves-below
offset_bounds-leaves-below c =
    let below : c.below.result < length c.args.leaves.now = omega (arith, c.below.ensures, c.requires.leaves, rank_within (is_chosen c.args.chosen.now.old c.args.chosen.now.touched.now) c.args.place c.args.count c.requires.place (sym c.contains.ensures ∙ c.if-contains.true)) in
    search rules

pub bounds-leaves-below : goal.bounds-leaves-below
bounds-leaves-below c =
    let below : c.below.result < length c.args.leaves.now = omega (arith, c.below.ensures, c.requires.leaves, rank_within (is_chosen c.args.chosen.now.old c.args.chosen.now.touched.now) c.args.place c.args.count c.requires.place (sym c.contains.ensures ∙ c.if-contains.true)) in
    search rules
