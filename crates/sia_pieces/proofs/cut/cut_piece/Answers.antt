use Rattle.std.proofs.Common.{◌∙◌, ap}
use Rattle.sia_pieces.specs.Pieces.{first_groups, value}
use Rattle.sia_pieces.proofs.Groups.{values_more, pushed_on}
use Rattle.sia_pieces.proofs.cut.cut_piece.Goals as goal

pub loop-t-init : goal.loop-t-init
unfolding first_groups
loop-t-init c = c.in_ok-piece.ensures.items

pub loop-t-preserved : goal.loop-t-preserved
loop-t-preserved c =
    pushed_on c.in_ok-push.ensures.items c.loop-t.invariant
    (c.value.ensures ∙ ap (value c.group_of.result.now) c.new-products.ensures ∙ ap (λ part. value part c.args.place) c.group_of.ensures)
    (values_more c.loop-t.t c.args.k c.args.place c.args.bytes.now)
