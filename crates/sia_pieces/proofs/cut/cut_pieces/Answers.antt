use Rattle.std.proofs.Common.{◌∙◌, ap, ◌∷◌, [], map}
use Rattle.std.specs.List.{range_with_len}
use Rattle.std.proofs.lemmas.List.{map-append}
use Rattle.sia_pieces.specs.Pieces.{values_at, groups}
use Rattle.sia_pieces.proofs.Groups.{numbers_more, pushed_on}
use Rattle.sia_pieces.proofs.cut.cut_pieces.Goals as goal

pub loop-place-preserved : goal.loop-place-preserved
loop-place-preserved c =
    pushed_on c.in_ok-push.ensures.ok c.loop-place.invariant c.in_ok-cut_piece.ensures
    (ap (map (λ place. values_at place (groups c.args.k c.args.bytes.now))) (numbers_more c.loop-place.place)
    ∙ map-append (λ place. values_at place (groups c.args.k c.args.bytes.now)) (range_with_len 0 c.loop-place.place) (c.loop-place.place ∷ []))
