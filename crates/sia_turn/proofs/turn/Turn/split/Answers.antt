-- A pass with a rest can be split.
use Rattle.std.proofs.Common.{rules, ap, arith}
use Rattle.sia_turn.proofs.Meeting.{splits}
use Rattle.sia_turn.proofs.turn.Turn.split.Goals as goal

pub split_seat-seat-requires : goal.split_seat-seat-requires
split_seat-seat-requires g c =
    let is = ap (λ t. t.rest) c.pass.view_is in
    (search rules, search rules, splits _ _ _ _ (omega arith))
