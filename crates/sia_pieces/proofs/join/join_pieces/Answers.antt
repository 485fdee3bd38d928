use Rattle.sia_pieces.proofs.Joins.{joined_from}
use Rattle.sia_pieces.proofs.join.join_pieces.Goals as goal

pub returns : goal.returns
returns c =
    joined_from c.args.pieces.now c.args.k c.args.length c.div_ceil-count.result c.new-joined.result c.join_groups.new.joined c.truncate.new.self
    c.requires.some c.requires.all c.requires.apart c.requires.long c.div_ceil-count.ensures
    c.in_ok-join_groups.ensures.bytes c.new-joined.ensures c.in_ok-join_groups.ensures.groups c.truncate.ensures
