use Rattle.std.proofs.Common.{◌≡◌, ◌+◌, ◌-◌, ◌≤◌, take, drop, ◌∙◌, rules}
use Rattle.sia_journal.proofs.Pieces.{part_at}
use Rattle.sia_journal.proofs.piece.Piece.copy.Goals as goal

pub returns-clause-bytes : goal.returns-clause-bytes
returns-clause-bytes c = λ file shows.
    let piece = c.args.self.now in
    let part = c.copy_front.result in
    let copied : take part c.copy_front.new.buffer ≡ take part (drop (c.args.at - piece.base) (take piece.count piece.bytes.items)) = search rules in
    let within : c.args.at - piece.base + part ≤ piece.count = search rules in
    copied ∙ part_at file piece.bytes.items piece.base piece.count c.args.at part shows c.requires.begins within
