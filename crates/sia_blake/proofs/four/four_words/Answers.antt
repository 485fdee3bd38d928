use Rattle.std.proofs.Common.{◌∙◌, arith, sym}
use Rattle.std.proofs.lemmas.List.{length-take-le}
use Rattle.sia_blake.proofs.Rounds.{listed}
use Rattle.sia_blake.proofs.FourLanes.{below_four}
use Rattle.sia_blake.proofs.four.four_words.Goals as goal

pub returns : goal.returns
returns c =
    below_four _
    (listed 16 c.message_words-a.result (omega arith) ∙ c.message_words-a.ensures)
    (listed 16 c.message_words-b.result (omega arith) ∙ c.message_words-b.ensures)
    (listed 16 c.message_words-c.result (omega arith) ∙ c.message_words-c.ensures)
    (listed 16 c.message_words-d.result (omega arith) ∙ c.message_words-d.ensures)

pub slice_bounds-message_words-end : goal.slice_bounds-message_words-end
slice_bounds-message_words-end c = sym (length-take-le 64 c.args.pieces.now (omega arith))
