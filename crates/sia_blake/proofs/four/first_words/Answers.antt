use Rattle.std.proofs.Common.{◌≡◌, List, ℕ, map, slice_index, ◌∙◌, true, arith}
use Rattle.std.specs.List.{range_with_len}
use Rattle.sia_blake.specs.Blake2b.{initial_hash, working_words}
use Rattle.sia_blake.proofs.Rounds.{listed}
use Rattle.sia_blake.proofs.FourLanes.{below_four}
use Rattle.sia_blake.proofs.four.first_words.Goals as goal

pub returns : goal.returns
returns c =
    let w : List ℕ = c.working_words-w.result in
    let each : map (slice_index w) (range_with_len 0 16) ≡ working_words initial_hash 65 true = listed 16 w (omega arith) ∙ c.working_words-w.ensures in
    below_four _ each each each each
