use Rattle.std.proofs.Common.{arith, rules, length, ap}
use Rattle.std.proofs.lemmas.List.{length-drop}
use Rattle.sia_journal.proofs.journal.Journal.read_next.Goals as goal

pub without_front-requires : goal.without_front-requires
without_front-requires g c =
    let moved = c.in-Ok-true.ensures.moves (search rules) in
    omega (arith, moved.2, c.len-held.ensures)

pub returns-clause-moves : goal.returns-clause-moves
returns-clause-moves g c = λ more.
    let moved = c.in-Ok-true.ensures.moves more in
    omega (arith, moved.1, moved.2, c.len-held.ensures, ap length c.without_front.ensures, length-drop c.len-held.result c.read_next_onto-read.new.out.items)
