-- The one number is added.
use Rattle.std.proofs.Common.{[], ◌∷◌}
use Rattle.sia_host_tests.proofs.numbers.add.Given as goal

abbrev pub ghosts-leave_with : goal.ghosts-leave_with
ghosts-leave_with g a = record { added = a.number.now ∷ [] }
