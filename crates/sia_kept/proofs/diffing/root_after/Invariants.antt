use Rattle.sia_kept.proofs.diffing.root_after.Given as goal

abbrev pub ghosts-root_uncounted : goal.ghosts-root_uncounted
ghosts-root_uncounted a = record { name = a.blank.name; parts = a.blank.parts }
