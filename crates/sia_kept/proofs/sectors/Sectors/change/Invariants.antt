use Rattle.sia_kept.proofs.sectors.Sectors.change.Given as goal

abbrev pub ghosts-do_uncounted : goal.ghosts-do_uncounted
ghosts-do_uncounted a = record { name = a.blank.name; parts = a.blank.parts }
