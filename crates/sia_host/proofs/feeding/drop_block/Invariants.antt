use Rattle.sia_host.proofs.feeding.drop_block.Given as goal

abbrev pub ghosts-revert_counted : goal.ghosts-revert_counted
ghosts-revert_counted a = record { name = a.blank.name; parts = a.blank.parts }
