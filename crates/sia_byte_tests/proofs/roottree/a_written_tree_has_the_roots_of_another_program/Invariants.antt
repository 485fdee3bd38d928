use Rattle.sia_byte_tests.proofs.roottree.a_written_tree_has_the_roots_of_another_program.Given as goal

abbrev pub ghosts-is_written : goal.ghosts-is_written
ghosts-is_written g a = record { name = a.blank.name; parts = a.blank.parts }
