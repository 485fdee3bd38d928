use Rattle.sia_byte_tests.proofs.roottree.proofs_read_the_nodes_that_a_tree_keeps.Given as goal

abbrev pub ghosts-is_read : goal.ghosts-is_read
ghosts-is_read g a = record { name = a.blank.name; parts = a.blank.parts }
