use Rattle.sia_byte_tests.proofs.merkle.a_node_is_the_root_over_its_two_parts.Given as goal

abbrev pub ghosts-counted_node : goal.ghosts-counted_node
ghosts-counted_node g a = record { name = a.blank.name; parts = a.blank.parts }
