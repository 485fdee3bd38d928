use Rattle.sia_byte_tests.proofs.roottree.ten_thousand_changes_of_a_small_tree_leave_the_root_of_its_list.Given as goal

abbrev pub ghosts-stays_the_list : goal.ghosts-stays_the_list
ghosts-stays_the_list g a = record { name = a.blank.name; parts = a.blank.parts }
