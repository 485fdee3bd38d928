use Rattle.sia_bench.proofs.run.print_treeing.Given as goal

abbrev pub ghosts-tree_nanos : goal.ghosts-tree_nanos
ghosts-tree_nanos g a = record { name = a.blank.name; parts = a.blank.parts }
