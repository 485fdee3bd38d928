use Rattle.sia_merkle.proofs.leaf_proof.+climb.Given as goal

abbrev pub decreases-climb : goal.decreases-climb
decreases-climb l = l.height
