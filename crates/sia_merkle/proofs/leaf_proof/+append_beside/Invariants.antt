use Rattle.sia_merkle.proofs.leaf_proof.+append_beside.Given as goal

abbrev pub decreases-append_beside : goal.decreases-append_beside
decreases-append_beside l = l.height
