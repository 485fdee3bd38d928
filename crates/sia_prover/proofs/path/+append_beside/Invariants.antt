use Rattle.sia_prover.proofs.path.+append_beside.Given as goal

abbrev pub decreases-append_beside : goal.decreases-append_beside
decreases-append_beside g l = l.height
