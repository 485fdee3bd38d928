use Rattle.sia_cover.proofs.joining.+join_within.Given as goal

abbrev pub decreases-join_within : goal.decreases-join_within
decreases-join_within g l = l.height
