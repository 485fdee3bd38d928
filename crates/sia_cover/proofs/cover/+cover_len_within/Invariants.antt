use Rattle.sia_cover.proofs.cover.+cover_len_within.Given as goal

abbrev pub decreases-cover_len_within : goal.decreases-cover_len_within
decreases-cover_len_within g l = l.height
