use Rattle.sia_cover.proofs.cover.+append_cover.Given as goal

abbrev pub decreases-append_cover : goal.decreases-append_cover
decreases-append_cover g l = l.height
