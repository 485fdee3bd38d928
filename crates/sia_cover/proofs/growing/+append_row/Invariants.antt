use Rattle.sia_cover.proofs.growing.+append_row.Given as goal

abbrev pub decreases-append_row : goal.decreases-append_row
decreases-append_row g l = l.height
