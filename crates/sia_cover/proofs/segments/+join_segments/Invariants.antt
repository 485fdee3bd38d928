use Rattle.sia_cover.proofs.segments.+join_segments.Given as goal

abbrev pub decreases-join_segments : goal.decreases-join_segments
decreases-join_segments g l = l.height
