use Rattle.sia_blake.specs.Lanes.{lane}
use Rattle.sia_blake.proofs.Rounds.{round_of}
use Rattle.sia_blake.proofs.four.round.Goals as goal

pub returns : goal.returns
returns c j below =
    round_of _ _ _ _ _ _ _ _ _ _ _ _ _ _ _ _ (lane 16 j c.args.m) _ _ _ _ _ _ _ _
    (c.mixed.ensures j below) (c.mixed-2.ensures j below) (c.mixed-3.ensures j below) (c.mixed-4.ensures j below)
    (c.mixed-5.ensures j below) (c.mixed-6.ensures j below) (c.mixed-7.ensures j below) (c.mixed-8.ensures j below)
