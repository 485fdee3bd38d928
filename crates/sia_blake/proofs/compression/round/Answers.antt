use Rattle.std.proofs.Common.{List, ℕ, ap, ◌∙◌, arith}
use Rattle.sia_blake.specs.Blake2b.{round}
use Rattle.sia_blake.proofs.Rounds.{listed, round_of}
use Rattle.sia_blake.proofs.compression.round.Goals as goal

pub returns : goal.returns
returns c =
    round_of _ _ _ _ _ _ _ _ _ _ _ _ _ _ _ _ c.args.m _ _ _ _ _ _ _ _
    c.mixed-v0.ensures c.mixed-v1.ensures c.mixed-v2.ensures c.mixed-v3.ensures
    c.mixed-v0-2.ensures c.mixed-v1-2.ensures c.mixed-v2-2.ensures c.mixed-v3-2.ensures
    ∙ ap (λ (u : List ℕ). round u c.args.m) (listed 16 c.args.v (omega arith))
