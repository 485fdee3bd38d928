use Rattle.std.proofs.Common.{◌++◌, ◌∙◌, ap₂}
use Rattle.sia_merkle.specs.Levels.{pairs}
use Rattle.sia_merkle.proofs.Fours.{quarters}
use Rattle.sia_merkle.proofs.groups.over_quarters.Goals as goal

pub returns : goal.returns
returns c =
    c.four_nodes.ensures ∙ ap₂ (λ left right. pairs (left ++ right)) c.four_nodes-left.ensures c.four_nodes-right.ensures
    ∙ quarters c.args.a.now c.args.b.now c.args.c.now c.args.d.now c.requires.a c.requires.b c.requires.c c.requires.d
