use Rattle.std.proofs.Common.{◌≡◌, length, take, min, ap, ◌∙◌, arith}
use Rattle.std.proofs.lemmas.List.{take_min}
use Rattle.sia_merkle.proofs.whole.part_of.Goals as goal

pub returns : goal.returns
returns c =
    let least : c.min.result ≡ min c.args.size (length c.split_at.result.1.now) = omega arith in
    c.split_at-2.ensures.front ∙ ap (λ n. take n c.split_at.result.1.now) least ∙ take_min c.args.size c.split_at.result.1.now ∙ ap (take c.args.size) c.split_at.ensures.back
