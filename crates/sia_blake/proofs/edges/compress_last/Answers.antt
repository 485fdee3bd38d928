use Rattle.std.proofs.Common.{ℕ, List, ◌++◌, length, true, ap, ◌∙◌}
use Rattle.std.proofs.lemmas.List.{drop-replicate}
use Rattle.sia_blake.specs.Blake2b.{compress}
use Rattle.sia_blake.proofs.edges.compress_last.Goals as goal

pub returns : goal.returns
returns c =
    c.compress.ensures
    ∙ ap (λ (b : List ℕ). compress c.args.h b c.args.taken true)
    (rw c.copy_from_slice.ensures.after (ap (λ (zeros : List ℕ). c.args.bytes.now ++ zeros) (drop-replicate (length c.args.bytes.now) 128 0)))
