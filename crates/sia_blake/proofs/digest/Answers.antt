use Rattle.std.proofs.Common.{◌≡◌, ℕ, ◌*◌, ◌/◌, List, length, true, ap, ◌∙◌, refl, arith}
use Rattle.std.proofs.lemmas.List.{take_rest}
use Rattle.sia_blake.specs.Blake2b.{hash_after, blocks_before_last, filled_block, compress}
use Rattle.sia_blake.proofs.Blocks.{hash_after_next, digest_of}
use Rattle.sia_blake.proofs.digest.Goals as goal

pub blocks-2-init : goal.blocks-2-init
unfolding hash_after
blocks-2-init c = refl

pub blocks-2-preserved : goal.blocks-2-preserved
blocks-2-preserved c =
    hash_after_next c.args.bytes.now c.blocks-2.i _ _ _ _ refl refl c.blocks-2.invariant c.compress-next.ensures

pub returns : goal.returns
returns c =
    let m : List ℕ = c.args.bytes.now in
    let n : ℕ = c.saturating_sub-before_last.result / 128 in
    let whole : n ≡ blocks_before_last m = omega arith in
    let done : c.blocks-2.i ≡ n = omega arith in
    digest_of m n _ _ _ whole (c.blocks-2.invariant ∙ ap (hash_after m) done)
    (c.compress_last.ensures ∙ ap (λ (b : List ℕ). compress c.blocks-2.h (filled_block b) (length m) true) (take_rest m (n * 128)))
    c.digest_bytes.ensures
