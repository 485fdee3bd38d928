use Rattle.std.proofs.Common.{◌≡◌, ℕ, ◌*◌, List, length, take, drop, true, refl, ap, ◌∙◌}
use Rattle.sia_blake.specs.Blake2b.{compress, filled_block, blocks_before_last}
use Rattle.sia_blake.proofs.Blocks.{digest_of}
use Rattle.sia_blake.proofs.state.HashState.finish.Goals as goal

pub returns : goal.returns
returns c = λ m held.
    let s = c.args.self in
    let n : ℕ = blocks_before_last m in
    let block : take s.used s.buffer ≡ drop (n * 128) m = held.buffer ∙ ap (λ (k : ℕ). drop k m) held.taken in
    digest_of m n s.h c.compress_last.result _ refl held.hash
    (c.compress_last.ensures ∙ ap (λ (t : ℕ). compress s.h (filled_block (take s.used s.buffer)) t true) held.used
    ∙ ap (λ (b : List ℕ). compress s.h (filled_block b) (length m) true) block)
    c.digest_bytes.ensures
