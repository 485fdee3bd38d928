use Rattle.std.proofs.Common.{◌≡◌, ◌+◌, ◌++◌, ℕ, List, length, map, arith, subst, sym, ap, ap₂, ◌∙◌, length-append}
use Rattle.sia_merkle.specs.Roots.{leaf_count, leaf_digest, leaves_of}
use Rattle.sia_range.specs.Proving.{Proving}
use Rattle.sia_range.specs.Ranges.{roots_outside}
use Rattle.sia_program.proofs.ProofSoaked.{proof_all, proof_over}
use Rattle.sia_program.proofs.Soaked.{SoakedSoFar, soaked_end, soaked_more}
use Rattle.sia_program.proofs.commands.prove.find_proof.Goals as goal

pub returns-then-size-gt-INPUT_BOUND-clause-told : goal.returns-then-size-gt-INPUT_BOUND-clause-told
returns-then-size-gt-INPUT_BOUND-clause-told g c =
    proof_over c.args.start c.args.end _ (g.S.Source.left c.loop.input) (g.S.Source.left c.fill_from.new.source) c.loop.prover.bytes c.fill_from.new.buffer c.in-Ok.count
    c.loop.invariant.so_far c.in-Ok.ensures.bytes (omega (arith, c.loop.invariant.pushed, c.if-size-gt-INPUT_BOUND.true))

pub returns-then-count-lt-PIECE_LEN-clause-told : goal.returns-then-count-lt-PIECE_LEN-clause-told
returns-then-count-lt-PIECE_LEN-clause-told g c =
    proof_all c.args.start c.args.end _ (g.S.Source.left c.loop.input) (g.S.Source.left c.fill_from.new.source) c.loop.prover.bytes _ c.fill_from.new.buffer c.in-Ok.count (c.loop.size + c.in-Ok.count) c.in_ok-proof.proof
    c.loop.invariant.so_far c.in-Ok.ensures.bytes c.split_at.ensures.front (omega (arith, c.if-count-lt-PIECE_LEN.true)) (omega (arith, c.loop.invariant.pushed)) (omega (arith, c.if-size-gt-INPUT_BOUND.false))
    c.in_ok-proof.ensures.root
    (c.in_ok-proof.ensures.hashes ∙ ap₂ (λ start end. roots_outside (map leaf_digest (leaves_of (c.loop.prover.bytes ++ c.split_at.result.0.now))) (leaf_count (length (c.loop.prover.bytes ++ c.split_at.result.0.now))) start end) c.loop.invariant.range.0 c.loop.invariant.range.1)

pub returns-then-count-lt-PIECE_LEN-clause-ended : goal.returns-then-count-lt-PIECE_LEN-clause-ended
returns-then-count-lt-PIECE_LEN-clause-ended g c =
    soaked_end _ (g.S.Source.left c.loop.input) (g.S.Source.left c.fill_from.new.source) c.loop.prover.bytes c.fill_from.new.buffer c.in-Ok.count
    c.loop.invariant.so_far c.in-Ok.ensures.bytes (omega (arith, c.if-count-lt-PIECE_LEN.true))

pub loop-preserved : goal.loop-preserved
loop-preserved g c =
    let bytes : c.in_ok-prover.prover.bytes ≡ c.loop.prover.bytes ++ c.split_at.result.0.now = ap (λ (seen : Proving). seen.bytes) c.in_ok-prover.ensures in
    let grown : length c.in_ok-prover.prover.bytes ≡ length c.loop.prover.bytes + length c.split_at.result.0.now = ap length bytes ∙ length-append c.loop.prover.bytes c.split_at.result.0.now in
    record {
      so_far = subst (λ (all : List ℕ). SoakedSoFar (g.S.Source.left c.args.input.now) (g.S.Source.left c.fill_from.new.source) all) (sym bytes)
          (soaked_more _ (g.S.Source.left c.loop.input) (g.S.Source.left c.fill_from.new.source) c.loop.prover.bytes c.split_at.result.0.now c.fill_from.new.buffer c.in-Ok.count c.loop.invariant.so_far c.in-Ok.ensures.bytes c.split_at.ensures.front);
      range = (ap (λ (seen : Proving). seen.start) c.in_ok-prover.ensures ∙ c.loop.invariant.range.0, ap (λ (seen : Proving). seen.end) c.in_ok-prover.ensures ∙ c.loop.invariant.range.1);
      pushed = omega (arith, c.loop.invariant.pushed, grown, c.split_at.ensures.front_len);
      pieces = omega (arith, c.loop.invariant.pieces, c.if-count-lt-PIECE_LEN.false, c.in-Ok.ensures.bound);
      within = omega (arith, c.if-size-gt-INPUT_BOUND.false);
      later = omega (arith, c.loop.invariant.later, c.fill_from.ensures.later);
    }
