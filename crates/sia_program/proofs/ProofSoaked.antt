-- How far proving a range of a file in pieces has come.
use Rattle.std.proofs.Common.{◌≡◌, ◌++◌, ℕ, ◌+◌, ◌^◌, ◌<◌, ◌≤◌, List, length, map, take, true, false, Option, None, Some, Ok, Err, arith, refl, ap, sym, ◌∙◌}
use Rattle.std.specs.Prelude.{IfSome, nat_le}
use Rattle.std.proofs.lemmas.Bool.Decides.{nat_tests}
use Rattle.std.proofs.lemmas.List.{length-append, take_all}
use Rattle.sia_merkle.specs.Roots.{leaf_count, leaf_digest, leaves_of, root_of}
use Rattle.sia_range.specs.declared.prover.RangeProof.{RangeProof}
use Rattle.sia_range.specs.Ranges.{roots_outside}
use Rattle.sia_program.specs.declared.stop.Stop.TheVariants as stop
use Rattle.sia_program.specs.Commands.Prove.{found_of, proof_found, seen}
use Rattle.sia_program.specs.Inputs.{within}
use Rattle.sia_program.proofs.Soaked.{SoakedSoFar, Filled, rest_all}

too_long : (start end : ℕ) (file : List ℕ) → 2 ^ 30 < length file → proof_found start end file ≡ Err stop.Long
unfolding proof_found within
too_long start end file long =
    let over : nat_le (length file) (2 ^ 30) ≡ false = grind (arith, nat_tests) in
    rw over refl

found : (start end : ℕ) (file : List ℕ) → length file ≤ 2 ^ 30 → proof_found start end file ≡ Ok (found_of start end file)
unfolding proof_found within
found start end file fits =
    let under : nat_le (length file) (2 ^ 30) ≡ true = grind (arith, nat_tests) in
    rw under refl

-- more came than may
pub proof_over : (start end : ℕ) (before now new : Option (List ℕ)) (pushed buffer : List ℕ) (count : ℕ) → SoakedSoFar before now pushed → Filled now new count buffer
    → 2 ^ 30 < length pushed + count → IfSome before (λ file. proof_found start end file ≡ Err stop.Long)
proof_over start end None now new pushed buffer count so_far filled over = tt
proof_over start end (Some before) None new pushed buffer count so_far filled over = absurd so_far
proof_over start end (Some before) (Some now) new pushed buffer count so_far filled over =
    too_long start end before (omega (arith, ap length so_far, length-append pushed now, filled.count_is))

-- a proof is what is found of all bytes
seen_is : (start end size : ℕ) (bytes : List ℕ) (proof : RangeProof) → size ≡ length bytes → proof.root ≡ root_of (leaves_of bytes)
    → proof.hashes ≡ roots_outside (map leaf_digest (leaves_of bytes)) (leaf_count (length bytes)) start end → found_of start end bytes ≡ seen proof size
seen_is start end size bytes proof long root hashes = rw (long, root, hashes) refl

-- the last piece came, and it is less than a buffer
pub proof_all : (start end : ℕ) (before now new : Option (List ℕ)) (pushed piece buffer : List ℕ) (count size : ℕ) (proof : RangeProof) → SoakedSoFar before now pushed → Filled now new count buffer
    → piece ≡ take count buffer → count < length buffer → size ≡ length pushed + count → size ≤ 2 ^ 30
    → proof.root ≡ root_of (leaves_of (pushed ++ piece)) → proof.hashes ≡ roots_outside (map leaf_digest (leaves_of (pushed ++ piece))) (leaf_count (length (pushed ++ piece))) start end
    → IfSome before (λ file. proof_found start end file ≡ Ok (seen proof size))
proof_all start end None now new pushed piece buffer count size proof so_far filled is short sum fits root hashes = tt
proof_all start end (Some before) None new pushed piece buffer count size proof so_far filled is short sum fits root hashes = absurd so_far
proof_all start end (Some before) (Some now) new pushed piece buffer count size proof so_far filled is short sum fits root hashes =
    let all : length now ≤ count = rest_all now buffer count filled.count_is short in
    let same : pushed ++ piece ≡ before = ap (λ xs. pushed ++ xs) (is ∙ filled.front ∙ take_all count now all) ∙ sym so_far in
    let long : size ≡ length before = omega (arith, ap length so_far, length-append pushed now, filled.count_is, all, sum) in
    found start end before (omega arith)
    ∙ ap Ok (seen_is start end size before proof long (root ∙ ap (λ bytes. root_of (leaves_of bytes)) same)
    (hashes ∙ ap (λ bytes. roots_outside (map leaf_digest (leaves_of bytes)) (leaf_count (length bytes)) start end) same))
