use Rattle.std.proofs.Common.{◌≡◌, ℕ, ◌+◌, ◌-◌, ◌*◌, ◌/◌, List, ◌++◌, length, take, drop, arith, ap, subst, ◌∙◌}
use Rattle.std.proofs.lemmas.List.{take_rest}
use Rattle.sia_blake.specs.Absorbing.{IsAbsorbed, IsPassed}
use Rattle.sia_blake.proofs.Cuts.{one_more_block, the_rest}
use Rattle.sia_blake.proofs.state.HashState.update.Goals as goal

pub blocks-2-preserved : goal.blocks-2-preserved
blocks-2-preserved c =
    let x : List ℕ = c.args.bytes.now in
    let a : ℕ = 128 - c.args.self.now.used + 128 * c.blocks-2.i in
    let b : ℕ = 128 - c.args.self.now.used + 128 * (c.blocks-2.i + 1) in
    let next : b ≡ a + 128 = omega arith in
    record {
      taken = omega arith;
      passed = λ m held. subst (IsPassed c.pass_block.new.self) (one_more_block m x a b next)
          (c.pass_block.ensures.passed (m ++ take a x) (c.blocks-2.invariant.passed m held));
    }

pub returns : goal.returns
returns c = λ m held.
    let x : List ℕ = c.args.bytes.now in
    let room : ℕ = 128 - c.args.self.now.used in
    let a : ℕ = room + 128 * c.blocks-2.i in
    let end : ℕ = room + 128 * ((length x - room - 1) / 128) in
    let same : end ≡ a = omega arith in
    let kept : take (length x - end) (drop end x) ≡ drop a x = take_rest x end ∙ ap (λ (k : ℕ). drop k x) same in
    subst (IsAbsorbed c.keep.new.self) (ap (λ (y : List ℕ). (m ++ take a x) ++ y) kept ∙ the_rest m x a)
    (c.keep.ensures (m ++ take a x) (c.blocks-2.invariant.passed m held))
