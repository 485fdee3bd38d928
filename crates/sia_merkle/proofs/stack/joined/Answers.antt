use Rattle.std.proofs.Common.{◌≡◌, ℕ, ◌*◌, ◌^◌, ◌/◌, length, drop, arith, refl, sym, ◌∙◌, ap, subst}
use Rattle.sia_merkle.specs.Stacked.{IsRest}
use Rattle.sia_merkle.proofs.Stacks.{rest_even, rest_odd, rest_all, half_of}
use Rattle.sia_merkle.proofs.stack.joined.Goals as goal
use Rattle.sia_merkle.proofs.stack.joined.Goals.{then-rest-eq1, else-rest-eq1}

pub loop-slot-preserved : goal.loop-slot-preserved
loop-slot-preserved c = record {
  rest = ap (λ r. r / 2) c.loop-slot.invariant.rest ∙ half_of c.args.count c.loop-slot.slot-index;
  joined = λ hashes all stacked.
      let is : c.loop-slot.rest ≡ length hashes / 2 ^ c.loop-slot.slot-index = c.loop-slot.invariant.rest ∙ ap (λ n. n / 2 ^ c.loop-slot.slot-index) (sym all) in
      elim c.if-rest-eq1.branch [
        | then-rest-eq1 w ↦ rw (w.root-is, w.over.ensures) (rest_odd c.loop-slot.root c.args.slots.now hashes _ c.loop-slot.slot-index c.loop-slot.rest stacked (omega arith) refl is w.if-rest-eq1.true (c.loop-slot.invariant.joined hashes all stacked))
        | else-rest-eq1 w ↦ rw w.root-is (rest_even c.loop-slot.root hashes c.loop-slot.slot-index c.loop-slot.rest is (omega (arith, w.if-rest-eq1.false)) (c.loop-slot.invariant.joined hashes all stacked))
      ];
}

pub returns : goal.returns
returns c = λ hashes all stacked.
    let end : c.loop-slot.slot-index ≡ 64 = omega arith in
    let is : c.loop-slot.rest ≡ length hashes / 2 ^ 64 = c.loop-slot.invariant.rest ∙ ap (λ n. n / 2 ^ c.loop-slot.slot-index) (sym all) ∙ ap (λ i. length hashes / 2 ^ i) end in
    c.unwrap_or.ensures ∙ rest_all c.loop-slot.root hashes c.loop-slot.rest (omega arith) is
    (subst (λ (i : ℕ). IsRest c.loop-slot.root i (drop (c.loop-slot.rest * 2 ^ i) hashes)) end (c.loop-slot.invariant.joined hashes all stacked))
