use Rattle.std.proofs.Common.{◌≡◌, ◌+◌, ◌^◌, ◌/◌, ◌%◌, [], get_or, arith, refl, sym, ◌∙◌, ap}
use native.Mathlib.Nat.{div-one}
use Rattle.sia_merkle.specs.Roots.{node_digest}
use Rattle.sia_merkle.proofs.Stacks.{stacked_more, carried_next, carried_none, full_more, half_of}
use Rattle.sia_merkle.proofs.stack.push.Goals as goal

pub loop-height-init : goal.loop-height-init
loop-height-init c = record {
  slots = refl;
  rest = sym (div-one c.args.count);
  full = omega arith;
  carried = λ hashes all stacked. carried_none hashes c.args.hash.now c.args.count all;
}

pub returns-then-rest-eq0 : goal.returns-then-rest-eq0
returns-then-rest-eq0 c = λ hashes all stacked.
    let same = c.loop-height.invariant.slots in
    rw same (stacked_more c.args.slots.now hashes c.args.hash.now c.loop-height.carried c.loop-height.height c.loop-height.rest stacked c.requires.slots (omega arith)
    (c.loop-height.invariant.rest ∙ ap (λ n. n / 2 ^ c.loop-height.height) (sym all)) (ap (λ n. n + 1) all ∙ c.loop-height.invariant.full) c.if-rest-eq0.true (c.loop-height.invariant.carried hashes all stacked))

pub loop-height-preserved : goal.loop-height-preserved
loop-height-preserved c =
    let odd : c.loop-height.rest % 2 ≡ 1 = omega (arith, c.if-rest-eq0.false) in
    record {
      slots = c.loop-height.invariant.slots;
      rest = ap (λ r. r / 2) c.loop-height.invariant.rest ∙ half_of c.args.count c.loop-height.height;
      full = full_more c.args.count c.loop-height.rest c.loop-height.height c.loop-height.invariant.full odd;
      carried = λ hashes all stacked. carried_next c.args.slots.now hashes c.args.hash.now c.loop-height.carried _ c.loop-height.height c.loop-height.rest stacked (omega arith)
          (c.loop-height.invariant.rest ∙ ap (λ n. n / 2 ^ c.loop-height.height) (sym all)) (ap (λ n. n + 1) all ∙ c.loop-height.invariant.full) odd (c.loop-height.invariant.carried hashes all stacked) (c.node-carried.ensures ∙ ap (λ s. node_digest (get_or s c.loop-height.height []) c.loop-height.carried) c.loop-height.invariant.slots);
    }
