use Rattle.std.proofs.Common.{◌≡◌, suc, ◌-◌, ◌*◌, ◌++◌, map, take, drop, arith, ap, ◌∙◌}
use Rattle.sia_merkle.specs.Paths.{hashes_beside}
use Rattle.sia_merkle.specs.Roots.{leaf_digest, leaves_of}
use Rattle.sia_merkle.proofs.Beside.{beside_none, beside_low, right_fits, appended_left, appended_right}
use Rattle.sia_merkle.proofs.leaf_proof.+append_beside.Goals as goal

pub returns-then-height-eq0 : goal.returns-then-height-eq0
returns-then-height-eq0 t c = beside_none c.args.hashes.now (map leaf_digest (leaves_of c.args.bytes.now)) c.args.height c.args.place c.if-height-eq0.true

pub returns-then-leaves-half : goal.returns-then-leaves-half
returns-then-leaves-half t c =
    let is : c.args.height ≡ suc (c.args.height - 1) = omega (arith, c.if-height-eq0.false) in
    rw (beside_low c.args.height (c.args.height - 1) c.args.bytes.now c.args.place is (omega (arith, c.power-half.ensures, c.leaves.ensures))) c.append_beside.ensures

pub append_beside-requires-else-place-half : goal.append_beside-requires-else-place-half
append_beside-requires-else-place-half t c =
    let is : c.args.height ≡ suc (c.args.height - 1) = omega (arith, c.if-height-eq0.false) in (
      omega (arith, c.if-height-eq0.false, c.decreases),
      (
        omega arith,
        right_fits c.args.height (c.args.height - 1) c.args.bytes.now c.split_at.result.1.now is c.requires.fits (omega (arith, c.power-half.ensures, c.leaves.ensures))
            (c.split_at.ensures.back ∙ ap (λ h. drop (h * 64) c.args.bytes.now) c.power-half.ensures),
      ),
    )

pub returns-in_ok-push : goal.returns-in_ok-push
returns-in_ok-push t c =
    let is : c.args.height ≡ suc (c.args.height - 1) = omega (arith, c.if-height-eq0.false) in
    c.in_ok-push.ensures.ok ∙ appended_left c.args.hashes.now c.append_beside-then-place-half.new.hashes c.root.result c.args.bytes.now c.split_at.result.0.now c.split_at.result.1.now c.args.height (c.args.height - 1) c.args.place
    is c.requires.fits (omega (arith, c.power-half.ensures, c.leaves.ensures)) (omega (arith, c.power-half.ensures))
    (c.split_at.ensures.front ∙ ap (λ h. take (h * 64) c.args.bytes.now) c.power-half.ensures) (c.split_at.ensures.back ∙ ap (λ h. drop (h * 64) c.args.bytes.now) c.power-half.ensures)
    c.in_ok-append_beside.ensures c.root.ensures

pub returns-in_ok-push-2 : goal.returns-in_ok-push-2
returns-in_ok-push-2 t c =
    let is : c.args.height ≡ suc (c.args.height - 1) = omega (arith, c.if-height-eq0.false) in
    c.in_ok-push-2.ensures.ok ∙ appended_right c.args.hashes.now c.append_beside-else-place-half.new.hashes c.root-else-place-half.result c.args.bytes.now c.split_at.result.0.now c.split_at.result.1.now c.args.height (c.args.height - 1) c.args.place
    is c.requires.fits (omega (arith, c.power-half.ensures, c.leaves.ensures)) (omega (arith, c.power-half.ensures))
    (c.split_at.ensures.front ∙ ap (λ h. take (h * 64) c.args.bytes.now) c.power-half.ensures) (c.split_at.ensures.back ∙ ap (λ h. drop (h * 64) c.args.bytes.now) c.power-half.ensures)
    (c.in_ok-append_beside-2.ensures ∙ ap (λ h. c.args.hashes.now ++ hashes_beside (c.args.height - 1) (map leaf_digest (leaves_of c.split_at.result.1.now)) (c.args.place - h)) c.power-half.ensures) c.root-else-place-half.ensures
