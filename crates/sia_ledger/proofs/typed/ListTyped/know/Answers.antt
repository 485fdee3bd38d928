use Rattle.std.proofs.Common.{ℕ, ◌-◌, ◌^◌, ◌≡◌, ◌≤◌, ◌<◌, List, length, subst, arith}
use Rattle.std.specs.List.{All}
use Rattle.sia_ledger.proofs.Walks.{all_done, all_more}
use Rattle.sia_ledger.proofs.typed.ListTyped.know.Goals as goal

pub loop-item-preserved : goal.loop-item-preserved
loop-item-preserved g c = all_more (g.T.Item.codec.fits (2 ^ 64 - 1)) c.as_slice-items.result.now c.loop-item.item-index c.item-item.result c.loop-item-test.true c.item-item.is c.loop-item.invariant c.know.ensures

pub returns : goal.returns
returns g c =
    let low : length c.args.self.now < 2 ^ 64 = omega (arith, c.len-count.ensures, c.len-count.type_inv) in
    let few : (length c.args.self.now ≤ 2 ^ 64 - 1) × (length c.args.self.now < 2 ^ 64) = (omega (arith, low), low) in
    let all : All (g.T.Item.codec.fits (2 ^ 64 - 1)) c.as_slice-items.result.now = all_done (g.T.Item.codec.fits (2 ^ 64 - 1)) c.as_slice-items.result.now c.loop-item.item-index c.loop-item-test.false c.loop-item.invariant in
    (few, subst (All (g.T.Item.codec.fits (2 ^ 64 - 1))) c.as_slice-items.ensures all)
