use Rattle.std.proofs.Common.{◌≡◌, ◌<◌, ◌≤◌, length, arith}
use Rattle.std.specs.Vec.Iter.{into_iter_items}
use Rattle.sia_records.proofs.Makings.{all_made, makes_next, not_given, some_left}
use Rattle.sia_records.proofs.making.make.Goals as goal

pub returns-then-not-branch : goal.returns-then-not-branch
returns-then-not-branch c =
    let within : c.loop-action.action-index < length c.args.actions.now = omega arith in
    not_given _ _ _ _ _ _ _ _ _ _ within c.action-item.is c.if-not-branch.true c.loop-action.invariant c.in_ok-add.ensures

pub loop-action-preserved : goal.loop-action-preserved
loop-action-preserved c =
    let within : c.loop-action.action-index < length c.args.actions.now = omega arith in
    makes_next _ _ _ _ _ _ _ _ _ within c.action-item.is c.if-not-branch.false c.loop-action.invariant c.in_ok-add.ensures

pub returns-then-len-gt0 : goal.returns-then-len-gt0
returns-then-len-gt0 c =
    let ended : length c.args.actions.now ≤ c.loop-action.action-index = omega arith in
    let some : 0 < length (into_iter_items c.loop-action.rest) = omega (arith, c.loop-action.rest.rest.ok) in
    some_left _ _ _ _ _ ended some c.loop-action.invariant

pub returns : goal.returns
returns c =
    let ended : length c.args.actions.now ≤ c.loop-action.action-index = omega arith in
    let none : length (into_iter_items c.loop-action.rest) ≡ 0 = omega (arith, c.loop-action.rest.rest.ok) in
    all_made _ _ _ _ _ ended none c.loop-action.invariant
