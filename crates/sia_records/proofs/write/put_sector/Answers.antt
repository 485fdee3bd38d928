use Rattle.std.proofs.Common.{◌≡◌, length, arith}
use Rattle.std.specs.Vec.Iter.{into_iter_items}
use Rattle.sia_records.proofs.Preparing.{append_put, none_put, swap_put, trim_put, update_put}
use Rattle.sia_records.proofs.write.put_sector.Goals as goal

pub returns-in-Append : goal.returns-in-Append
returns-in-Append c = λ others. append_put _ _ _ _ _ others c.in-Append.is c.in_ok-push-in-Append.ensures.ok

pub returns-in-None : goal.returns-in-None
returns-in-None c =
    let none : length (into_iter_items c.args.changed.now) ≡ 0 = omega (arith, c.args.changed.now.rest.ok, c.in-None.ensures.cases) in
    let left : length (into_iter_items c.next.new.self) ≡ 0 = omega (arith, c.next.new.self.rest.ok, c.in-None.ensures.cases) in
    λ others. none_put _ _ _ _ _ _ _ others c.in-Update.is none left

pub returns-in-Update : goal.returns-in-Update
returns-in-Update c = λ others. update_put _ _ _ _ _ _ _ _ _ others c.in-Update.is c.in-Some.ensures.cases.0 c.in_ok-push-in-Some.ensures.ok

pub returns-in-Trim : goal.returns-in-Trim
returns-in-Trim c = λ others. trim_put _ _ _ _ others c.in-Trim.is

pub returns : goal.returns
returns c = λ others. swap_put _ _ _ _ _ others c.in-Swap.is
