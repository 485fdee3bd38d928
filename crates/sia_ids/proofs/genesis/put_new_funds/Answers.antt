use Rattle.std.proofs.Common.{map, length, subst, arith, append_assoc}
use Rattle.std.proofs.lemmas.Grind.{common_steps}
use Rattle.sia_ids.proofs.Sizes.{AreSized-more}
use Rattle.std.proofs.lemmas.List.{length-map, take_all}
use Rattle.std.specs.List.{flat_map}
use Rattle.sia_encoding.specs.Spelling.{spelled_list, spelled_u64}
use Rattle.sia_ids.specs.Identifiers.{AreSized}
use Rattle.sia_ids.specs.Identifiers.{new_fund}
use Rattle.sia_types.specs.Funds.{fund_output}
use Rattle.sia_ids.proofs.genesis.put_new_funds.Goals as goal

pub returns-clause-put : goal.returns-clause-put
unfolding spelled_list
returns-clause-put c =
    rw (c.loop-fund.invariant.put, take_all c.loop-fund.fund-index c.args.funds.now c.loop-fund-test.false, length-map) (append_assoc c.args.out.now (spelled_u64 (length c.args.funds.now)) (flat_map fund_output.spelled (map new_fund c.args.funds.now)))

pub returns-clause-sized : goal.returns-clause-sized
returns-clause-sized c = subst AreSized (take_all c.loop-fund.fund-index c.args.funds.now c.loop-fund-test.false) c.loop-fund.invariant.sized

pub loop-fund-preserved : goal.loop-fund-preserved
loop-fund-preserved c = record {
  put = grind (arith, common_steps, c.in_ok-put_new_fund.ensures.put);
  sized = AreSized-more c.args.funds.now c.loop-fund.fund-index _ c.loop-fund-test.true c.loop-fund.invariant.sized c.in_ok-put_new_fund.ensures.sized;
}
