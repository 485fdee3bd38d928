use Rattle.std.proofs.Common.{◌≡◌, ◌++◌, take, map, length}
use Rattle.std.specs.List.{flat_map}
use Rattle.sia_encoding.specs.Spelling.{spelled_u64}
use Rattle.sia_ids.specs.Identifiers.{AreSized}
use Rattle.sia_ids.specs.Identifiers.{new_fund}
use Rattle.sia_types.specs.Funds.{fund_output}
use Rattle.sia_ids.proofs.genesis.put_new_funds.Given as goal

abbrev pub invariant-loop-fund : goal.invariant-loop-fund
invariant-loop-fund l = record {
  put : l.out ≡ (l.fn.out ++ spelled_u64 (length l.funds)) ++ flat_map fund_output.spelled (map new_fund (take l.fund-index l.funds));
  sized : AreSized (take l.fund-index l.funds);
}
