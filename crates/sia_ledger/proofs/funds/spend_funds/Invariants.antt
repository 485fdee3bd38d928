use Rattle.std.proofs.Common.{◌≡◌, drop, fold}
use Rattle.sia_ledger.specs.Bounded.{ClaimsFit}
use Rattle.sia_ledger.specs.Effects.{with_fund_input}
use Rattle.sia_ledger.specs.Known.{state_in}
use Rattle.sia_ledger.proofs.funds.spend_funds.Given as goal

abbrev pub invariant-loop-input : goal.invariant-loop-input
invariant-loop-input l = record {
  rest : fold (with_fund_input l.maturity) (state_in l.fn.draft) l.tx.fund_inputs ≡ fold (with_fund_input l.maturity) (state_in l.draft) (drop l.input-index l.tx.fund_inputs);
  fits : ClaimsFit l.maturity (state_in l.draft) (drop l.input-index l.tx.fund_inputs);
  kept : l.draft.kept ≡ l.fn.draft.kept;
  ids : l.draft.ids ≡ l.fn.draft.ids;
}
