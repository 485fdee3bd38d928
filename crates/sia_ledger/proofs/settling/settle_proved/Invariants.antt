use Rattle.std.proofs.Common.{◌≡◌, drop, map, fold}
use Rattle.sia_ledger.specs.Known.{state_in}
use Rattle.sia_ledger.specs.Effects.{with_proof}
use Rattle.sia_ledger.proofs.settling.settle_proved.Given as goal

abbrev pub invariant-loop-proof : goal.invariant-loop-proof
invariant-loop-proof l = record {
  rest : fold (with_proof l.maturity) (state_in l.fn.draft) l.tx.proofs ≡ fold (with_proof l.maturity) (state_in l.draft) (drop l.proof-index l.tx.proofs);
  kept : l.draft.kept ≡ l.fn.draft.kept;
  ids : l.draft.ids ≡ l.fn.draft.ids;
}
