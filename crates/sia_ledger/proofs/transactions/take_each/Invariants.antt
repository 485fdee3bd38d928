use Rattle.std.proofs.Common.{◌≡◌, drop, fold, None}
use Rattle.sia_encoding.specs.Firsts.{first_at}
use Rattle.sia_rules.specs.Values.{sum_too_large}
use Rattle.sia_ledger.specs.Bounded.{IsBounded}
use Rattle.sia_ledger.specs.Effects.{after_transaction}
use Rattle.sia_ledger.specs.Known.{state_in}
use Rattle.sia_ledger.specs.Refusal.{transactions_refusal}
use Rattle.sia_ledger.proofs.transactions.take_each.Given as goal

abbrev pub invariant-loop-t : goal.invariant-loop-t
invariant-loop-t g l = record {
  judged : transactions_refusal g.C.SigCheck.verdict l.maturity (state_in l.fn.draft) 0 l.txs ≡ transactions_refusal g.C.SigCheck.verdict l.maturity (state_in l.draft) l.t (drop l.t l.txs);
  done : fold (after_transaction l.maturity) (state_in l.fn.draft) l.txs ≡ fold (after_transaction l.maturity) (state_in l.draft) (drop l.t l.txs);
  bounded : IsBounded (state_in l.draft);
  sums : first_at sum_too_large l.t (drop l.t l.txs) ≡ None;
  kept : l.draft.kept ≡ l.fn.draft.kept;
  ids : l.draft.ids ≡ l.fn.draft.ids;
}
