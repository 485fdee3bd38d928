use Rattle.std.proofs.Common.{◌≡◌, drop, take}
use Rattle.std.specs.List.{sum_by}
use Rattle.sia_encoding.specs.Firsts.{first_at}
use Rattle.sia_rules.specs.Amounts.{fitting}
use Rattle.sia_rules.specs.Sums.{fees_of}
use Rattle.sia_rules.specs.Values.{sum_too_large}
use Rattle.sia_ledger.proofs.heads.fees_of_all.Given as goal

abbrev pub invariant-loop-t : goal.invariant-loop-t
invariant-loop-t l = record {
  judged : first_at sum_too_large 0 l.txs ≡ first_at sum_too_large l.t (drop l.t l.txs);
  sum : l.fees ≡ fitting (sum_by fees_of (take l.t l.txs));
}
