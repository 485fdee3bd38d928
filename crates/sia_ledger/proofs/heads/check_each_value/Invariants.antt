use Rattle.std.proofs.Common.{◌≡◌, drop}
use Rattle.sia_encoding.specs.Firsts.{first_at}
use Rattle.sia_rules.specs.Values.{bad_value}
use Rattle.sia_ledger.proofs.heads.check_each_value.Given as goal

abbrev pub invariant-loop-t : goal.invariant-loop-t
invariant-loop-t l = first_at bad_value 0 l.txs ≡ first_at bad_value l.t (drop l.t l.txs)
