use Rattle.std.proofs.Common.{refl}
use Rattle.sia_ledger.proofs.Chaining.{chained_none, chained_key}
use Rattle.sia_ledger.proofs.chains.Chains.push.Goals as goal

pub returns-in_default-clause-pushed : goal.returns-in_default-clause-pushed
returns-in_default-clause-pushed g c = λ keys is. rw c.in_default.is (chained_none g.K.Ord.cmp c.args.self.now (record { lasts = c.args.self.now.lasts; links = c.push.new.self }) keys refl c.in_ok-push.ensures.ok is)

pub returns-in-Ok-clause-pushed : goal.returns-in-Ok-clause-pushed
returns-in-Ok-clause-pushed g c = λ keys is. rw c.in-Some.is (chained_key g.K.Ord.cmp c.args.self.now (record { lasts = c.insert.new.self; links = c.push-2.new.self }) keys c.in-Some.key c.len-place.result c.len-place.ensures (rw (← c.get.ensures.value, ← c.copied-before.ensures) c.in_ok-push-2.ensures.ok) c.in-Ok.ensures.updates.0 is)
