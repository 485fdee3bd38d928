use Rattle.std.proofs.Common.{◌≡◌, true, false, refl}
use Rattle.sia_ledger.proofs.Chaining.{last_known, popped_key, popped_none, some_link}
use Rattle.sia_ledger.proofs.chains.Chains.pop.Goals as goal

false_true : false ≡ true → ⊥
false_true e = cc

pub returns-in_default : goal.returns-in_default
returns-in_default g c = λ keys is. absurd (false_true (c.in_default.ensures.found.1 (some_link g.K.Ord.cmp c.args.self.now keys c.args.key is)))

pub returns-in-Some-key : goal.returns-in-Some-key
returns-in-Some-key g c = λ keys is.
    let known = rw c.in-Some-key.is at is in
    popped_key g.K.Ord.cmp g.met.K.Ord.total c.args.self.now (record { lasts = c.set_back.new.lasts; links = c.pop.new.self }) keys c.in-Some-key.key c.in-Some.before c.in-Some.ensures.last (c.set_back.ensures (last_known g.K.Ord.cmp c.args.self.now keys c.in-Some-key.key g.met.K.Ord.total known)) known

pub returns-in_default-key : goal.returns-in_default-key
returns-in_default-key g c = λ keys is. popped_none g.K.Ord.cmp c.args.self.now (record { lasts = c.args.self.now.lasts; links = c.pop.new.self }) keys c.in-Some.before refl c.in-Some.ensures.last (rw c.in_default-key.is at is)
