use Rattle.sia_ledger.proofs.Twice.{judges_twice}
use Rattle.sia_ledger.proofs.ledger.Ledger.judge.Goals as goal

pub judge-requires-clause-bounded : goal.judge-requires-clause-bounded
judge-requires-clause-bounded g c = rw c.base.ensures.state (c.base.ensures.within c.args.block.now)

pub returns-clause-twice : goal.returns-clause-twice
returns-clause-twice g c =
    rw (← c.self.view_is)
    (judges_twice g.C.SigCheck.verdict c.judge.result _ _ _ _ c.args.block.now c.self.invariant c.know.ensures
    (rw (c.base.ensures.state, ← c.self.view_is) at c.judge.ensures.judged))
