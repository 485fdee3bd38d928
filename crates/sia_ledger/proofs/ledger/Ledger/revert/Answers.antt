use Rattle.sia_ledger.proofs.Grown.{kept_dropped}
use Rattle.sia_ledger.proofs.ledger.Ledger.revert.Goals as goal

pub invariant_of-self-in-Some : goal.invariant_of-self-in-Some
invariant_of-self-in-Some g c =
    rw c.drop_block.ensures.ids
    (kept_dropped _ _ _ _ _ _ _ _ _ _ c.self.invariant c.in-Some.ensures.last c.drop_block.ensures.facts c.drop_block.ensures.marks)
