use Rattle.std.proofs.Common.{sym}
use Rattle.sia_ledger.proofs.Bounds.{block_bounded, kept_bounded}
use Rattle.sia_ledger.proofs.Grown.{kept_count}
use Rattle.sia_ledger.proofs.Totals.{kept_facts, kept_ids, kept_totals}
use Rattle.sia_ledger.proofs.ledger.Ledger.base.Goals as goal

pub returns-clause-state : goal.returns-clause-state
returns-clause-state c = rw (c.new.ensures, c.as_slice.ensures, ← c.self.view_is) (sym c.self.invariant.state)

pub returns-clause-ids : goal.returns-clause-ids
returns-clause-ids c = rw (c.new.ensures, c.as_slice.ensures, ← c.self.view_is) (kept_ids _ _ _ _ c.self.invariant)

pub returns-clause-next : goal.returns-clause-next
returns-clause-next c = rw (c.new.ensures, c.as_slice.ensures, ← c.self.view_is) (kept_count _ _ _ _ c.self.invariant)

pub returns-clause-low : goal.returns-clause-low
returns-clause-low c = rw (← c.self.view_is) c.self.invariant.low

pub returns-clause-rested : goal.returns-clause-rested
returns-clause-rested c = rw (← c.self.view_is) c.self.invariant.rested

pub returns-clause-bounded : goal.returns-clause-bounded
returns-clause-bounded c = rw (← c.self.view_is) (rw c.self.invariant.state (kept_bounded _ _ _ _ c.self.invariant))

pub returns-clause-within : goal.returns-clause-within
returns-clause-within c = λ block. rw (← c.self.view_is) (rw c.self.invariant.state (block_bounded _ _ _ _ block c.self.invariant))

pub returns-clause-totals : goal.returns-clause-totals
returns-clause-totals c = rw (← c.self.view_is) (rw (← kept_facts _ _ _ _ c.self.invariant) (kept_totals _ _ _ _ c.self.invariant))

pub returns-clause-sound : goal.returns-clause-sound
returns-clause-sound c = rw (← c.self.view_is) c.self.invariant.sound
