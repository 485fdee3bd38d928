use Rattle.std.proofs.Common.{◌≡◌, ◌≤◌, ◌++◌, ℕ, drop, length, take}
use Rattle.std.specs.Ordering.{nat_cmp}
use Rattle.sia_ledger.specs.Blocks.{ending}
use Rattle.sia_ledger.specs.Cataloged.{ends_of}
use Rattle.sia_ledger.specs.Chained.{last_keyed}
use Rattle.sia_ledger.proofs.Places.{left_of}
use Rattle.sia_ledger.proofs.ending.ending_of.Given as goal

abbrev pub invariant-loop-next : goal.invariant-loop-next
invariant-loop-next l = (n : ℕ) × (n ≤ length l.kept) × (l.next ≡ last_keyed nat_cmp l.height (take n (ends_of l.kept))) × (l.ids.items ≡ ending l.height (drop n l.kept ++ l.fresh))

abbrev pub decreases-loop-next : goal.decreases-loop-next
decreases-loop-next l = left_of l.next
