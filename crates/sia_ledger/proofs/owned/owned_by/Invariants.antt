use Rattle.std.proofs.Common.{◌≡◌, ◌≤◌, ℕ, drop, length, take}
use Rattle.std.specs.Ordering.{nat_cmp}
use Rattle.std.specs.Cmp.Lexicographic.{slice_cmp}
use Rattle.sia_ledger.specs.Cataloged.{addresses_of}
use Rattle.sia_ledger.specs.Chained.{last_keyed}
use Rattle.sia_ledger.specs.Holdings.{live_coins_at}
use Rattle.sia_ledger.proofs.Places.{left_of}
use Rattle.sia_ledger.proofs.owned.owned_by.Given as goal

abbrev pub invariant-loop-next : goal.invariant-loop-next
invariant-loop-next l = (n : ℕ) × (n ≤ length l.catalog) × (l.next ≡ last_keyed (slice_cmp nat_cmp) l.address (take n (addresses_of l.catalog))) × (l.coins.items ≡ live_coins_at (drop n l.catalog) l.address)

abbrev pub decreases-loop-next : goal.decreases-loop-next
decreases-loop-next l = left_of l.next
