use Rattle.std.proofs.Common.{◌≡◌, ℕ, ◌+◌, ◌*◌, List, ◌++◌, take}
use Rattle.sia_blake.specs.Absorbing.{IsAbsorbed, IsPassed}
use Rattle.sia_blake.proofs.state.HashState.update.Given as goal

abbrev pub invariant-blocks-2 : goal.invariant-blocks-2
invariant-blocks-2 l = record {
  taken : l.self.taken ≡ l.fn.self.taken + 128 * (1 + l.i);
  passed : (m : List ℕ) → IsAbsorbed l.fn.self m → IsPassed l.self (m ++ take (l.room + 128 * l.i) l.bytes);
}
