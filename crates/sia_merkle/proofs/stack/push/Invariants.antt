use Rattle.std.proofs.Common.{◌≡◌, ℕ, ◌+◌, ◌*◌, ◌^◌, ◌/◌, List, [], ◌∷◌, ◌++◌, length, drop}
use Rattle.sia_merkle.specs.Roots.{tree_root}
use Rattle.sia_merkle.specs.Stacked.{IsStacked}
use Rattle.sia_merkle.proofs.stack.push.Given as goal

abbrev pub invariant-loop-height : goal.invariant-loop-height
invariant-loop-height l =
    record {
      slots : l.slots ≡ l.fn.slots;
      rest : l.rest ≡ l.count / 2 ^ l.height;
      full : l.count + 1 ≡ (l.rest + 1) * 2 ^ l.height;
      carried : (hashes : List (List ℕ)) → length hashes ≡ l.count → IsStacked l.fn.slots hashes → l.carried ≡ tree_root l.height (drop (l.rest * 2 ^ l.height) (hashes ++ l.hash ∷ []));
    }
