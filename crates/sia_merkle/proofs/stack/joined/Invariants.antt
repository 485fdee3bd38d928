use Rattle.std.proofs.Common.{◌≡◌, ℕ, ◌*◌, ◌^◌, ◌/◌, List, length, drop}
use Rattle.sia_merkle.specs.Stacked.{IsStacked, IsRest}
use Rattle.sia_merkle.proofs.stack.joined.Given as goal

abbrev pub invariant-loop-slot : goal.invariant-loop-slot
invariant-loop-slot l =
    record {
      rest : l.rest ≡ l.count / 2 ^ l.slot-index;
      joined : (hashes : List (List ℕ)) → length hashes ≡ l.count → IsStacked l.slots hashes → IsRest l.root l.slot-index (drop (l.rest * 2 ^ l.slot-index) hashes);
    }
