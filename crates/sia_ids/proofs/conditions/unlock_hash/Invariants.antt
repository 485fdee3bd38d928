use Rattle.std.proofs.Common.{◌≡◌, ◌∷◌, take, map}
use Rattle.sia_encoding.specs.Spelling.{spelled_u64}
use Rattle.sia_merkle.specs.Roots.{leaf_digest}
use Rattle.sia_types.specs.Conditions.{public_key}
use Rattle.sia_ids.proofs.conditions.unlock_hash.Given as goal

abbrev pub invariant-loop-key : goal.invariant-loop-key
invariant-loop-key l = l.stack ≡ leaf_digest (spelled_u64 l.conditions.timelock) ∷ map leaf_digest (map public_key.spelled (take l.key-index l.conditions.keys))
