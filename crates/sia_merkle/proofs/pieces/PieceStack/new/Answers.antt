use Rattle.std.proofs.Common.{subst, sym, [], List, ℕ}
use Rattle.sia_merkle.specs.Pieces.{AreGroups}
use Rattle.sia_merkle.proofs.WholeGroups.{no_groups}
use Rattle.sia_merkle.proofs.pieces.PieceStack.new.Goals as goal

pub invariant_of-result : goal.invariant_of-result
invariant_of-result c = subst (λ (roots : List (List ℕ)). AreGroups roots []) (sym c.new.ensures) no_groups
