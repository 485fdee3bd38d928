use Rattle.std.proofs.Common.{subst, sym, List, ℕ}
use Rattle.sia_merkle.specs.Pieces.{AreGroups}
use Rattle.sia_merkle.proofs.WholeGroups.{groups_more}
use Rattle.sia_merkle.proofs.pieces.PieceStack.push.Goals as goal

pub invariant_of-self : goal.invariant_of-self
invariant_of-self c = subst (λ (bytes : List ℕ). AreGroups c.push_parts.new.groups bytes) (sym c.note.ensures) (groups_more _ _ _ c.args.piece.now c.self.invariant c.requires.whole c.push_parts.ensures)
