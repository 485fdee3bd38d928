use Rattle.std.proofs.Common.{◌++◌, ◌∙◌, ap}
use Rattle.sia_merkle.specs.Roots.{leaves_of, root_of}
use Rattle.sia_merkle.proofs.WholeGroups.{groups_root}
use Rattle.sia_merkle.proofs.pieces.PieceStack.root.Goals as goal

pub returns : goal.returns
returns c = c.root.ensures ∙ groups_root _ _ _ c.args.last.now c.self.invariant c.push_parts.ensures ∙ ap (λ front. root_of (leaves_of (front ++ c.args.last.now))) c.self.view_is
