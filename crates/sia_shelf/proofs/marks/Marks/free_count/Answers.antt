use Rattle.std.proofs.Common.{sym, ◌∙◌}
use Rattle.sia_shelf.proofs.Finding.{length-free}
use Rattle.sia_shelf.proofs.marks.Marks.free_count.Goals as goal

pub returns : goal.returns
returns c = rw (← c.self.view_is) (c.self.invariant.counted ∙ sym (length-free 0 c.self.inside.marks.items))
