use Rattle.sia_slots.proofs.Marks.{marks_free}
use Rattle.sia_slots.proofs.laws.marks_are_free.Goals as goal

pub returns : goal.returns
returns c = marks_free
