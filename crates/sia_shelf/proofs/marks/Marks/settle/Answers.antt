use Rattle.std.proofs.Common.{◌≡◌, ◌∙◌, map}
use Rattle.sia_shelf.proofs.Tallying.{settled_part, settled_tallied}
use Rattle.sia_shelf.specs.Shelf.{settled}
use Rattle.sia_shelf.proofs.marks.Marks.settle.Goals as goal

pub invariant_of-self : goal.invariant_of-self
invariant_of-self c =
    let all : c.settle_part.new.marks.items ≡ map settled c.self.inside.marks.items =
    c.settle_part.ensures ∙ settled_part c.self.inside.free c.self.inside.low c.self.inside.from c.self.inside.to c.self.inside.marks.items c.self.invariant in
    rw all (settled_tallied c.self.inside.free c.self.inside.low c.self.inside.from c.self.inside.to c.self.inside.marks.items c.self.invariant)

pub returns : goal.returns
returns c = rw (← c.self.view_is) (c.settle_part.ensures ∙ settled_part c.self.inside.free c.self.inside.low c.self.inside.from c.self.inside.to c.self.inside.marks.items c.self.invariant)
