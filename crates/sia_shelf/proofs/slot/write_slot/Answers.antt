use Rattle.sia_shelf.proofs.Tearing.{write_keeps_others, images_keep_others}
use Rattle.sia_shelf.proofs.slot.write_slot.Goals as goal

pub returns-clause-others : goal.returns-clause-others
returns-clause-others g c = λ told slot at.
    write_keeps_others slot c.args.place c.args.bytes.now at c.write_at.result _ _ c.requires.some c.requires.within (c.write_at.ensures.bytes told)

pub returns-clause-changes : goal.returns-clause-changes
returns-clause-changes g c = λ slot at. images_keep_others slot c.args.place c.args.bytes.now at c.requires.some c.write_at.ensures.changes
