use Rattle.std.proofs.Common.{◌*◌, ap, sym}
use Rattle.sia_shelf.proofs.Marking.{keeps_live}
use Rattle.sia_shelf.proofs.shelf.Shelf.put.Goals as goal

pub returns-in_err-write_slot-clause-live : goal.returns-in_err-write_slot-clause-live
returns-in_err-write_slot-clause-live g c =
    let size = rw (← c.self.view_is) at c.requires.size in
    let first = rw (← c.self.view_is) at c.requires.slot in
    rw (← c.self.view_is) (keeps_live _ c.args.slot _ c.args.bytes.now size first.free (c.write_slot.ensures.changes c.args.slot (ap (λ k. c.args.slot * k) (sym size))))

pub returns-clause-live : goal.returns-clause-live
returns-clause-live g c =
    let size = rw (← c.self.view_is) at c.requires.size in
    let first = rw (← c.self.view_is) at c.requires.slot in
    rw (← c.self.view_is) (keeps_live _ c.args.slot _ c.args.bytes.now size first.free (c.write_slot.ensures.changes c.args.slot (ap (λ k. c.args.slot * k) (sym size))))
