use Rattle.std.proofs.Common.{◌≤◌, length, sym, subst}
use Rattle.sia_edge.specs.Disk.{Torn}
use Rattle.sia_edge.specs.Event as event
use Rattle.sia_edge.specs.EventLog.{start_of, events_of}
use Rattle.sia_edge.specs.MemDisk.{DiskState}
use Rattle.sia_edge.proofs.Tears.{torn_none}
use Rattle.sia_edge.proofs.MemImages.{state, still_image, logged_changes, torn_of}
use Rattle.sia_edge.proofs.mem_disk.MemDiskDisk.write_at.Goals as goal

-- the disk before and after
abbrev old : goal.After-write_begun → DiskState
old c = state c.self.inside.bytes.items (start_of c.self.inside.event_log) (events_of c.self.inside.event_log) c.self.inside.plan

abbrev new : goal.After-write_begun → DiskState
new c = state c.write_begun.new.bytes.items (start_of c.note_write.new.self) (events_of c.note_write.new.self) c.write_begun.new.plan

-- the write is one of what a crash may leave of it
written : (c : goal.After-write_begun) → Torn c.args.at (length c.args.bytes.now) c.self.inside.bytes.items c.write_begun.new.bytes.items
written c =
    let inside : c.args.at ≤ length c.self.inside.bytes.items = subst (λ disk. c.args.at ≤ length disk.bytes) (sym c.self.view_is) c.requires in
    torn_of c.write_begun.result _ _ _ _ inside c.write_begun.ensures.bytes

pub invariant_of-self : goal.invariant_of-self
invariant_of-self c =
    rw (c.note_write.ensures.start, c.note_write.ensures.events) (still_image (start_of c.self.inside.event_log) (events_of c.self.inside.event_log) (event.Wrote c.args.at (length c.args.bytes.now)) c.write_begun.new.bytes.items
    (c.self.inside.bytes.items, c.self.invariant, written c))

pub returns-clause-changes : goal.returns-clause-changes
returns-clause-changes c =
    rw (← c.self.view_is) (logged_changes (old c) (new c) (event.Wrote c.args.at (length c.args.bytes.now)) c.note_write.ensures.start c.note_write.ensures.events c.write_begun.ensures.later c.self.invariant
    (Torn c.args.at (length c.args.bytes.now)) (torn_none c.args.at (length c.args.bytes.now)) (written c) (λ d image. image))
