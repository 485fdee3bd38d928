use Rattle.sia_edge.specs.Disk.{Shortened}
use Rattle.sia_edge.specs.Event as event
use Rattle.sia_edge.specs.EventLog.{start_of, events_of}
use Rattle.sia_edge.specs.MemDisk.{DiskState}
use Rattle.sia_edge.proofs.Tears.{shortened_none}
use Rattle.sia_edge.proofs.MemImages.{state, still_image, logged_changes, shortened_of}
use Rattle.sia_edge.proofs.mem_disk.MemDiskDisk.cut.Goals as goal

-- the disk before and after
abbrev old : goal.After-cut_begun → DiskState
old c = state c.self.inside.bytes.items (start_of c.self.inside.event_log) (events_of c.self.inside.event_log) c.self.inside.plan

abbrev new : goal.After-cut_begun → DiskState
new c = state c.cut_begun.new.bytes.items (start_of c.note_cut.new.self) (events_of c.note_cut.new.self) c.cut_begun.new.plan

-- the cut is one of what a crash may leave of it
shortened : (c : goal.After-cut_begun) → Shortened c.args.len c.self.inside.bytes.items c.cut_begun.new.bytes.items
shortened c = shortened_of c.cut_begun.result _ _ _ c.cut_begun.ensures.bytes

pub invariant_of-self : goal.invariant_of-self
invariant_of-self c =
    rw (c.note_cut.ensures.start, c.note_cut.ensures.events) (still_image (start_of c.self.inside.event_log) (events_of c.self.inside.event_log) (event.Cut c.args.len) c.cut_begun.new.bytes.items
    (c.self.inside.bytes.items, c.self.invariant, shortened c))

pub returns-clause-changes : goal.returns-clause-changes
returns-clause-changes c =
    rw (← c.self.view_is) (logged_changes (old c) (new c) (event.Cut c.args.len) c.note_cut.ensures.start c.note_cut.ensures.events c.cut_begun.ensures.later c.self.invariant
    (Shortened c.args.len) (shortened_none c.args.len) (shortened c) (λ d image. image))
