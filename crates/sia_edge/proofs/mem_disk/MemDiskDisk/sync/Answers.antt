use Rattle.std.proofs.Common.{refl}
use Rattle.sia_edge.specs.Event as event
use Rattle.sia_edge.specs.EventLog.{start_of, events_of}
use Rattle.sia_edge.specs.MemDisk.{DiskState}
use Rattle.sia_edge.proofs.MemImages.{state, still_image, synced_only, synced_quiet}
use Rattle.sia_edge.proofs.mem_disk.MemDiskDisk.sync.Goals as goal

-- the disk before and after
abbrev old : goal.After-note_sync → DiskState
old c = state c.self.inside.bytes.items (start_of c.self.inside.event_log) (events_of c.self.inside.event_log) c.self.inside.plan

abbrev new : goal.After-note_sync → DiskState
new c = state c.self.inside.bytes.items (start_of c.note_sync.new.self) (events_of c.note_sync.new.self) c.count_call.new.self

pub invariant_of-self-2 : goal.invariant_of-self-2
invariant_of-self-2 c =
    rw (c.note_sync.ensures.start, c.note_sync.ensures.events) (still_image (start_of c.self.inside.event_log) (events_of c.self.inside.event_log) (event.Synced c.self.inside.bytes.items) c.self.inside.bytes.items refl)

pub returns-clause-settled : goal.returns-clause-settled
returns-clause-settled c = synced_only (old c) (new c) c.note_sync.ensures.start c.note_sync.ensures.events refl c.count_call.ensures.later

pub returns-clause-quiet : goal.returns-clause-quiet
returns-clause-quiet c = rw (← c.self.view_is) (synced_quiet (old c) (new c) c.note_sync.ensures.start c.note_sync.ensures.events refl c.count_call.ensures.later c.self.invariant)
