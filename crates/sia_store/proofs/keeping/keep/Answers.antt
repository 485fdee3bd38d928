use Rattle.std.proofs.Common.{arith, ◌≡◌, ℕ, List, sym, ◌∙◌}
use Rattle.std.specs.List.{Contains}
use Rattle.sia_edge.proofs.Runs.{weaken}
use Rattle.sia_shelf.specs.declared.mark.Mark.{Mark}
use Rattle.sia_shelf.specs.declared.mark.Mark.TheVariants as mark
use Rattle.sia_shelf.specs.Shelf.{mark_of}
use Rattle.sia_store.specs.Lying.{AreLive, put_slots}
use Rattle.sia_store.proofs.Pairing.{lists_held, untouched, appended, after}
use Rattle.sia_store.proofs.keeping.keep.Goals as goal

-- live slots are apart from free ones
apart : (marks : List Mark) (old put : List ℕ) → AreLive marks old → ((slot : ℕ) → Contains put slot → mark_of marks slot ≡ mark.Free) → (slot : ℕ) → Contains old slot → Contains put slot → ⊥
apart marks old put live free slot one other = let clash : mark.Live ≡ mark.Free = sym (live slot one) ∙ free slot other in cc

pub returns-in_default-clause-pairs : goal.returns-in_default-clause-pairs
returns-in_default-clause-pairs g c = λ told_journal told_shelf header lies records old new stands live from.
    untouched c.args.shelf.now.sector lies c.args.puts.now old new (apart c.args.shelf.now.marks old (put_slots c.args.puts.now) live c.put_all.ensures.free) from
    header c.args.journal.now.limit records c.args.framed.now stands.has c.put_all.ensures.changes (g.J.Disk.standing c.args.journal.now.disk)
    (lists_held g.J.Disk.standing c.args.journal.now c.at_rest_lists.ensures c.requires.ready stands.holds)

pub returns-in-Ok-append-clause-pairs : goal.returns-in-Ok-append-clause-pairs
returns-in-Ok-append-clause-pairs g c = λ told_journal told_shelf header lies records old new stands live from.
    appended c.args.shelf.now.sector lies c.args.puts.now old new (apart c.args.shelf.now.marks old (put_slots c.args.puts.now) live c.put_all.ensures.free) from
    header c.args.journal.now.limit records c.args.framed.now stands.has c.put_all.ensures.changes (c.in-Ok.ensures.kept told_shelf)
    (lists_held g.J.Disk.standing c.args.journal.now c.at_rest_lists.ensures c.requires.ready stands.holds)
    (weaken (c.append.ensures.images told_journal header records stands.holds) (λ file. c.mid_append_lists.ensures header c.args.journal.now.limit records c.args.framed.now file stands.holds.sized (omega (arith, c.requires.ready.bounded))))

pub returns-in-Err-clause-pairs : goal.returns-in-Err-clause-pairs
returns-in-Err-clause-pairs g c = λ told_journal told_shelf header lies records old new stands live from.
    appended c.args.shelf.now.sector lies c.args.puts.now old new (apart c.args.shelf.now.marks old (put_slots c.args.puts.now) live c.put_all.ensures.free) from
    header c.args.journal.now.limit records c.args.framed.now stands.has c.put_all.ensures.changes (c.in-Ok.ensures.kept told_shelf)
    (lists_held g.J.Disk.standing c.args.journal.now c.at_rest_lists.ensures c.requires.ready stands.holds)
    (weaken (c.append.ensures.images told_journal header records stands.holds) (λ file. c.mid_append_lists.ensures header c.args.journal.now.limit records c.args.framed.now file stands.holds.sized (omega (arith, c.requires.ready.bounded))))

pub returns-in-Ok-append-clause-kept : goal.returns-in-Ok-append-clause-kept
returns-in-Ok-append-clause-kept g c = λ told_journal told_shelf header lies records old new stands live from. record {
  holds = c.in-Ok-append.ensures.kept told_journal header records stands.holds;
  has = after c.args.shelf.now.sector lies c.args.puts.now old new (apart c.args.shelf.now.marks old (put_slots c.args.puts.now) live c.put_all.ensures.free) from
      header c.args.journal.now.limit records c.args.framed.now stands.has c.put_all.ensures.changes (c.in-Ok.ensures.kept told_shelf);
}
