use Rattle.std.proofs.Common.{◌≡◌, List, OnOk, Result, Ok, Err, map, sym, subst}
use Rattle.sia_shelf.specs.declared.mark.Mark.{Mark}
use Rattle.sia_shelf.specs.declared.fault.ShelfFault.{ShelfFault}
use Rattle.sia_shelf.specs.Shelf.{settled}
use Rattle.sia_commands.specs.declared.step.PutJob.{PutJob}
use Rattle.sia_store.specs.Lying.{MarksPut, put_slots}
use Rattle.sia_store.proofs.Marking.{marks_put, put_free}
use Rattle.sia_store.proofs.putting.put_all.Goals as goal

pub returns-clause-free : goal.returns-clause-free
returns-clause-free g c = put_free c.first_free_may_be_put.ensures c.args.puts.now c.args.shelf.now.marks c.requires.slots

pub returns-in_err-put_each-clause-free : goal.returns-in_err-put_each-clause-free
returns-in_err-put_each-clause-free g c = put_free c.first_free_may_be_put.ensures c.args.puts.now c.args.shelf.now.marks c.requires.slots

marks_after : (old new : List Mark) (puts : List PutJob) (begin : List Mark) (result : Result (Unit {0}) ShelfFault) → MarksPut (put_slots puts) begin (map settled old)
    → OnOk result (new ≡ map settled old) → OnOk result (MarksPut (put_slots puts) begin new)
marks_after old new puts begin (Ok done) put is = subst (MarksPut (put_slots puts) begin) (sym is) put
marks_after old new puts begin (Err why) put is = tt

pub returns-clause-marks : goal.returns-clause-marks
returns-clause-marks g c =
    marks_after c.put_each.new.shelf.marks c.sync.new.self.marks c.args.puts.now c.args.shelf.now.marks c.sync.result
    (marks_put c.args.shelf.now.marks c.put_each.new.shelf.marks c.args.puts.now c.put_each.ensures.count c.in_ok-put_each.ensures.marked c.in_ok-put_each.ensures.others) c.sync.ensures.marked
