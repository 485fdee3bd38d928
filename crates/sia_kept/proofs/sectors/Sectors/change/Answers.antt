-- There is room for each change, and each fits.
use Rattle.std.proofs.Common.{◌≡◌, ◌∙◌, true, ap, arith, length, map}
use Rattle.std.proofs.lemmas.List.{length-map}
use Rattle.sia_diff.specs.DiffSteps.{is_fit}
use Rattle.sia_diff.proofs.Fit.{fit_count, fit_done}
use Rattle.sia_records.specs.Stored.{Stored, step_of}
use Rattle.sia_kept.proofs.Changed.{fit_for}
use Rattle.sia_kept.proofs.sectors.Sectors.change.Goals as goal

pub overflow_sub-count : goal.overflow_sub-count
overflow_sub-count c = omega (arith, c.count.ensures, fit_count _ _ c.requires)

pub reserve-requires-2 : goal.reserve-requires-2
reserve-requires-2 c =
    let fits : is_fit (length c.self.inside.stored.items) (map step_of c.args.changes.now) ≡ true = rw (← c.self.view_is) at c.requires in
    omega (arith, c.count.ensures, c.min-room.ensures, ap length c.self.invariant, length-map c.self.inside.stored.items (λ (sector : Stored). sector.root), fit_count _ _ fits, ap length c.self.view_is)

pub do_uncounted-requires-clause-fits : goal.do_uncounted-requires-clause-fits
do_uncounted-requires-clause-fits c =
    let fits : is_fit (length c.self.inside.stored.items) (map step_of c.args.changes.now) ≡ true = rw (← c.self.view_is) at c.requires in
    ap (λ items. fit_for (length items) (map step_of c.args.changes.now)) c.in_ok-reserve.ensures.items ∙ fit_done _ _ fits
