use Rattle.std.proofs.Common.{◌≡◌, true, sym}
use Rattle.sia_records.specs.Fitting.{actions_fit}
use Rattle.sia_records.proofs.Preparing.{none_prepared, some_prepared}
use Rattle.sia_records.proofs.write.PreparedWrite.fits.Goals as goal

pub returns-in-None : goal.returns-in-None
returns-in-None c = none_prepared _ _ _ _ _ c.in-None.is c.self.invariant c.self.view_is

pub returns-then-actions_fit : goal.returns-then-actions_fit
returns-then-actions_fit c =
    let fit : actions_fit c.args.sector c.self.inside.request.actions ≡ true = rw (← c.as_slice.ensures) (sym c.if-actions_fit.ensures) in
    some_prepared _ _ _ _ _ _ _ c.in-Some.is c.self.invariant c.self.view_is (rw (fit, ← c.as_slice-then-actions_fit.ensures) c.are_whole.ensures)

pub returns-else-actions_fit : goal.returns-else-actions_fit
returns-else-actions_fit c =
    let fit = rw c.as_slice.ensures at c.if-actions_fit.ensures in
    some_prepared _ _ _ _ _ _ _ c.in-Some.is c.self.invariant c.self.view_is (rw (← fit) c.if-actions_fit.false)
