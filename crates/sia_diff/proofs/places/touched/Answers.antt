use Rattle.std.proofs.Common.{◌≡◌, ◌∙◌, length, sym, ap, refl, arith, true, false, Some}
use Rattle.std.specs.List.{list_all, filter, range_with_len}
use Rattle.sia_diff.specs.Marks.{is_counted, is_counted_once}
use Rattle.sia_diff.specs.DiffSteps.{is_alone, touched_places}
use Rattle.sia_diff.proofs.Fit.{too_many, not_done, alone_all, not_alone, places_same, too_touched, all_fit}
use Rattle.sia_diff.proofs.places.touched.Goals as goal
use Rattle.sia_diff.proofs.places.touched.Goals.{then-n-gt-CONTRACT_SECTORS-via-then-n-gt-CONTRACT_SECTORS, then-n-gt-CONTRACT_SECTORS-via-else-n-gt-CONTRACT_SECTORS+then-not-each_fits}

pub returns-then-n-gt-CONTRACT_SECTORS : goal.returns-then-n-gt-CONTRACT_SECTORS
returns-then-n-gt-CONTRACT_SECTORS c =
    elim c.then-n-gt-CONTRACT_SECTORS.branch [
      | then-n-gt-CONTRACT_SECTORS-via-then-n-gt-CONTRACT_SECTORS w ↦ rw (too_many c.args.n c.args.steps.now w.if-n-gt-CONTRACT_SECTORS.true) refl
      | then-n-gt-CONTRACT_SECTORS-via-else-n-gt-CONTRACT_SECTORS+then-not-each_fits w ↦ rw (not_done c.args.n c.args.steps.now (sym w.each_fits.ensures ∙ w.if-not-each_fits.true)) refl
    ]

pub returns-then-not-are_sets_alone : goal.returns-then-not-are_sets_alone
returns-then-not-are_sets_alone c =
    let alone : list_all (is_alone c.args.n c.args.steps.now) c.args.steps.now ≡ false =
    sym (alone_all c.in_ok-counts.counts c.args.n c.args.steps.now c.in_ok-counts.ensures c.args.steps.now) ∙ ap (λ counts. list_all (is_counted_once counts) c.args.steps.now) (sym c.as_slice.ensures) ∙ sym c.are_sets_alone.ensures ∙ c.if-not-are_sets_alone.true in
    rw (not_alone c.args.n c.args.steps.now alone) refl

pub returns-then-len-gt-TOUCHED_PLACES : goal.returns-then-len-gt-TOUCHED_PLACES
returns-then-len-gt-TOUCHED_PLACES c =
    let places : c.in_ok-places.places ≡ touched_places c.args.n c.args.steps.now =
    c.in_ok-places.ensures ∙ ap (λ counts. filter (is_counted counts) (range_with_len 0 (length counts))) c.as_slice-2.ensures ∙ places_same c.in_ok-counts.counts c.args.n c.args.steps.now c.in_ok-counts.ensures in
    rw (too_touched c.args.n c.args.steps.now (omega (arith, c.len.ensures, ap length places))) refl

pub returns : goal.returns
returns c =
    let places : c.in_ok-places.places ≡ touched_places c.args.n c.args.steps.now =
    c.in_ok-places.ensures ∙ ap (λ counts. filter (is_counted counts) (range_with_len 0 (length counts))) c.as_slice-2.ensures ∙ places_same c.in_ok-counts.counts c.args.n c.args.steps.now c.in_ok-counts.ensures in
    let alone : list_all (is_alone c.args.n c.args.steps.now) c.args.steps.now ≡ true =
    sym (alone_all c.in_ok-counts.counts c.args.n c.args.steps.now c.in_ok-counts.ensures c.args.steps.now) ∙ ap (λ counts. list_all (is_counted_once counts) c.args.steps.now) (sym c.as_slice.ensures) ∙ sym c.are_sets_alone.ensures ∙ c.if-not-are_sets_alone.false in
    rw (all_fit c.args.n c.args.steps.now c.if-n-gt-CONTRACT_SECTORS.false (sym c.each_fits.ensures ∙ c.if-not-each_fits.false) alone (omega (arith, c.len.ensures, c.if-len-gt-TOUCHED_PLACES.false, ap length places))) (ap Some places)
