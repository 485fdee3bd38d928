-- The touched places of fit steps, as a list and as a test.
use Rattle.std.proofs.Common.{◌≡◌, ℕ, ◌<◌, true, false, List, length, get_or, refl, sym, ◌∙◌, ap, arith, zero-add}
use Rattle.std.proofs.Math.Path.{fun_ext}
use Rattle.std.specs.Prelude.{Bool, ◌&&◌, nat_le, nat_eq}
use Rattle.std.specs.List.{range_with_len, list_any, filter}
use Rattle.std.proofs.lemmas.Bool.{leb-false}
use Rattle.std.proofs.lemmas.Bool.Decides.{nat_tests}
use Rattle.std.proofs.lemmas.List.Folds.{list_any_at}
use Rattle.std.proofs.lemmas.List.FromFn.{length-range_with_len, get_or-range_with_len}
use Rattle.std.proofs.lemmas.Map.Views.{any-filter_same}
use Rattle.std.proofs.Math.Bool.{and-true}
use Rattle.sia_diff.specs.declared.steps.DiffStep.{DiffStep}
use Rattle.sia_diff.specs.Chosen.{ArePlaces, is_listed, is_chosen}
use Rattle.sia_diff.specs.Diffs.{touched_or_new}
use Rattle.sia_diff.specs.DiffSteps.{is_touched, touched_places}
use Rattle.sia_diff.proofs.Below.{row_within}
use Rattle.sia_diff.proofs.Counts.{filter_row}

same_place : (place other : ℕ) → nat_eq place other ≡ true → other ≡ place
same_place place other e = grind (arith, nat_tests)

own_place : (place : ℕ) → nat_eq place place ≡ true
own_place place = grind (arith, nat_tests)

in_row : (place len : ℕ) → place < len → list_any (nat_eq place) (range_with_len 0 len) ≡ true
in_row place len within =
    let at : get_or (range_with_len 0 len) place 0 ≡ place = get_or-range_with_len 0 len place 0 within ∙ zero-add place in
    list_any_at (nat_eq place) (range_with_len 0 len) place 0 (omega (arith, length-range_with_len 0 len)) (ap (nat_eq place) at ∙ own_place place)

listed_same : (test : ℕ → Bool) (old place : ℕ) → place < old → is_listed (filter test (range_with_len 0 old)) place ≡ test place
listed_same test old place within =
    any-filter_same (nat_eq place) test (test place) (λ other e. ap test (same_place place other e)) (range_with_len 0 old) ∙ ap (λ b. test place && b) (in_row place old within) ∙ and-true (test place)

pub are_places : (old : ℕ) (steps : List DiffStep) (touched : List ℕ) → touched ≡ touched_places old steps → ArePlaces old touched
unfolding touched_places
are_places old steps touched is =
    is ∙ filter_row (is_touched old steps) (is_listed touched) 0 old
    (λ place from to. sym (ap (λ places. is_listed places place) is ∙ listed_same (is_touched old steps) old place (omega arith)))

chosen_by : (old : ℕ) (steps : List DiffStep) (touched : List ℕ) (place : ℕ) → touched ≡ touched_places old steps → (new : Bool) → nat_le old place ≡ new → is_chosen old touched place ≡ touched_or_new old steps place
unfolding is_chosen touched_places
chosen_by old steps touched place is true e = rw e refl
chosen_by old steps touched place is false e = rw e (ap (λ places. is_listed places place) is ∙ listed_same (is_touched old steps) old place (leb-false _ _ e))

-- the chosen places are those of the definition
pub chosen_is : (old : ℕ) (steps : List DiffStep) (touched : List ℕ) → touched ≡ touched_places old steps → is_chosen old touched ≡ touched_or_new old steps
chosen_is old steps touched is = fun_ext (λ place. chosen_by old steps touched place is (nat_le old place) refl)

pub touched_below : (old : ℕ) (steps : List DiffStep) (k d : ℕ) → k < length (touched_places old steps) → get_or (touched_places old steps) k d < old
unfolding touched_places
touched_below old steps k d within = let at = row_within (is_touched old steps) 0 old k d within in omega arith
