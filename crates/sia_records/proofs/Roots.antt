-- The roots of a contract's sectors after changes.
use Rattle.std.proofs.Common.{◌≡◌, ℕ, ◌-◌, List, [], ◌∷◌, length, map, slice_set, slice_index_or, refl, sym, ap, ◌∙◌}
use Rattle.std.proofs.Math.ListN.{get_or-map}
use Rattle.std.proofs.lemmas.List.{map-append, length-map, take-map, map-set}
use Rattle.sia_diff.specs.DiffSteps.{after, after_step}
use Rattle.sia_records.specs.declared.change.Change.{Change}
use Rattle.sia_records.specs.declared.change.Change.TheVariants as changes
use Rattle.sia_records.specs.Stored.{Stored, no_sector, stored_after, stored_after_one, step_of}

-- the roots of sectors
abbrev roots_of : List Stored → List (List ℕ)
roots_of sectors = map (λ sector. sector.root) sectors

-- after one change
roots_after_one : (sectors : List Stored) (one : Change) → roots_of (stored_after_one sectors one) ≡ after_step (roots_of sectors) (step_of one)
roots_after_one sectors (changes.Append root slot) = map-append (λ sector. sector.root) sectors (record { root = root; slot = slot } ∷ [])
roots_after_one sectors (changes.Trim fewer) =
    rw (length-map sectors (λ (sector : Stored). sector.root)) (sym (take-map (λ (sector : Stored). sector.root) (length sectors - fewer) sectors))
roots_after_one sectors (changes.Swap one other) =
    let there = get_or-map (λ (sector : Stored). sector.root) sectors one no_sector in
    let here = get_or-map (λ (sector : Stored). sector.root) sectors other no_sector in
    map-set (λ (sector : Stored). sector.root) (slice_set sectors one (slice_index_or sectors other no_sector)) other (slice_index_or sectors one no_sector)
    ∙ (rw (map-set (λ (sector : Stored). sector.root) sectors one (slice_index_or sectors other no_sector), ← there, ← here) refl)
roots_after_one sectors (changes.Set place root slot) = map-set (λ (sector : Stored). sector.root) sectors place (record { root = root; slot = slot })

-- after all
pub roots_after : (sectors : List Stored) (all : List Change) → roots_of (stored_after sectors all) ≡ after (roots_of sectors) (map step_of all)
unfolding stored_after after
roots_after sectors [] = refl
roots_after sectors (one ∷ others) = roots_after (stored_after_one sectors one) others ∙ ap (λ roots. after roots (map step_of others)) (roots_after_one sectors one)
