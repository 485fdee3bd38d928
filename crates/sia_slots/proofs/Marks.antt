-- A shelf whose marks say which slots are live.
use Rattle.std.proofs.Common.{◌≡◌, ◌∙◌, ℕ, suc, ◌+◌, ◌<◌, Bool, true, false, if◌then◌else◌, List, [], ◌∷◌, length, refl, ap, arith, add-zero}
use Rattle.std.specs.List.{filter, range_with_len}
use Rattle.sia_shelf.specs.declared.mark.Mark.{Mark}
use Rattle.sia_shelf.specs.declared.mark.Mark.TheVariants as mark
use Rattle.sia_shelf.specs.Shelf.{free_from, free_slots, mark_of}
use Rattle.sia_kept.specs.State.{is_free_slot}
use Rattle.sia_slots.specs.Slots.{free_below}

-- the mark of a slot that is free, or isn't
abbrev marked : Bool → Mark
marked free = if free then mark.Free else mark.Live

-- one slot more
marked_by : (live : List ℕ) (m : Mark) (ms : List Mark) (first : ℕ) (b : Bool) → is_free_slot live first ≡ b → m ≡ marked b → free_from (first + 1) ms ≡ filter (is_free_slot live) (range_with_len (first + 1) (length ms))
    → free_from first (m ∷ ms) ≡ filter (is_free_slot live) (range_with_len first (suc (length ms)))
marked_by live m ms first true is at later = rw (at, is) (ap (λ xs. first ∷ xs) later)
marked_by live m ms first false is at later = rw (at, is) later

marks_from : (live : List ℕ) (marks : List Mark) (first : ℕ) → ((slot : ℕ) → slot < length marks → mark_of marks slot ≡ marked (is_free_slot live (first + slot)))
    → free_from first marks ≡ filter (is_free_slot live) (range_with_len first (length marks))
marks_from live [] first each = refl
marks_from live (m ∷ ms) first each =
    let here : m ≡ marked (is_free_slot live first) = each 0 (omega arith) ∙ ap (λ n. marked (is_free_slot live n)) (add-zero first) in
    let rest : (slot : ℕ) → slot < length ms → mark_of ms slot ≡ marked (is_free_slot live (first + 1 + slot)) =
    λ slot below. let up : first + suc slot ≡ first + 1 + slot = omega arith in each (suc slot) (omega (arith, below)) ∙ ap (λ n. marked (is_free_slot live n)) up in
    marked_by live m ms first (is_free_slot live first) refl here (marks_from live ms (first + 1) rest)

pub marks_free : (live : List ℕ) (marks : List Mark) → ((slot : ℕ) → slot < length marks → mark_of marks slot ≡ marked (is_free_slot live slot)) → free_slots marks ≡ free_below (length marks) live
marks_free live marks each =
    marks_from live marks 0 (λ slot below. let same : slot ≡ 0 + slot = omega arith in each slot below ∙ ap (λ n. marked (is_free_slot live n)) same)
