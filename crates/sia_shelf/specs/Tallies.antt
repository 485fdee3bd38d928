-- What a shelf keeps of its marks, so that no call has to go over all of them: this product's own book-keeping.
use Rattle.std.specs.Prelude.{◌≡◌, ℕ, ◌<◌, ◌≤◌, List, length, count_by}
use Rattle.sia_shelf.specs.declared.mark.Mark.{Mark}
use Rattle.sia_shelf.specs.declared.mark.Mark.TheVariants as mark
use Rattle.sia_shelf.specs.Shelf.{is_free, mark_of, LowerTaken}

-- `free` slots are free, none below `low`, and the slots that were put since the last sync lie from `from` to before `to`.
pub record Tallies (free low from to : ℕ) (marks : List Mark) : Type 0 where
  pub counted : free ≡ count_by is_free marks
  pub low_within : low ≤ length marks
  pub lower : LowerTaken marks low
  pub from_within : from ≤ to
  pub to_within : to ≤ length marks
  pub puts : (slot : ℕ) → mark_of marks slot ≡ mark.Put → (from ≤ slot) × (slot < to)
