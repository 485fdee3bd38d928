-- What each step tells the pass that makes it. A step finds a number in a word; `before` and `after` are the seat before
-- and after it: the pass's view, and the slots that it has out, by their numbers. Its public source is the ticket lock
-- (Mellor-Crummey and Scott 1991).
use Rattle.std.specs.Prelude.{◌≡◌, ◌≢◌, ℕ, ◌%◌, ◌^◌, ◌≤◌, List, [], ◌∷◌, length, Option, None, Some}
use Rattle.atomic_table.specs.Table.{Me, Step}
use Rattle.sia_turn.specs.declared.view.Stage.TheVariants.{Waiting}
use Rattle.sia_turn.specs.declared.view.View.{View}
use Rattle.sia_turn.specs.Entries.{StartsWith, StandAt, IsEachOnce}
use Rattle.sia_turn.specs.Views.{waiting, entered, gone}

module _ {T E : Type 0} where
  -- a ticket was drawn, which the word shows modulo 2 ^ 64
  abbrev pub Draws : Step (Option T) → Me (Option T) (View E) → ℕ → Me (Option T) (View E) → Type 0
  Draws step before found after = (ticket : ℕ) × (after ≡ (waiting ticket before.0, before.1)) × (found ≡ ticket % 2 ^ 64)

  -- the slot was taken with its value, which stands for a list that begins with what was seen and has the own entries at their positions
  abbrev pub Takes : (T → List E → Type 0) → ℕ → Me (Option T) (View E) → Me (Option T) (View E) → Type 0
  Takes stands ticket before after =
      (value : T) × (log : List E) × (after ≡ (entered ticket log before.0, (0, Some value) ∷ before.1)) × stands value log × StartsWith log before.0.seen × StandAt log before.0.own

  -- where the number found is the ticket's the slot was taken, and else nothing changed
  abbrev pub Looks : (T → List E → Type 0) → Step (Option T) → Me (Option T) (View E) → ℕ → Me (Option T) (View E) → Type 0
  Looks stands step before found after = (ticket : ℕ) → before.0.stage ≡ Waiting ticket → (found ≡ ticket % 2 ^ 64 → Takes stands ticket before after) × (found ≢ ticket % 2 ^ 64 → after ≡ before)

  -- the empty slot was taken, before the first value is put in
  abbrev pub Begins : Step (Option T) → Me (Option T) (View E) → ℕ → Me (Option T) (View E) → Type 0
  Begins step before found after = (ticket : ℕ) × (after ≡ (entered ticket before.0.seen before.0, (0, None) ∷ before.1))

  -- the slot was given back, with these entries added
  abbrev pub GivesBack : List E → Step (Option T) → Me (Option T) (View E) → ℕ → Me (Option T) (View E) → Type 0
  GivesBack added step before found after = (after.0 ≡ gone added before.0) × (after.1 ≡ [])

  -- the longer seen list begins with the shorter, and no position of the own entries stands twice
  abbrev pub Meets : Step (Option T) → Me (Option T) (View E) → ℕ → Me (Option T) (View E) → Type 0
  Meets step before found after = (after ≡ before) × (length before.0.other ≤ length before.0.seen → StartsWith before.0.seen before.0.other) × IsEachOnce before.0.own

  -- the pass waits with a ticket, which the word shows as this number
  abbrev pub IsWaiting : ℕ → Me (Option T) (View E) → Type 0
  IsWaiting shown me = (ticket : ℕ) × (me.0.stage ≡ Waiting ticket) × (shown ≡ ticket % 2 ^ 64) × (me.1 ≡ [])

  -- the caller has the value, which stands for a list that begins with what was seen and has the own entries at their positions
  abbrev pub Enters : (T → List E → Type 0) → T → Me (Option T) (View E) → Me (Option T) (View E) → Type 0
  Enters stands value before after =
      (ticket : ℕ) × (log : List E) × (after ≡ (entered ticket log before.0, (0, None) ∷ [])) × stands value log × StartsWith log before.0.seen × StandAt log before.0.own
