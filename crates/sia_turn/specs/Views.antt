-- What a pass knows, and what each step of the ticket lock (Mellor-Crummey and Scott 1991) makes of it.
use Rattle.std.specs.Prelude.{◌≡◌, ℕ, ◌+◌, ◌-◌, ◌<◌, ◌⊎◌, Bool, true, false, if◌then◌else◌, List, [], ◌∷◌, ◌++◌, length, nat_le, Option, None}
use Rattle.atomic_table.specs.Seated.{TableId}
use Rattle.atomic_table.specs.Table.{Me}
use Rattle.sia_turn.specs.declared.view.Stage.{Stage}
use Rattle.sia_turn.specs.declared.view.Stage.TheVariants.{Outside, Waiting, Inside, Opening}
use Rattle.sia_turn.specs.declared.view.View.{View}
use Rattle.sia_turn.specs.Entries.{numbered}
use Rattle.sia_turn.specs.Tokens.{Token}

-- the pass in this stage has the value
abbrev pub is_inside : Stage → Bool
is_inside (Inside ticket) = true
is_inside Outside = false
is_inside (Waiting ticket) = false
is_inside (Opening ticket) = false

module _ {E : Type 0} where
  -- what a contract sees of a pass of this turn
  abbrev pub token : TableId → View E → Token E
  token turn pass = record { turn = turn; inside = is_inside pass.stage; seen = pass.seen; own = pass.own; parts = pass.parts; rest = pass.rest }

  -- the view of its six parts
  abbrev pub view : Stage → List E → List E → List (ℕ × E) → ℕ → ℕ → View E
  view stage seen other own parts rest = record { stage = stage; seen = seen; other = other; own = own; parts = parts; rest = rest }

  -- the first pass, before the value is put in
  abbrev pub first_view : ℕ → View E
  first_view seats = view (Opening 0) [] [] [] 1 (seats - 1)

  -- with a ticket
  abbrev pub waiting : ℕ → View E → View E
  waiting ticket pass = view (Waiting ticket) pass.seen pass.other pass.own pass.parts pass.rest

  -- inside, with the whole list seen
  abbrev pub entered : ℕ → List E → View E → View E
  entered ticket log pass = view (Inside ticket) log pass.other pass.own pass.parts pass.rest

  -- outside again, with these entries added
  abbrev pub gone : List E → View E → View E
  gone added pass = view Outside (pass.seen ++ added) pass.other (pass.own ++ numbered (length pass.seen) added) pass.parts pass.rest

  -- what is left after another was split off
  abbrev pub lender : View E → View E
  lender pass = view pass.stage pass.seen pass.other pass.own pass.parts (pass.rest - 1)

  -- the one that is split off: it has seen as much, and has no entries
  abbrev pub newcomer : View E → View E
  newcomer pass = view Outside pass.seen [] [] 1 0

  -- the longer of two lists; the first of two of one length
  abbrev pub longer : List E → List E → List E
  longer one another = if nat_le (length another) (length one) then one else another

  -- the other of the two
  abbrev pub shorter : List E → List E → List E
  shorter one another = if nat_le (length another) (length one) then another else one

  -- two in one
  abbrev pub joined : View E → View E → View E
  joined pass other = view pass.stage (longer pass.seen other.seen) (shorter pass.seen other.seen) (pass.own ++ other.own) (pass.parts + other.parts) (pass.rest + other.rest)

  -- what is left of the second
  abbrev pub spent : View E
  spent = view Outside [] [] [] 0 0

  module _ {T : Type 0} where
    -- it has no slot out
    abbrev pub IsOutside : Me (Option T) (View E) → Type 0
    IsOutside me = (me.0.stage ≡ Outside) × (me.1 ≡ [])

    -- it has the slot, which is empty: the caller has the value
    abbrev pub IsInside : Me (Option T) (View E) → Type 0
    IsInside me = (ticket : ℕ) × (me.0.stage ≡ Inside ticket) × (me.1 ≡ (0, None) ∷ [])

    -- a pass between two calls
    abbrev pub IsHeld : Me (Option T) (View E) → Type 0
    IsHeld me = (0 < me.0.parts) × (IsOutside me ⊎ IsInside me)
