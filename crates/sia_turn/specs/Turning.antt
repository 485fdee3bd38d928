-- The rule of a turn: a ticket lock (Mellor-Crummey and Scott 1991). Word 0 counts the tickets that were drawn, word 1 those that were served, each modulo 2 ^ 64. The one slot has the value, or is out with the pass that is served.
use Rattle.std.specs.Prelude.{◌≡◌, ℕ, ◌+◌, ◌%◌, ◌^◌, ◌<◌, ◌≤◌, List, [], ◌∷◌, length, Option, None, Some, slice_get, Contains}
use mathlib.Core.Option.{Option as Maybe, none, some}
use lib.ListN.{get_elem?}
use Rattle.atomic_table.specs.Table.{State}
use Rattle.sia_turn.specs.declared.view.Stage.{Stage}
use Rattle.sia_turn.specs.declared.view.Stage.TheVariants.{Outside, Waiting, Inside, Opening}
use Rattle.sia_turn.specs.declared.view.View.{View}
use Rattle.sia_turn.specs.Entries.{StartsWith, IsEachOnce}

-- the sum of a measure over a list
abbrev pub total : {A : Type 0} → (A → ℕ) → List A → ℕ
total measure [] = 0
total measure (item ∷ items) = measure item + total measure items

-- the ticket that is out in this stage
abbrev pub ticket : Stage → Maybe ℕ
ticket Outside = none
ticket (Waiting drawn) = some drawn
ticket (Inside drawn) = some drawn
ticket (Opening drawn) = some drawn

-- how many tickets are out in this stage
abbrev pub tickets : Stage → ℕ
tickets Outside = 0
tickets (Waiting drawn) = 1
tickets (Inside drawn) = 1
tickets (Opening drawn) = 1

-- the pass in this stage has taken the value
abbrev pub HasValue : Stage → Type 0
HasValue stage = (drawn : ℕ) × (stage ≡ Inside drawn)

-- the pass in this stage may put the first value in
abbrev pub IsOpening : Stage → Type 0
IsOpening stage = (drawn : ℕ) × (stage ≡ Opening drawn)

module _ {E : Type 0} where
  -- how many tickets a pass has out
  abbrev pub out : View E → ℕ
  out view = tickets view.stage

  -- how many seats a pass stands for: those of the passes gathered in it, and those that it may still split off
  abbrev pub seats_of : View E → ℕ
  seats_of view = view.parts + view.rest

  -- a ticket waits for its turn, or is served now, and then its pass has seen all
  abbrev pub InTurn : List E → ℕ → ℕ → List E → Stage → Type 0
  InTurn log drawn served seen Outside = Unit {0}
  InTurn log drawn served seen (Waiting mine) = (served ≤ mine) × (mine < drawn)
  InTurn log drawn served seen (Inside mine) = (mine ≡ served) × (mine < drawn) × (seen ≡ log)
  InTurn log drawn served seen (Opening mine) = (mine ≡ served) × (mine < drawn) × (seen ≡ log)

  -- what is so of the pass in a seat, where `owner` says whose each position of the list is
  pub record IsKnown (log : List E) (owner : ℕ → ℕ) (drawn served seat : ℕ) (view : View E) : Type 0 where
    pub seen : StartsWith log view.seen
    pub other : StartsWith log view.other
    pub own : (position : ℕ) (entry : E) → Contains view.own (position, entry) → (slice_get log position ≡ Some entry) × (owner position ≡ seat)
    pub all : (position : ℕ) (entry : E) → slice_get log position ≡ Some entry → owner position ≡ seat → Contains view.own (position, entry)
    pub once : IsEachOnce view.own
    pub turn : InTurn log drawn served view.seen view.stage
    pub light : out view ≤ view.parts
    pub spent : view.parts ≡ 0 → (view.own ≡ []) × (view.rest ≡ 0)

  -- no two passes have one ticket
  abbrev pub AreApart : List (View E) → Type 0
  AreApart views =
      (seat other : ℕ) (view view' : View E) (mine : ℕ) → get_elem? views seat ≡ some view → get_elem? views other ≡ some view' → ticket view.stage ≡ some mine → ticket view'.stage ≡ some mine
      → seat ≡ other

  -- a pass is in such a stage
  abbrev pub SomeIs : (Stage → Type 0) → List (View E) → Type 0
  SomeIs Is views = (seat : ℕ) × (view : View E) × (get_elem? views seat ≡ some view) × Is view.stage

  -- the slot is out with the pass that is inside, or is empty before the first value is put in, or has a value that stands for the list
  abbrev pub IsSlot : {T : Type 0} → (T → List E → Type 0) → List E → List (View E) → Maybe (Option T) → Type 0
  IsSlot stands log views none = SomeIs HasValue views
  IsSlot stands log views (some None) = SomeIs IsOpening views
  IsSlot stands log views (some (Some value)) = stands value log × ((seat : ℕ) (view : View E) → get_elem? views seat ≡ some view → IsOpening view.stage → ⊥)

-- What each step keeps of the table. There is a list of entries, and each position has an owner, a seat; so many tickets
-- were drawn and served, which the words show; and the slot is as the stages of the passes say.
pub record Turning {T E : Type 0} (stands : T → List E → Type 0) (seats : ℕ) (table : State (Option T) (View E)) : Type 0 where
  pub log : List E
  -- whose each position is
  pub owner : ℕ → ℕ
  pub drawn : ℕ
  pub served : ℕ
  -- the slot, or nothing where a pass has it out
  pub home : Maybe (Option T)
  pub words : table.words ≡ drawn % 2 ^ 64 ∷ served % 2 ^ 64 ∷ []
  pub homes : table.homes ≡ home ∷ []
  -- the tickets that are out are those between the two counts
  pub between : served + total out table.views ≡ drawn
  -- no seat is lost, and they are few enough that words which are equal show one ticket
  pub few : total seats_of table.views ≡ seats
  pub most : seats ≤ 66
  -- each owner is a seat
  pub within : (position : ℕ) (entry : E) → slice_get log position ≡ Some entry → owner position < length table.views
  pub known : (seat : ℕ) (view : View E) → get_elem? table.views seat ≡ some view → IsKnown log owner drawn served seat view
  pub apart : AreApart table.views
  pub slot : IsSlot stands log table.views home
