-- Lists of entries, and entries with their positions. A list only grows, as a log does (Lamport 1978: each event has
-- one position, and what came before it stays).
use Rattle.std.specs.Prelude.{◌≡◌, ◌≢◌, ℕ, suc, List, [], ◌∷◌, ◌++◌, Some, slice_get, Contains, AllPairs}

module _ {E : Type 0} where
  -- the list begins with what was seen
  abbrev pub StartsWith : List E → List E → Type 0
  StartsWith log seen = (more : List E) × (log ≡ seen ++ more)

  -- the entries with their positions, counted from that of the first
  abbrev pub numbered : ℕ → List E → List (ℕ × E)
  numbered position [] = []
  numbered position (entry ∷ entries) = (position, entry) ∷ numbered (suc position) entries

  -- each of these entries stands in the list, at its position
  abbrev pub StandAt : List E → List (ℕ × E) → Type 0
  StandAt log own = (position : ℕ) (entry : E) → Contains own (position, entry) → slice_get log position ≡ Some entry

  -- each entry of the list is among these, with its position
  abbrev pub Covers : List (ℕ × E) → List E → Type 0
  Covers own log = (position : ℕ) (entry : E) → slice_get log position ≡ Some entry → Contains own (position, entry)

  -- no position stands in both
  abbrev pub AreDisjoint : List (ℕ × E) → List (ℕ × E) → Type 0
  AreDisjoint own others = (position : ℕ) (entry other : E) → Contains own (position, entry) → Contains others (position, other) → ⊥

  -- no position stands twice
  abbrev pub IsEachOnce : List (ℕ × E) → Type 0
  IsEachOnce own = AllPairs (λ earlier later. earlier.0 ≢ later.0) own

  -- the value stands for a list that begins with what was seen, and these are all its entries, each once and at its position
  pub record OwnsAll {T : Type 0} (stands : T → List E → Type 0) (value : T) (seen : List E) (own : List (ℕ × E)) : Type 0 where
    pub log : List E
    pub stands_for : stands value log
    pub begins : StartsWith log seen
    pub placed : StandAt log own
    pub covered : Covers own log
    pub once : IsEachOnce own
