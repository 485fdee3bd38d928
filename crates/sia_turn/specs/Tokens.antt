-- What a contract sees of a turn and of a pass. A pass is a permission in the sense of concurrent separation logic
-- (O'Hearn 2007): who has it knows what no other thread can undo.
use Rattle.std.specs.Prelude.{◌≡◌, ℕ, ◌+◌, Bool, false, List, [], ◌∷◌, ◌++◌, map, sum_by, Contains, All, AllPairs}
use Rattle.sia_turn.specs.Entries.{StartsWith, AreDisjoint}
pub use Rattle.atomic_table.specs.Seated.{TableId}

-- which turn it is, and how many seats it has
pub record Place : Type 0 where
  pub turn : TableId
  pub seats : ℕ

-- which turn the pass belongs to, whether it is inside, the list that it has seen, its own entries with their positions, how many passes are gathered in it, and how many may still be split off it
pub record Token (E : Type 0) : Type 0 where
  pub turn : TableId
  pub inside : Bool
  pub seen : List E
  pub own : List (ℕ × E)
  pub parts : ℕ
  pub rest : ℕ

-- a pass of this turn that was split off, outside
abbrev pub IsWorker : {E : Type 0} → TableId → Token E → Type 0
IsWorker turn pass = (pass.turn ≡ turn) × (pass.inside ≡ false) × (pass.parts ≡ 1) × (pass.rest ≡ 0)

-- the own entries of passes, one pass after another
abbrev pub own_of_all : {E : Type 0} → List (Token E) → List (ℕ × E)
own_of_all [] = []
own_of_all (pass ∷ passes) = pass.own ++ own_of_all passes

-- What a pass is after it took others in: it has the own entries of all, where no position belonged to two of them; it
-- has seen the longest list that any of them saw; and parts and rests are added up.
pub record Gathers {E : Type 0} (before : Token E) (others : List (Token E)) (after : Token E) : Type 0 where
  pub turn : after.turn ≡ before.turn
  pub inside : after.inside ≡ false
  pub own : after.own ≡ before.own ++ own_of_all others
  pub disjoint : AllPairs (λ p q. AreDisjoint p.own q.own) (before ∷ others)
  pub longest : Contains (map (λ p. p.seen) (before ∷ others)) after.seen
  pub seen : All (λ p. StartsWith after.seen p.seen) (before ∷ others)
  pub parts : after.parts ≡ before.parts + sum_by (λ p. p.parts) others
  pub rest : after.rest ≡ before.rest + sum_by (λ p. p.rest) others
