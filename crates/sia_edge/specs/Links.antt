-- The links of a door: what an accept takes of those to come, what giving back adds to those given back, and when an accept may
-- answer that it failed.
use Rattle.std.specs.Prelude.{◌≡◌, ℕ, ◌+◌, ◌-◌, ◌≤◌, List, [], ◌∷◌, ◌++◌, Option, None, Some}
use Rattle.sia_edge.specs.Edge.{Rose}
use Rattle.sia_edge.specs.declared.door.Next.{Next}
use Rattle.sia_edge.specs.declared.door.Next.TheVariants as next

-- the links of a door
pub record Links (L : Type 0) : Type 0 where
  pub coming : List L  -- those to come, in order
  pub returned : List L  -- those given back, in order
  pub out : ℕ  -- how many have come and weren't given back

-- Link(l): l was the first of those to come, and is out. Closed comes only where none is to come.
abbrev pub Accepts : {L : Type 0} → Option (Links L) → Option (Links L) → Next L → Type 0
Accepts None new result = new ≡ None
Accepts (Some old) new (next.Link link) = (rest : List _) × (old.coming ≡ link ∷ rest) × (new ≡ Some (record { coming = rest; returned = old.returned; out = old.out + 1 }))
Accepts (Some old) new next.Closed = (old.coming ≡ []) × (new ≡ Some old)
Accepts (Some old) new next.Failed = new ≡ Some old

-- The link stands behind those given back, and is no longer out.
abbrev pub GivesBack : {L : Type 0} → Option (Links L) → Option (Links L) → L → Type 0
GivesBack None new link = new ≡ None
GivesBack (Some old) new link = new ≡ Some (record { coming = old.coming; returned = old.returned ++ link ∷ []; out = old.out - 1 })

-- The count doesn't fall, and where the accept failed it rose.
pub record AcceptCause {L : Type 0} (before now : ℕ) (result : Next L) : Type 0 where
  pub later : before ≤ now
  pub failed : result ≡ next.Failed → Rose before now
