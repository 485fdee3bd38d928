-- A door in memory: its links, and which of its accepts fail.
use Rattle.std.specs.Prelude.{List, [], ◌∷◌}
use Rattle.sia_edge.specs.Links.{Links}
use Rattle.sia_edge.specs.declared.fault_plan.FaultPlan.{FaultPlan}
use Rattle.sia_edge.specs.declared.door.Next.{Next}
use Rattle.sia_edge.specs.declared.door.Next.TheVariants as next

-- a door in memory, as contracts see it
pub record DoorState (L : Type 0) : Type 0 where
  pub links : Links L
  pub plan : FaultPlan

-- what an accept that doesn't fail answers, with these links to come
abbrev pub first_of : {L : Type 0} → List L → Next L
first_of [] = next.Closed
first_of (link ∷ rest) = next.Link link
