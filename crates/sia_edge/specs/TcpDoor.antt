-- How many links a door over TCP has still to serve.
use Rattle.std.specs.Prelude.{◌≡◌, ℕ, ◌+◌}
use Rattle.sia_edge.specs.declared.door.Next.{Next}
use Rattle.sia_edge.specs.declared.door.Next.TheVariants as next

-- A link that comes in is one fewer to serve, and the door is closed where none is left. A failed accept leaves the number.
abbrev pub Serves : {L : Type 0} → ℕ → ℕ → Next L → Type 0
Serves before now (next.Link link) = before ≡ now + 1
Serves before now next.Closed = (before ≡ 0) × (now ≡ 0)
Serves before now next.Failed = now ≡ before
