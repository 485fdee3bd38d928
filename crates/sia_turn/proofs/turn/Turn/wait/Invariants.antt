-- The pass waits with its ticket, and knows what it knew.
use Rattle.std.proofs.Common.{◌≡◌, ℕ, ◌%◌, ◌^◌, []}
use Rattle.sia_turn.specs.Views.{waiting}
use Rattle.sia_turn.proofs.turn.Turn.wait.Given as goal

abbrev pub invariant-loop : goal.invariant-loop
invariant-loop g l = (l.seat.table_id ≡ l.fn.seat.table_id) × ((t : ℕ) × (l.seat.me ≡ (waiting t l.fn.seat.me.0, [])) × (l.ticket ≡ t % 2 ^ 64))
