use Rattle.std.proofs.Common.{◌≡◌, ◌++◌, ◌==◌, map, take, drop, if◌then◌else◌, vec_len, vec_capacity}
use Rattle.sia_kept.specs.Sessions.{session_changed}
use Rattle.sia_kept.proofs.log.change.Given as goal

abbrev pub invariant-loop-i : goal.invariant-loop-i
invariant-loop-i l = record {
  items : l.sessions.items ≡ map (λ s. if s.number == l.number then session_changed l.effect l.challenge l.contract s else s) (take l.i l.fn.sessions.items) ++ drop l.i l.fn.sessions.items;
  capacity : vec_capacity l.sessions ≡ vec_capacity l.fn.sessions;
  len : vec_len l.sessions ≡ vec_len l.fn.sessions;
}
