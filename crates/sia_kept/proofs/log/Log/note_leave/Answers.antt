-- The live sessions are those without the one that leaves, and those before it are kept.
use Rattle.std.proofs.Common.{◌≡◌, ◌∙◌, ◌+◌, ◌*◌, ◌<◌, ◌≤◌, false, length, IsSome, vec_len, vec_capacity, subst, sym, ap, arith}
use Rattle.sia_kept.specs.Logs.{room_back}
use Rattle.sia_kept.specs.Sessions.{live_sessions, with_number}
use Rattle.sia_kept.proofs.Events.{earlier_more, left, live_by_some, room_one, room_same, uncounted}
use Rattle.sia_kept.proofs.log.Log.note_leave.Goals as goal

pub invariant_of-self : goal.invariant_of-self
invariant_of-self c =
    let kept = c.self.invariant in
    let live : IsSome (with_number c.args.event.session (live_sessions c.self.inside.seed c.self.inside.events.items)) = rw (← c.self.view_is) at c.requires.live in
    let found : IsSome (with_number c.args.event.session c.self.inside.sessions.items) = rw kept.0 live in
    let less : vec_len c.end.new.sessions < vec_len c.self.inside.sessions = c.end.ensures.fewer found in
    let some : 0 < length c.self.inside.events.items = live_by_some c.self.inside.seed c.self.inside.events.items c.args.event.session live in
    let many : 0 < length c.push.new.self.items = omega (arith, c.push.new.self.ok.0, c.in-Ok.ensures.len) in (
      left c.self.inside.seed _ _ _ _ _ kept.0 c.requires.ends c.end.ensures.items c.in-Ok.ensures.items,
      uncounted _ _ _ _ kept.1 c.requires.ends c.in-Ok.ensures.items,
      omega (arith, kept.2, less, room_same c.self.inside.events.items c.push.new.self.items c.self.inside.spoiled some many, c.in-Ok.ensures.len, c.in-Ok.ensures.capacity),
      omega (arith, kept.3, less, c.end.ensures.capacity),
      omega (arith, kept.4, less, c.copy_sessions.ensures.capacity),
      omega (arith, kept.3, ap length c.copy_sessions.ensures.items, c.end.ensures.capacity),
      (λ whole. (
        c.copy_sessions.ensures.items ∙ kept.0 ∙ ap (λ es. live_sessions c.self.inside.seed es) (sym (earlier_more _ _ _ c.in-Ok.ensures.items)),
        omega (arith, kept.2, ap (λ b. room_back c.self.inside.events.items b) whole, room_one c.self.inside.events.items some, ap length c.copy_sessions.ensures.items, c.in-Ok.ensures.len, c.in-Ok.ensures.capacity),
      )),
    )
