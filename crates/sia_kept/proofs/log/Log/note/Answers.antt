-- The live sessions are those after one event more, and those before it are kept.
use Rattle.std.proofs.Common.{◌≡◌, ◌∙◌, ◌≤◌, false, length, sym, ap, arith}
use Rattle.std.proofs.lemmas.Grind.{common_steps}
use Rattle.sia_kept.specs.Sessions.{live_sessions}
use Rattle.sia_kept.proofs.Events.{counted, earlier_more, noted, room_few}
use Rattle.sia_kept.proofs.log.Log.note.Goals as goal

pub invariant_of-self : goal.invariant_of-self
invariant_of-self c =
    let kept = c.self.invariant in
    let place : c.len-place.result ≡ length c.self.inside.events.items = omega (arith, c.len-place.ensures, c.self.inside.events.ok.0) in
    let spare : 1 ≤ c.self.inside.spare = rw (← c.self.view_is) at c.requires in (
      noted c.self.inside.seed _ _ _ _ _ _ kept.0 place c.follow.ensures.items c.in-Ok.ensures.items,
      counted _ _ _ _ _ kept.1 c.begun.ensures c.in-Ok.ensures.items,
      omega (arith, kept.2, spare, room_few c.push.new.self.items c.self.inside.spoiled, c.in-Ok.ensures.len, c.in-Ok.ensures.capacity, c.follow.ensures.more),
      omega (arith, kept.3, spare, c.follow.ensures.more, c.follow.ensures.capacity),
      omega (arith, kept.4, spare, c.follow.ensures.more, c.copy_sessions.ensures.capacity),
      omega (arith, kept.3, ap length c.copy_sessions.ensures.items, c.follow.ensures.capacity),
      (λ whole. (c.copy_sessions.ensures.items ∙ kept.0 ∙ ap (λ es. live_sessions c.self.inside.seed es) (sym (earlier_more _ _ _ c.in-Ok.ensures.items)), omega (arith, kept.2, spare, ap length c.copy_sessions.ensures.items, c.in-Ok.ensures.len, c.in-Ok.ensures.capacity))),
    )
