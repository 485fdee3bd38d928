-- The sessions are those before the last event, and the event in its place does nothing to them.
use Rattle.std.proofs.Common.{◌≡◌, ◌∙◌, ◌+◌, ◌++◌, [], ◌∷◌, false, count_by, sym, ap, vec_len, vec_capacity, refl, arith}
use Rattle.std.specs.Prelude.{ℕ}
use Rattle.sia_kept.specs.Logs.{earlier}
use Rattle.sia_kept.specs.Sessions.{begins, live_sessions}
use Rattle.sia_kept.proofs.Events.{counted, earlier_more, live_stays, stays_uncounted}
use Rattle.sia_kept.proofs.log.Log.spoil.Goals as goal

pub invariant_of-self : goal.invariant_of-self
invariant_of-self c =
    let kept = c.self.invariant in
    let once : c.self.inside.spoiled ≡ false = rw (← c.self.view_is) at c.requires.once in
    let back = kept.6 once in
    let popped : earlier c.self.inside.events.items ≡ c.pop.new.self.items = earlier_more _ _ _ c.in-Some.ensures.items in
    let sum : count_by begins c.pop.new.self.items + c.begun.result ≡ count_by begins c.self.inside.events.items = counted _ _ _ _ _ refl c.begun.ensures c.in-Some.ensures.items in
    let same : count_by begins c.pop.new.self.items ≡ count_by begins c.push.new.self.items = stays_uncounted _ _ _ _ refl c.requires.stays c.in-Ok.ensures.items in (
      ap (λ v. v.items) c.swap.ensures.x_after ∙ back.0 ∙ ap (λ es. live_sessions c.self.inside.seed es) popped ∙ live_stays c.self.inside.seed _ _ _ c.requires.stays c.in-Ok.ensures.items,
      omega (arith, sum, same, kept.1),
      omega (arith, back.1, ap vec_len c.swap.ensures.x_after, c.in-Some.ensures.len, c.in-Some.ensures.capacity, c.in-Ok.ensures.len, c.in-Ok.ensures.capacity),
      omega (arith, c.swap.new.x.ok.1),
      omega (arith, kept.5, ap vec_len c.swap.ensures.x_after, ap vec_capacity c.swap.ensures.y_after),
      omega (arith, kept.4, ap vec_len c.swap.ensures.y_after, ap vec_capacity c.swap.ensures.x_after),
      (λ never. (cc)),
    )
