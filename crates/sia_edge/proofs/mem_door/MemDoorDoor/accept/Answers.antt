use Rattle.std.proofs.Common.{◌≡◌, ◌+◌, ◌-◌, ◌<◌, ◌∷◌, ◌++◌, take, Some, arith, ap, sym, ◌∙◌}
use Rattle.std.specs.Option.{option_to_list}
use Rattle.sia_edge.proofs.Queues.{take_first, drop_first}
use Rattle.sia_edge.proofs.mem_door.MemDoorDoor.accept.Goals as goal

-- The link that left the queue is the first of those to come.
pub returns-clause-links : goal.returns-clause-links
returns-clause-links g c =
    let rest = c.pop_front.new.self.items in
    let is : c.self.inside.queue.items ≡ c.unwrap-link.result ∷ rest = c.pop_front.ensures.items ∙ ap (λ found. option_to_list found ++ rest) c.unwrap-link.ensures in
    let some : 0 < c.self.inside.coming = omega (arith, c.if-self-eq0.false) in (
      take (c.self.inside.coming - 1) rest,
      rw (← c.self.view_is) (take_first _ _ _ _ is some),
      rw (← c.self.view_is) (ap (λ returned. Some (record { coming = take (c.self.inside.coming - 1) rest; returned = returned; out = c.self.inside.out + 1 })) (sym (drop_first _ _ _ _ is some))),
    )
