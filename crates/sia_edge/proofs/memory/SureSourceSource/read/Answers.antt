use Rattle.std.proofs.Common.{◌≡◌, sym, ◌∙◌, ap, drop}
use Rattle.sia_edge.proofs.Serving.{served}
use Rattle.sia_edge.proofs.memory.SureSourceSource.read.Goals as goal

-- What was copied is the front of what was left.
pub returns-clause-bytes : goal.returns-clause-bytes
returns-clause-bytes c =
    let left : c.split_at.result.1.now ≡ c.args.self.now = c.split_at.ensures.back ∙ ap (drop c.self.inside.at) c.as_slice.ensures ∙ c.self.view_is in
    rw c.got_of.ensures (served c.self.inside.bytes c.copy_front-count.new.buffer c.args.self.now c.self.inside.at _ _
    (sym c.self.view_is) (rw (← left) c.copy_front-count.ensures.count) c.requires (rw (← left) c.copy_front-count.ensures.copied))
