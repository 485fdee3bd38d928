use Rattle.std.proofs.Common.{ℕ, ◌+◌, List, ap, length, ◌∙◌}
use Rattle.sia_journal.proofs.Frames.{body_size}
use Rattle.sia_journal.proofs.record.RecordBuf.size.Goals as goal

pub returns-clause-exact : goal.returns-clause-exact
returns-clause-exact c = ap length c.as_slice.ensures ∙ body_size _ _ c.self.invariant ∙ ap (λ (p : List ℕ). 9 + length p) c.self.view_is
