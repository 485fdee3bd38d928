-- A step that is answered by a reaction, as one by a relation.
use Rattle.std.proofs.Common.{◌≡◌, Result, Ok, Err, IfOk, refl}
use Rattle.sia_commands.specs.declared.step.Step.{Step}
use Rattle.sia_host.specs.Answered.{Gives, Host, IsReaction, Reaction}

-- it is answered by just this one
pub given : {E : Type 0} (h : Host) (a : Reaction) (result : Result Step E) (after : Host) → IfOk result (λ step. IsReaction h a step after) → IfOk result (λ step. Gives (λ b. b ≡ a) h step after)
given h a (Ok step) after is = (a, refl, is)
given h a (Err e) after is = tt

-- it is answered by one that is so
pub given_so : {E : Type 0} (Answers : Reaction → Type 0) (h : Host) (a : Reaction) (result : Result Step E) (after : Host) → Answers a → IfOk result (λ step. IsReaction h a step after) → IfOk result (λ step. Gives Answers h step after)
given_so Answers h a (Ok step) after so is = (a, so, is)
given_so Answers h a (Err e) after so is = tt
