-- What a call answered, beside what a definition says of it. Nothing of Sia stands here: it is how our contracts speak of a
-- `Result` whose errors are the definition's, and want of memory.
use Rattle.std.specs.Prelude.{◌≡◌, Option, Some, None, IfSome, Result, Ok, Err}

-- a step, and then another with its value; the first error ends them
infixl 10 ◌>>=◌
abbrev pub ◌>>=◌ : {A B E : Type 0} → Result A E → (A → Result B E) → Result B E
Ok x >>= next = next x
Err e >>= next = Err e

-- The answer is what is said: the value, seen through `view`, is the value said; and where `told` names an error, that is the
-- error said. An error that `told` names nothing for, as want of memory, says nothing.
abbrev pub Answers : {X A E F : Type 0} → (X → A) → (E → Option F) → Result X E → Result A F → Type 0
Answers view told (Ok x) said = said ≡ Ok (view x)
Answers view told (Err e) said = IfSome (told e) (λ fault. said ≡ Err fault)

-- each error is told as it is
abbrev pub itself : {E : Type 0} → E → Option E
itself e = Some e

-- what a judgement says: its fault, or nothing where it has none
abbrev pub unless : {F : Type 0} → Option F → Result (Unit {0}) F
unless None = Ok tt
unless (Some fault) = Err fault
