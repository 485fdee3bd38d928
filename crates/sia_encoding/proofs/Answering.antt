-- What an answer says of what is said, and how an error is handed on.
use Rattle.std.proofs.Common.{◌≡◌, Option, Some, None, IfSome, Result, Ok, Err, refl, subst}
use Rattle.sia_encoding.specs.Answer.{Answers, unless}

-- what is said under one name is said under another
if_some_so : {F : Type 0} (name : Option F) (P Q : F → Type 0) → ((fault : F) → P fault → Q fault) → IfSome name P → IfSome name Q
if_some_so None P Q so said = tt
if_some_so (Some fault) P Q so said = so fault said

-- a value is what is said
pub answer_ok : {X A E F : Type 0} (view : X → A) (told : E → Option F) (result : Result X E) (said : Result A F) (x : X) → result ≡ Ok x → Answers view told result said → said ≡ Ok (view x)
answer_ok view told result said x is answers = subst (λ r. Answers view told r said) is answers

-- an error that is told is what is said
pub answer_err : {X A E F : Type 0} (view : X → A) (told : E → Option F) (result : Result X E) (said : Result A F) (e : E) (fault : F) → result ≡ Err e → told e ≡ Some fault → Answers view told result said → said ≡ Err fault
answer_err view told result said e fault is named answers =
    subst (λ name. IfSome name (λ fault. said ≡ Err fault)) named (subst (λ r. Answers view told r said) is answers)

-- `?` hands an error on, where the whole's error is the step's
pub handed_on : {A B E F : Type 0} (told : E → Option F) (e : E) (step : Result A F) (whole : Result B F) → ((fault : F) → step ≡ Err fault → whole ≡ Err fault) → IfSome (told e) (λ fault. step ≡ Err fault) → IfSome (told e) (λ fault. whole ≡ Err fault)
handed_on told e step whole on answers = if_some_so (told e) _ _ on answers

-- a judgement that has no fault, and one that has
pub unless_ok : {F : Type 0} (judgement : Option F) → unless judgement ≡ Ok tt → judgement ≡ None
unless_ok None said = refl
unless_ok (Some fault) said = cc

pub unless_err : {F : Type 0} (judgement : Option F) (fault : F) → unless judgement ≡ Err fault → judgement ≡ Some fault
unless_err None fault said = cc
unless_err (Some other) fault said = cc
