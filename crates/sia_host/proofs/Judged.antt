-- What a judgement says, told back.
use Rattle.std.proofs.Common.{◌≡◌, Option, Some, None, Ok, Err, refl}
use Rattle.sia_encoding.specs.Answer.{unless}

-- a judgement that says a fault has it
pub fault_said : {F : Type 0} (fault : Option F) (f : F) → unless fault ≡ Err f → Some f ≡ fault
fault_said None f is = (cc)
fault_said (Some other) f is = (cc)

-- a judgement that says nothing has none
pub nothing_said : {F : Type 0} (fault : Option F) → unless fault ≡ Ok tt → None ≡ fault
nothing_said None is = refl
nothing_said (Some other) is = (cc)
