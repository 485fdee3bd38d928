-- Messages: the bytes of a frame's body, all of them (RHP2; siad's modules/negotiate.go).
use Rattle.std.specs.Prelude.{◌≡◌, ℕ, zero, suc, ◌==◌, List, length, if◌then◌else◌, Option, None, Some, Result, Ok, Err, IfOk, MatchResult}
use Rattle.sia_encoding.specs.declared.fault.DecodeFault.{DecodeFault}
use Rattle.sia_encoding.specs.declared.fault.DecodeFault.TheVariants as fault
use Rattle.sia_encoding.specs.Answer.{Answers}
use Rattle.sia_encoding.specs.Reading.{Spot}
use Rattle.sia_encoding.specs.Codec.{Codec, spot}
use Rattle.sia_rhp.specs.declared.message_fault.MessageFault.{MessageFault}
use Rattle.sia_rhp.specs.declared.message_fault.MessageFault.TheVariants as wrong

-- What is wrong with a message whose reading has this fault. A kind at its front is its label.
abbrev pub wrong_by : DecodeFault → MessageFault
wrong_by (fault.Short at) = wrong.BadMessage at
wrong_by (fault.BadBool at) = wrong.BadMessage at
wrong_by (fault.BadKind zero) = wrong.UnknownRpc
wrong_by (fault.BadKind (suc at)) = wrong.BadMessage (suc at)
wrong_by (fault.BadCurrency at) = wrong.BadMessage at
wrong_by (fault.TooLong at) = wrong.BadMessage at
wrong_by (fault.Rest at) = wrong.BadMessage at
wrong_by fault.Memory = wrong.Memory

-- a value without a rest
abbrev pub whole : {A : Type 0} → Result (A × Spot) DecodeFault → Result A MessageFault
whole (Err e) = Err (wrong_by e)
whole (Ok taken) = if length taken.1.left == 0 then Ok taken.0 else Err (wrong.BadMessage taken.1.at)

-- the message that all the bytes spell, or the first thing that is wrong
abbrev pub message_in : {A : Type 0} → Codec A → List ℕ → ℕ → Result A MessageFault
message_in codec bytes limit = whole (codec.reading (spot 0 bytes limit))

-- each fault is told, but not want of memory
abbrev pub message_told : MessageFault → Option MessageFault
message_told wrong.Memory = None
message_told e = Some e

-- A message was read from the bytes, exactly where they spell one.
pub record IsMessage {A : Type 0} (codec : Codec A) (bytes : List ℕ) (limit : ℕ) (result : Result A MessageFault) : Type 0 where
  -- a message that is answered is spelled by the bytes
  pub spelled_so : IfOk result (λ message. codec.fits limit message × (bytes ≡ codec.spelled message))
  -- a message that the bytes spell is answered, if there is memory
  pub read_back : (message : A) → codec.fits limit message → bytes ≡ codec.spelled message → MatchResult result (λ read. read ≡ message) (λ e. e ≡ wrong.Memory)
  -- else the first fault is
  pub first_fault : Answers (λ read. read) message_told result (message_in codec bytes limit)
