-- How a command is answered, from how it ended and from what was told of it.
use Rattle.std.proofs.Common.{◌≡◌, ℕ, List, Result, Ok, Err, ◌⊎◌, inl, inr, sym, ◌∙◌, subst}
use Rattle.std.proofs.lemmas.Option.{IfSome_then}
use Rattle.sia_program.specs.declared.form.Form.{Form}
use Rattle.sia_program.specs.declared.stop.Stop.{Stop}
use Rattle.sia_program.specs.declared.stop.Stop.TheVariants as stop
use Rattle.sia_program.specs.Answer.{status_of, IsQuiet, Ended, Fell, IsToldAs, TellsReason, Answered}
use Rattle.sia_program.specs.Commands.Ledger.{Verdict}
use Rattle.sia_program.specs.Outcome.{OfOutcome, outcome_of}
use Rattle.sia_program.specs.Streams.{Stream, Streams}

quiet_as_told : (reason told : Stop) (before after : Stream) → IsToldAs reason told → IsQuiet (Err reason) before after → IsQuiet (Err told) before after
quiet_as_told reason told before after (inl same) quiet = subst (λ s. IsQuiet (Err s) before after) (sym same) quiet
quiet_as_told (stop.Refused case) told before after (inr (memory, refused)) quiet = subst (λ s. IsQuiet (Err s) before after) (sym memory) quiet
quiet_as_told stop.Outside told before after (inr (memory, refused)) quiet = absurd refused
quiet_as_told stop.Memory told before after (inr (memory, refused)) quiet = absurd refused
quiet_as_told stop.Long told before after (inr (memory, refused)) quiet = absurd refused

ended_as_told : (reason told : Stop) (given : Result (List ℕ) Stop) (before after : Stream) → IsToldAs reason told → Ended (Err reason) given before after → Ended (Err told) given before after
ended_as_told reason told given before after (inl same) ended = subst (λ s. Ended (Err s) given before after) (sym same) ended
ended_as_told (stop.Refused case) told given before after (inr (memory, refused)) ended = subst (λ s. Ended (Err s) given before after) (sym memory) ended.1
ended_as_told stop.Outside told given before after (inr (memory, refused)) ended = absurd refused
ended_as_told stop.Memory told given before after (inr (memory, refused)) ended = absurd refused
ended_as_told stop.Long told given before after (inr (memory, refused)) ended = absurd refused

-- a status tells its end apart: no stop has status 0
no_stop : (reason : Stop) → status_of {A = Unit {0}} (Err reason) ≡ 0 → ⊥
no_stop (stop.Refused case) e = cc
no_stop stop.Outside e = cc
no_stop stop.Memory e = cc
no_stop stop.Long e = cc

-- a fault of the outside is told only where there was one
told_outside : (reason told : Stop) → IsToldAs reason told → status_of {A = Unit {0}} (Err told) ≡ 3 → reason ≡ stop.Outside
told_outside reason (stop.Refused case) same three = absurd (cc)
told_outside reason stop.Memory same three = absurd (cc)
told_outside reason stop.Long same three = absurd (cc)
told_outside reason stop.Outside (inl same) three = sym same
told_outside reason stop.Outside (inr (memory, refused)) three = absurd (cc)

completed : (end : Result (Unit {0}) Stop) (status : ℕ) (given : Result (List ℕ) Stop) (before after : Stream) (Fallen : Type 0) → status ≡ status_of end → (status ≡ 3 → Fallen) → ¬ Fallen → Ended end given before after → (status ≡ 5) ⊎ (status ≡ status_of given)
completed (Ok done) status given before after Fallen is fell none (text, read, took) = inr (rw read is)
completed (Err (stop.Refused case)) status given before after Fallen is fell none ended = inr (rw ended.0 is)
completed (Err stop.Long) status given before after Fallen is fell none ended = inr (rw ended.0 is)
completed (Err stop.Memory) status given before after Fallen is fell none ended = inl is
completed (Err stop.Outside) status given before after Fallen is fell none ended = absurd (none (fell is))

-- the command stopped, and why is told
pub answered_stopped : (verdict : Verdict) (form : Form) (reason : Stop) (status : ℕ) (before after : Streams) → TellsReason reason status before.err after.err → IsQuiet (Err reason) before.out after.out
    → (reason ≡ stop.Outside → Fell form before after) → OfOutcome verdict form before.sources (λ given. Ended (Err reason) given before.out after.out) → Answered verdict form status before after
answered_stopped verdict form reason status before after (told, same, is, line) quiet fell ended =
    let caused : status ≡ 3 → Fell form before after = λ three. fell (told_outside reason told same (sym is ∙ three)) in
    let ends : OfOutcome verdict form before.sources (λ given. Ended (Err told) given before.out after.out) = IfSome_then (outcome_of verdict form before.sources) ended (λ given. ended_as_told reason told given before.out after.out same) in
    record {
      end = Err told;
      status_is = is;
      line = line;
      quiet = quiet_as_told reason told before.out after.out same quiet;
      told = ends;
      ended = λ zero. absurd (no_stop told (sym is ∙ zero));
      outside = caused;
      complete = λ none. IfSome_then (outcome_of verdict form before.sources) ends (λ given. completed (Err told) status given before.out after.out (Fell form before after) is caused none);
    }
