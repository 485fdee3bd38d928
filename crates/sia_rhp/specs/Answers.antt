-- Answers: byte 0 and what answers to the requests of a label hold, or byte 1 and the code of an error (RHP2; siad's
-- modules/negotiate.go).
use Rattle.std.specs.Prelude.{ℕ, Bool, true, false, List, [], Option, Some, None, Err}
use Rattle.sia_encoding.specs.declared.fault.DecodeFault.TheVariants as fault
use Rattle.sia_encoding.specs.Codec.{Codec}
use Rattle.sia_encoding.specs.Items.{byte_string, list_of, number, truth}
use Rattle.sia_encoding.specs.Records.{◌&◌, choice, variant, nothing}
use Rattle.sia_types.specs.declared.coins.CoinInput.{CoinInput}
use Rattle.sia_types.specs.declared.coins.CoinOutput.{CoinOutput}
use Rattle.sia_types.specs.declared.settings.Settings.{Settings}
use Rattle.sia_types.specs.declared.signature.Signature.{Signature}
use Rattle.sia_types.specs.Coins.{coin_input, coin_output}
use Rattle.sia_types.specs.Settings.{settings}
use Rattle.sia_types.specs.Signatures.{signature}
use Rattle.sia_rhp.specs.declared.label.Label.{Label}
use Rattle.sia_rhp.specs.declared.label.Label.TheVariants as label
use Rattle.sia_rhp.specs.declared.answer.Answer.{Answer}
use Rattle.sia_rhp.specs.declared.answer.Answer.TheVariants as answers
use Rattle.sia_rhp.specs.declared.answer_bodies.LockAnswer.{LockAnswer}
use Rattle.sia_rhp.specs.declared.answer_bodies.WriteAnswer.{WriteAnswer}
use Rattle.sia_rhp.specs.declared.answer_bodies.ReadAnswer.{ReadAnswer}
use Rattle.sia_rhp.specs.declared.answer_bodies.RootsAnswer.{RootsAnswer}
use Rattle.sia_rhp.specs.AnswerBodies.{lock_answer, write_answer, read_answer, roots_answer}

-- whether an answer tells an error
abbrev pub is_error : Answer → Bool
is_error (answers.Error code) = true
is_error _ = false

-- the code of an error
abbrev pub error_code : Answer → Option ℕ
error_code (answers.Error code) = Some code
error_code _ = None

-- what an answer to `Settings` holds
abbrev pub settings_answered : Answer → Option (Settings)
settings_answered (answers.Settings body) = Some body
settings_answered _ = None

-- what an answer to `FormContract` holds
abbrev pub form_answered : Answer → Option (List CoinInput × List CoinOutput)
form_answered (answers.Form inputs outputs) = Some (inputs, outputs)
form_answered _ = None

-- what an answer to `FormSign` holds
abbrev pub form_sign_answered : Answer → Option (List Signature)
form_sign_answered (answers.FormSign body) = Some body
form_sign_answered _ = None

-- what an answer to `Lock` holds
abbrev pub lock_answered : Answer → Option (LockAnswer)
lock_answered (answers.Lock body) = Some body
lock_answered _ = None

-- what an answer to `Unlock` holds
abbrev pub unlock_answered : Answer → Option (Unit {0})
unlock_answered answers.Unlock = Some tt
unlock_answered _ = None

-- what an answer to `Write` holds
abbrev pub write_answered : Answer → Option (WriteAnswer)
write_answered (answers.Write body) = Some body
write_answered _ = None

-- what an answer to `WriteSign` holds
abbrev pub write_sign_answered : Answer → Option (List ℕ)
write_sign_answered (answers.WriteSign body) = Some body
write_sign_answered _ = None

-- what an answer to `Read` holds
abbrev pub read_answered : Answer → Option (ReadAnswer)
read_answered (answers.Read body) = Some body
read_answered _ = None

-- what an answer to `Roots` holds
abbrev pub roots_answered : Answer → Option (RootsAnswer)
roots_answered (answers.Roots body) = Some body
roots_answered _ = None

-- what an answer to `Renew` holds
abbrev pub renew_answered : Answer → Option (List CoinInput × List CoinOutput)
renew_answered (answers.Renew inputs outputs) = Some (inputs, outputs)
renew_answered _ = None

-- what an answer to `RenewSign` holds
abbrev pub renew_sign_answered : Answer → Option (List Signature)
renew_sign_answered (answers.RenewSign body) = Some body
renew_sign_answered _ = None

-- what nobody answers
abbrev pub unanswered : Codec Answer
unanswered = record { fits = λ limit answer. ⊥; spelled = λ answer. []; reading = λ s. Err (fault.BadKind s.at) }

-- what answers to the requests of a label hold, where they tell no error
abbrev pub answer_behind : Label → Codec Answer
answer_behind label.Settings = variant settings (λ body. answers.Settings body) settings_answered
answer_behind label.FormContract = variant (list_of coin_input & list_of coin_output) (λ body. answers.Form body.0 body.1) form_answered
answer_behind label.FormSign = variant (list_of signature) (λ body. answers.FormSign body) form_sign_answered
answer_behind label.Lock = variant lock_answer (λ body. answers.Lock body) lock_answered
answer_behind label.Unlock = variant nothing (λ body. answers.Unlock) unlock_answered
answer_behind label.Write = variant write_answer (λ body. answers.Write body) write_answered
answer_behind label.WriteSign = variant byte_string (λ body. answers.WriteSign body) write_sign_answered
answer_behind label.Read = variant read_answer (λ body. answers.Read body) read_answered
answer_behind label.Roots = variant roots_answer (λ body. answers.Roots body) roots_answered
answer_behind label.Renew = variant (list_of coin_input & list_of coin_output) (λ body. answers.Renew body.0 body.1) renew_answered
answer_behind label.RenewSign = variant (list_of signature) (λ body. answers.RenewSign body) renew_sign_answered
answer_behind label.LoopExit = unanswered

-- what stands behind the first byte
abbrev pub answer_of : Label → Bool → Codec Answer
answer_of l true = variant number (λ code. answers.Error code) error_code
answer_of l false = answer_behind l

-- an answer to the requests of a label
abbrev pub answer_to : Label → Codec Answer
answer_to l = choice truth is_error (answer_of l)

-- The label of the requests that an answer is for. An error is for those of every label, so any one serves.
abbrev pub label_of_answer : Answer → Label
label_of_answer (answers.Settings body) = label.Settings
label_of_answer (answers.Form inputs outputs) = label.FormContract
label_of_answer (answers.FormSign body) = label.FormSign
label_of_answer (answers.Lock body) = label.Lock
label_of_answer answers.Unlock = label.Unlock
label_of_answer (answers.Write body) = label.Write
label_of_answer (answers.WriteSign body) = label.WriteSign
label_of_answer (answers.Read body) = label.Read
label_of_answer (answers.Roots body) = label.Roots
label_of_answer (answers.Renew inputs outputs) = label.Renew
label_of_answer (answers.RenewSign body) = label.RenewSign
label_of_answer (answers.Error code) = label.Settings

-- the spelling of an answer
abbrev pub spelled_answer : Answer → List ℕ
spelled_answer answer = (answer_to (label_of_answer answer)).spelled answer
