-- The law of answers.
use Rattle.std.proofs.Common.{◌≡◌, ℕ, Bool, true, false, List, Some, refl, sym, ap}
use Rattle.sia_encoding.specs.Codec.{Lawful}
use Rattle.sia_encoding.specs.CodecLaws.{codec}
use Rattle.sia_encoding.specs.ItemLaws.{byte_string_law, list_law, number_law, truth_law}
use Rattle.sia_encoding.specs.RecordLaws.{◌&&&◌, choice_law, variant_law, nothing_law}
use Rattle.sia_types.specs.declared.coins.CoinInput.{CoinInput}
use Rattle.sia_types.specs.declared.coins.CoinOutput.{CoinOutput}
use Rattle.sia_types.specs.declared.settings.Settings.{Settings}
use Rattle.sia_types.specs.declared.signature.Signature.{Signature}
use Rattle.sia_types.specs.Coins.{coin_input_law, coin_output_law}
use Rattle.sia_types.specs.Settings.{settings_law}
use Rattle.sia_types.specs.Signatures.{signature_law}
use Rattle.sia_rhp.specs.declared.label.Label.{Label}
use Rattle.sia_rhp.specs.declared.label.Label.TheVariants as label
use Rattle.sia_rhp.specs.declared.answer.Answer.{Answer}
use Rattle.sia_rhp.specs.declared.answer.Answer.TheVariants as answers
use Rattle.sia_rhp.specs.declared.answer_bodies.LockAnswer.{LockAnswer}
use Rattle.sia_rhp.specs.declared.answer_bodies.WriteAnswer.{WriteAnswer}
use Rattle.sia_rhp.specs.declared.answer_bodies.ReadAnswer.{ReadAnswer}
use Rattle.sia_rhp.specs.declared.answer_bodies.RootsAnswer.{RootsAnswer}
use Rattle.sia_rhp.specs.AnswerBodies.{lock_answer_law, write_answer_law, read_answer_law, roots_answer_law}
use Rattle.sia_rhp.specs.Answers.{is_error, error_code, unanswered, answer_behind, answer_of, answer_to, label_of_answer, spelled_answer, settings_answered, form_answered, form_sign_answered, lock_answered, unlock_answered, write_answered, write_sign_answered, read_answered, roots_answered, renew_answered, renew_sign_answered}

-- what fits behind byte 0 is no error, and has its label
is_for : (l : Label) (limit : ℕ) (a : Answer) → (answer_behind l).fits limit a → (is_error a ≡ false) × (label_of_answer a ≡ l)
is_for label.Settings limit (answers.Settings body) fits = (refl, refl)
is_for label.FormContract limit (answers.Form inputs outputs) fits = (refl, refl)
is_for label.FormSign limit (answers.FormSign body) fits = (refl, refl)
is_for label.Lock limit (answers.Lock body) fits = (refl, refl)
is_for label.Unlock limit answers.Unlock fits = (refl, refl)
is_for label.Write limit (answers.Write body) fits = (refl, refl)
is_for label.WriteSign limit (answers.WriteSign body) fits = (refl, refl)
is_for label.Read limit (answers.Read body) fits = (refl, refl)
is_for label.Roots limit (answers.Roots body) fits = (refl, refl)
is_for label.Renew limit (answers.Renew inputs outputs) fits = (refl, refl)
is_for label.RenewSign limit (answers.RenewSign body) fits = (refl, refl)
is_for _ limit _ fits = absurd fits

settings_again : (a : Answer) (p : Settings) → settings_answered a ≡ Some p → answers.Settings p ≡ a
settings_again (answers.Settings body) p is = (cc)
settings_again _ p is = (cc)

form_again : (a : Answer) (p : List CoinInput × List CoinOutput) → form_answered a ≡ Some p → answers.Form p.0 p.1 ≡ a
form_again (answers.Form inputs outputs) p is = let same : (inputs, outputs) ≡ p = cc in ap (λ (q : List CoinInput × List CoinOutput). answers.Form q.0 q.1) (sym same)
form_again _ p is = (cc)

form_sign_again : (a : Answer) (p : List Signature) → form_sign_answered a ≡ Some p → answers.FormSign p ≡ a
form_sign_again (answers.FormSign body) p is = (cc)
form_sign_again _ p is = (cc)

lock_again : (a : Answer) (p : LockAnswer) → lock_answered a ≡ Some p → answers.Lock p ≡ a
lock_again (answers.Lock body) p is = (cc)
lock_again _ p is = (cc)

unlock_again : (a : Answer) (p : Unit {0}) → unlock_answered a ≡ Some p → answers.Unlock ≡ a
unlock_again answers.Unlock p is = refl
unlock_again _ p is = (cc)

write_again : (a : Answer) (p : WriteAnswer) → write_answered a ≡ Some p → answers.Write p ≡ a
write_again (answers.Write body) p is = (cc)
write_again _ p is = (cc)

write_sign_again : (a : Answer) (p : List ℕ) → write_sign_answered a ≡ Some p → answers.WriteSign p ≡ a
write_sign_again (answers.WriteSign body) p is = (cc)
write_sign_again _ p is = (cc)

read_again : (a : Answer) (p : ReadAnswer) → read_answered a ≡ Some p → answers.Read p ≡ a
read_again (answers.Read body) p is = (cc)
read_again _ p is = (cc)

roots_again : (a : Answer) (p : RootsAnswer) → roots_answered a ≡ Some p → answers.Roots p ≡ a
roots_again (answers.Roots body) p is = (cc)
roots_again _ p is = (cc)

renew_again : (a : Answer) (p : List CoinInput × List CoinOutput) → renew_answered a ≡ Some p → answers.Renew p.0 p.1 ≡ a
renew_again (answers.Renew inputs outputs) p is = let same : (inputs, outputs) ≡ p = cc in ap (λ (q : List CoinInput × List CoinOutput). answers.Renew q.0 q.1) (sym same)
renew_again _ p is = (cc)

renew_sign_again : (a : Answer) (p : List Signature) → renew_sign_answered a ≡ Some p → answers.RenewSign p ≡ a
renew_sign_again (answers.RenewSign body) p is = (cc)
renew_sign_again _ p is = (cc)

error_again : (a : Answer) (p : ℕ) → error_code a ≡ Some p → answers.Error p ≡ a
error_again (answers.Error code) p is = (cc)
error_again _ p is = (cc)

-- nothing fits what nobody answers
unanswered_law : Lawful unanswered
unanswered_law = codec unanswered.fits unanswered.spelled unanswered.reading (λ from bytes. tt) (λ at limit value rest fits. absurd fits)

behind_law : (l : Label) → Lawful (answer_behind l)
behind_law label.Settings = variant_law (λ body. answers.Settings body) settings_answered (λ p. refl) settings_again settings_law
behind_law label.FormContract = variant_law (λ body. answers.Form body.0 body.1) form_answered (λ p. refl) form_again (list_law coin_input_law &&& list_law coin_output_law)
behind_law label.FormSign = variant_law (λ body. answers.FormSign body) form_sign_answered (λ p. refl) form_sign_again (list_law signature_law)
behind_law label.Lock = variant_law (λ body. answers.Lock body) lock_answered (λ p. refl) lock_again lock_answer_law
behind_law label.Unlock = variant_law (λ body. answers.Unlock) unlock_answered (λ p. refl) unlock_again nothing_law
behind_law label.Write = variant_law (λ body. answers.Write body) write_answered (λ p. refl) write_again write_answer_law
behind_law label.WriteSign = variant_law (λ body. answers.WriteSign body) write_sign_answered (λ p. refl) write_sign_again byte_string_law
behind_law label.Read = variant_law (λ body. answers.Read body) read_answered (λ p. refl) read_again read_answer_law
behind_law label.Roots = variant_law (λ body. answers.Roots body) roots_answered (λ p. refl) roots_again roots_answer_law
behind_law label.Renew = variant_law (λ body. answers.Renew body.0 body.1) renew_answered (λ p. refl) renew_again (list_law coin_input_law &&& list_law coin_output_law)
behind_law label.RenewSign = variant_law (λ body. answers.RenewSign body) renew_sign_answered (λ p. refl) renew_sign_again (list_law signature_law)
behind_law label.LoopExit = unanswered_law

told_so : (l : Label) (b : Bool) (limit : ℕ) (a : Answer) → (answer_of l b).fits limit a → is_error a ≡ b
told_so l true limit (answers.Error code) fits = refl
told_so l true limit _ fits = absurd fits
told_so l false limit a fits = (is_for l limit a fits).0

of_law : (l : Label) (b : Bool) → Lawful (answer_of l b)
of_law l true = variant_law (λ code. answers.Error code) error_code (λ p. refl) error_again number_law
of_law l false = behind_law l

-- what is read as an answer is spelled so, and what is spelled so is read
pub answer_law : (l : Label) → Lawful (answer_to l)
answer_law l = choice_law is_error (answer_of l) (told_so l) truth_law (of_law l)

spelled_by : (l : Label) (limit : ℕ) (a : Answer) (b : Bool) → is_error a ≡ b → (answer_of l b).fits limit a → (answer_to l).spelled a ≡ spelled_answer a
spelled_by l limit (answers.Error code) true is fits = refl
spelled_by l limit _ true is fits = absurd fits
spelled_by l limit a false is fits = ap (λ k. (answer_to k).spelled a) (sym (is_for l limit a fits).1)

-- the spelling is the same for every label that the answer fits
pub one_spelling : (l : Label) (limit : ℕ) (a : Answer) → (answer_to l).fits limit a → (answer_to l).spelled a ≡ spelled_answer a
one_spelling l limit a fits = spelled_by l limit a (is_error a) refl fits.1
