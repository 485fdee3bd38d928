-- A message is read from bytes exactly where they spell it.
use Rattle.std.proofs.Common.{◌≡◌, ◌⊎◌, inl, inr, ℕ, ◌==◌, Bool, true, false, if◌then◌else◌, List, [], ◌∷◌, ◌++◌, length, IfOk, MatchResult, Result, Ok, Err, refl, sym, ap, subst, ◌∙◌, arith}
use Rattle.std.proofs.lemmas.Bool.{eqb-true}
use Rattle.std.proofs.lemmas.List.{append-nil}
use Rattle.std.specs.Result.{result_unwrap_or}
use Rattle.sia_encoding.specs.declared.fault.DecodeFault.{DecodeFault}
use Rattle.sia_encoding.specs.Answer.{Answers}
use Rattle.sia_encoding.specs.Reading.{Spot}
use Rattle.sia_encoding.specs.Codec.{AreBytes, spot, Codec, Lawful, IsSpelled}
use Rattle.sia_rhp.specs.declared.message_fault.MessageFault.{MessageFault}
use Rattle.sia_rhp.specs.declared.message_fault.MessageFault.TheVariants as wrong
use Rattle.sia_rhp.specs.Messages.{whole, message_in, message_told, IsMessage}

chosen : {A : Type 0} (b : Bool) (x y z : A) → (if b then x else y) ≡ z → ((b ≡ true) × (x ≡ z)) ⊎ ((b ≡ false) × (y ≡ z))
chosen true x y z is = inl (refl, is)
chosen false x y z is = inr (refl, is)

no_bytes : (xs : List ℕ) → length xs ≡ 0 → xs ≡ []
no_bytes [] is = refl
no_bytes (x ∷ xs) is = absurd (omega (arith, is))

-- what is read without a rest is spelled by all the bytes
read_so : {A : Type 0} (c : Codec A) (bytes : List ℕ) (limit : ℕ) (message : A) (read : Result (A × Spot) DecodeFault) → whole read ≡ Ok message → IfOk read (λ t. IsSpelled c.fits c.spelled (spot 0 bytes limit) t.0 t.1) → c.fits limit message × (bytes ≡ c.spelled message)
read_so c bytes limit message (Err e) said is = cc
read_so {A} c bytes limit message (Ok t) said is = elim (chosen (length t.1.left == 0) _ _ _ said) [
  | inr rest ↦ cc
  | inl end ↦
      let same : t.0 ≡ message = ap (λ r. result_unwrap_or r message) end.1 in
      let none : t.1.left ≡ [] = no_bytes t.1.left (eqb-true (length t.1.left) 0 end.0) in
      let P : A → Type 0 = λ x. c.fits limit x × (bytes ≡ c.spelled x) in
      subst P same (is.fits, is.bytes ∙ ap (λ xs. c.spelled t.0 ++ xs) none ∙ append-nil (c.spelled t.0))
]

so_far : {A : Type 0} {c : Codec A} → Lawful c → (bytes : List ℕ) (limit : ℕ) (result : Result A MessageFault) → AreBytes bytes → Answers (λ read. read) message_told result (message_in c bytes limit) → IfOk result (λ (message : A). c.fits limit message × (bytes ≡ c.spelled message))
so_far {A} {c} law bytes limit (Ok message) are said = read_so c bytes limit message (c.reading (spot 0 bytes limit)) said (law.spelled_so (spot 0 bytes limit) are)
so_far law bytes limit (Err e) are said = tt

-- what is said to be a message is answered, if there is memory
answered : {A : Type 0} (said : Result A MessageFault) (message : A) (result : Result A MessageFault) → said ≡ Ok message → Answers (λ read. read) message_told result said → MatchResult result (λ read. read ≡ message) (λ e. e ≡ wrong.Memory)
answered said message (Ok read) is answers = let same : Ok read ≡ Ok message = sym answers ∙ is in ap (λ r. result_unwrap_or r message) same
answered said message (Err wrong.UnknownRpc) is answers = absurd (cc)
answered said message (Err (wrong.BadMessage at)) is answers = absurd (cc)
answered said message (Err wrong.Memory) is answers = refl

pub is_message : {A : Type 0} {c : Codec A} → Lawful c → (bytes : List ℕ) (limit : ℕ) (result : Result A MessageFault) → AreBytes bytes → Answers (λ read. read) message_told result (message_in c bytes limit) → IsMessage c bytes limit result
is_message {A} {c} law bytes limit result are said = record {
  spelled_so = so_far law bytes limit result are said;
  read_back = λ message fits is.
      answered (message_in c bytes limit) message result (ap whole (ap (λ text. c.reading (spot 0 text limit)) (is ∙ sym (append-nil (c.spelled message))) ∙ law.read_back 0 limit message [] fits)) said;
  first_fault = said;
}
