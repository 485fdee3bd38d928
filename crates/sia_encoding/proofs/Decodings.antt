-- One value off the front of bytes.
use Rattle.std.proofs.Common.{◌≡◌, ℕ, List, length, take, IfOk, MatchResult, Result, Ok, Err, refl, sym, ap, subst, ◌∙◌, arith}
use Rattle.std.proofs.Math.Seq.{take-append_seam}
use Rattle.std.specs.Result.{result_unwrap_or}
use Rattle.sia_encoding.specs.declared.fault.DecodeFault.{DecodeFault}
use Rattle.sia_encoding.specs.declared.fault.DecodeFault.TheVariants as fault
use Rattle.sia_encoding.specs.Answer.{Answers, ◌>>=◌}
use Rattle.sia_encoding.specs.Reading.{Spot, fault_told}
use Rattle.sia_encoding.specs.Codec.{AreBytes, spot, Codec, Lawful, IsSpelled}
use Rattle.sia_encoding.specs.Decoding.{front_at, IsDecoded}

-- the value that a reading gave, and how far it went
abbrev pub how_far : {A : Type 0} → Result (A × Spot) DecodeFault → Result (A × ℕ) DecodeFault
how_far read = read >>= (λ taken. Ok (taken.0, taken.1.at))

-- what is read is spelled by the bytes that were read
read_so : {A : Type 0} (c : Codec A) (bytes : List ℕ) (limit : ℕ) (taken : A × ℕ) (read : Result (A × Spot) DecodeFault) → how_far read ≡ Ok taken → IfOk read (λ t. IsSpelled c.fits c.spelled (spot 0 bytes limit) t.0 t.1) → c.fits limit taken.0 × (take taken.1 bytes ≡ c.spelled taken.0)
read_so {A} c bytes limit taken (Ok t) said is =
    let same : (t.0, t.1.at) ≡ taken = ap (λ r. result_unwrap_or r taken) said in
    let far : t.1.at ≡ length (c.spelled t.0) = omega (arith, ap (λ s. s.at) is.behind) in
    let P : A × ℕ → Type 0 = λ x. c.fits limit x.0 × (take x.1 bytes ≡ c.spelled x.0) in
    subst P same (is.fits, ap (λ n. take n bytes) far ∙ ap (take (length (c.spelled t.0))) is.bytes ∙ take-append_seam (c.spelled t.0) t.1.left)
read_so c bytes limit taken (Err e) said is = cc

so_far : {A : Type 0} {c : Codec A} → Lawful c → (bytes : List ℕ) (limit : ℕ) (result : Result (A × ℕ) DecodeFault) → AreBytes bytes → Answers (λ taken. taken) fault_told result (front_at c bytes limit) → IfOk result (λ (taken : A × ℕ). c.fits limit taken.0 × (take taken.1 bytes ≡ c.spelled taken.0))
so_far {A} {c} law bytes limit (Ok taken) are said = read_so c bytes limit taken (c.reading (spot 0 bytes limit)) said (law.spelled_so (spot 0 bytes limit) are)
so_far law bytes limit (Err e) are said = tt

-- what is said to be a value is answered, if there is memory
answered : {A : Type 0} (said : Result A DecodeFault) (value : A) (result : Result A DecodeFault) → said ≡ Ok value → Answers (λ taken. taken) fault_told result said → MatchResult result (λ taken. taken ≡ value) (λ e. e ≡ fault.Memory)
answered said value (Ok taken) is answers = let same : Ok taken ≡ Ok value = sym answers ∙ is in ap (λ r. result_unwrap_or r value) same
answered said value (Err (fault.Short at)) is answers = absurd (cc)
answered said value (Err (fault.BadBool at)) is answers = absurd (cc)
answered said value (Err (fault.BadKind at)) is answers = absurd (cc)
answered said value (Err (fault.BadCurrency at)) is answers = absurd (cc)
answered said value (Err (fault.TooLong at)) is answers = absurd (cc)
answered said value (Err (fault.Rest at)) is answers = absurd (cc)
answered said value (Err fault.Memory) is answers = refl

pub decoded : {A : Type 0} {c : Codec A} → Lawful c → (bytes : List ℕ) (limit : ℕ) (result : Result (A × ℕ) DecodeFault) → AreBytes bytes → Answers (λ taken. taken) fault_told result (front_at c bytes limit) → IsDecoded c bytes limit result
decoded {A} {c} law bytes limit result are said = record {
  spelled_so = so_far law bytes limit result are said;
  read_back = λ value rest fits is.
      answered (front_at c bytes limit) (value, length (c.spelled value)) result (ap how_far (ap (λ text. c.reading (spot 0 text limit)) is ∙ law.read_back 0 limit value rest fits) ∙ ap (λ n. Ok (value, n)) (omega arith)) said;
  first_fault = said;
}
