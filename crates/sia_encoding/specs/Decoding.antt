-- What reading one value off the front of bytes answers.
use Rattle.std.specs.Prelude.{◌≡◌, ℕ, List, ◌++◌, length, take, Result, Ok, IfOk, MatchResult}
use Rattle.sia_encoding.specs.declared.fault.DecodeFault.{DecodeFault}
use Rattle.sia_encoding.specs.declared.fault.DecodeFault.TheVariants as fault
use Rattle.sia_encoding.specs.Answer.{Answers, ◌>>=◌}
use Rattle.sia_encoding.specs.Reading.{fault_told}
use Rattle.sia_encoding.specs.Codec.{Codec, spot}

-- the value that stands in front, and how many bytes it takes
abbrev pub front_at : {A : Type 0} → Codec A → List ℕ → ℕ → Result (A × ℕ) DecodeFault
front_at codec bytes limit = codec.reading (spot 0 bytes limit) >>= (λ taken. Ok (taken.0, taken.1.at))

-- One value was read off the front of the bytes, exactly where some spelling stands there.
pub record IsDecoded {A : Type 0} (codec : Codec A) (bytes : List ℕ) (limit : ℕ) (result : Result (A × ℕ) DecodeFault) : Type 0 where
  -- a value that is answered is spelled by the bytes that were read
  pub spelled_so : IfOk result (λ taken. codec.fits limit taken.0 × (take taken.1 bytes ≡ codec.spelled taken.0))
  -- a value that is spelled in front is answered, if there is memory
  pub read_back : (value : A) (rest : List ℕ) → codec.fits limit value → bytes ≡ codec.spelled value ++ rest → MatchResult result (λ taken. taken ≡ (value, length (codec.spelled value))) (λ e. e ≡ fault.Memory)
  -- else the first fault is
  pub first_fault : Answers (λ taken. taken) fault_told result (front_at codec bytes limit)
