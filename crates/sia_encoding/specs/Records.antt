-- Codecs made of others: records of fields, and values of one of several kinds (siad's doc/Encoding.md: a record is its
-- fields in order).
use Rattle.std.specs.Prelude.{ℕ, List, [], ◌++◌, Option, Some, None, Result, Ok, Err}
use Rattle.sia_encoding.specs.declared.fault.DecodeFault.{DecodeFault}
use Rattle.sia_encoding.specs.declared.fault.DecodeFault.TheVariants as fault
use Rattle.sia_encoding.specs.Answer.{◌>>=◌}
use Rattle.sia_encoding.specs.Reading.{Spot}
use Rattle.sia_encoding.specs.Codec.{Codec}

-- one value behind the other
infixr 6 ◌&◌
abbrev pub ◌&◌ : {A B : Type 0} → Codec A → Codec B → Codec (A × B)
first & second = record {
  fits = λ limit both. first.fits limit both.0 × second.fits limit both.1;
  spelled = λ both. first.spelled both.0 ++ second.spelled both.1;
  reading = λ s. first.reading s >>= (λ a. second.reading a.1 >>= (λ b. Ok ((a.0, b.0), b.1)));
}

-- a record: the codec of its fields in order, how it is made of them, and what they are
pub record Record (R : Type 0) : Type 1 where
  pub Parts : Type 0
  pub fields : Codec Parts
  pub make : Parts → R
  pub parts : R → Parts

-- the record of these fields
abbrev pub record_of : {R A : Type 0} → Codec A → (A → R) → (R → A) → Record R
record_of {R} {A} fields make parts = record { Parts = A; fields = fields; make = make; parts = parts }

-- a record is spelled and read as its fields are
abbrev pub recorded : {R : Type 0} → Record R → Codec R
recorded r = record {
  fits = λ limit value. r.fields.fits limit (r.parts value);
  spelled = λ value. r.fields.spelled (r.parts value);
  reading = λ s. r.fields.reading s >>= (λ taken. Ok (r.make taken.0, taken.1));
}

-- the kind that was found by its name, which begins at `at`
abbrev pub known : {K : Type 0} → ℕ → Spot → Option K → Result (K × Spot) DecodeFault
known at to None = Err (fault.BadKind at)
known at to (Some kind) = Ok (kind, to)

-- a kind, by its name: a number or a label. A name that no kind has is a fault where it begins.
abbrev pub named : {K T : Type 0} → Codec T → (K → T) → (T → Option K) → Codec K
named text name find = record {
  fits = λ limit kind. text.fits limit (name kind);
  spelled = λ kind. text.spelled (name kind);
  reading = λ s. text.reading s >>= (λ taken. known s.at taken.1 (find taken.0));
}

-- a value of one of several kinds: its kind, and then what values of that kind have
abbrev pub choice : {K A : Type 0} → Codec K → (A → K) → (K → Codec A) → Codec A
choice kind kind_of bodies = record {
  fits = λ limit value. kind.fits limit (kind_of value) × (bodies (kind_of value)).fits limit value;
  spelled = λ value. kind.spelled (kind_of value) ++ (bodies (kind_of value)).spelled value;
  reading = λ s. kind.reading s >>= (λ taken. (bodies taken.0).reading taken.1);
}

-- the parts are there, and fit
abbrev pub FitsSome : {P : Type 0} → (P → Type 0) → Option P → Type 0
FitsSome Fits None = ⊥
FitsSome Fits (Some p) = Fits p

-- the spelling of parts that are there
abbrev pub spelled_some : {P : Type 0} → (P → List ℕ) → Option P → List ℕ
spelled_some spelled None = []
spelled_some spelled (Some p) = spelled p

-- the values of one kind, by the parts that they are made of
abbrev pub variant : {P A : Type 0} → Codec P → (P → A) → (A → Option P) → Codec A
variant fields make parts = record {
  fits = λ limit value. FitsSome (fields.fits limit) (parts value);
  spelled = λ value. spelled_some fields.spelled (parts value);
  reading = λ s. fields.reading s >>= (λ taken. Ok (make taken.0, taken.1));
}

-- what has no bytes
abbrev pub nothing : Codec (Unit {0})
nothing = record { fits = λ limit value. Unit {0}; spelled = λ value. []; reading = λ s. Ok (tt, s) }
