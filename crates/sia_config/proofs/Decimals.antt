-- What the parsing of a text as a number says of the decimal digits in it.
use Rattle.std.proofs.Common.{◌≡◌, ◌≢◌, ℕ, ◌<◌, true, false, List, [], ◌∷◌, length, get_or, Some, None, Result, Ok, Err, refl, sym, ◌∙◌, ap}
use Rattle.std.specs.Prelude.{Bool, not, nat_eq, nat_lt, ◌&&◌, ◌||◌, ◌^◌, if◌then◌else◌}
use Rattle.std.specs.Result.{result_ok}
use Rattle.std.specs.Str.{IsUtf8, all_ascii_digits}
use Rattle.std.specs.Str.Parse.{ParsesUnsigned, digits_value}
use Rattle.std.proofs.lemmas.Bool.{eqb-true, eqb-false, ltb-true, lt-ltb}
use Rattle.std.proofs.lemmas.Fmt.{IsAscii-from_digits}
use Rattle.std.proofs.lemmas.Str.{IsUtf8-from_ascii}
use Rattle.std.proofs.lemmas.Str.Parse.{IsNumeralModel, numerals_by_value, parse_plain, tells_all_ascii_digits}
use Rattle.sia_config.specs.Decimal.{decimal_number, has_leading_zero}

-- texts of digits, as parsing sees them
pub numerals : IsNumeralModel (λ ds. all_ascii_digits ds ≡ true) (digits_value 10)
numerals = numerals_by_value _ tells_all_ascii_digits

-- what parsing needs of a text, where a leading zero is left out
none_by : (digits some lead small : Bool) (n : ℕ) → (digits ≡ true → some ≡ true → lead ≡ false → small ≡ true → ⊥) → (if (digits && some && not lead) && small then Some n else None) ≡ None
none_by false some lead small n impossible = refl
none_by true false lead small n impossible = refl
none_by true true true small n impossible = refl
none_by true true false false n impossible = refl
none_by true true false true n impossible = absurd (impossible refl refl refl refl)

number_none : (text : List ℕ) → (all_ascii_digits text ≡ true → nat_lt 0 (length text) ≡ true → has_leading_zero text ≡ false → nat_lt (digits_value 10 text) (2 ^ 128) ≡ true → ⊥) → decimal_number text ≡ None
unfolding decimal_number
number_none text impossible = none_by (all_ascii_digits text) (nat_lt 0 (length text)) (has_leading_zero text) (nat_lt (digits_value 10 text) (2 ^ 128)) (digits_value 10 text) impossible

pub number_some : (text : List ℕ) → all_ascii_digits text ≡ true → 0 < length text → has_leading_zero text ≡ false → digits_value 10 text < 2 ^ 128 → decimal_number text ≡ Some (digits_value 10 text)
unfolding decimal_number
number_some text digits some lead small = rw (digits, lt-ltb 0 (length text) some, lead, lt-ltb (digits_value 10 text) (2 ^ 128) small) refl

-- a plus is no digit
plus_first : (text : List ℕ) → nat_eq (get_or text 0 0) 43 ≡ true → all_ascii_digits text ≡ true → ⊥
plus_first [] plus digits = cc
plus_first (c ∷ cs) plus digits = let is : c ≡ 43 = eqb-true c 43 plus in let none : false ≡ true = rw is at digits in cc

otherwise : (text : List ℕ) (plus lead : Bool) → nat_eq (get_or text 0 0) 43 ≡ plus → has_leading_zero text ≡ lead → (plus || lead) ≡ true → decimal_number text ≡ None
otherwise text true lead e f other = number_none text (λ digits some zero small. plus_first text e digits)
otherwise text false true e f other = number_none text (λ digits some zero small. let both : true ≡ false = sym f ∙ zero in cc)
otherwise text false false e f other = absurd (cc)

-- a text that begins with a sign, or with a zero before other digits
pub number_otherwise : (text : List ℕ) → (nat_eq (get_or text 0 0) 43 || has_leading_zero text) ≡ true → None ≡ decimal_number text
number_otherwise text other = sym (otherwise text (nat_eq (get_or text 0 0) 43) (has_leading_zero text) refl refl other)

-- a text that is no text of UTF-8
pub number_no_text : (text : List ℕ) → (IsUtf8 text → ⊥) → None ≡ decimal_number text
number_no_text text none = sym (number_none text (λ digits some lead small. none (IsUtf8-from_ascii text (IsAscii-from_digits text (numerals.to text digits)))))

plainly : (text : List ℕ) (plus lead : Bool) → nat_eq (get_or text 0 0) 43 ≡ plus → has_leading_zero text ≡ lead → (plus || lead) ≡ false → (get_or text 0 0 ≢ 43) × (has_leading_zero text ≡ false)
plainly text false false e f plain = (eqb-false (get_or text 0 0) 43 e, f)
plainly text true lead e f plain = absurd (cc)
plainly text false true e f plain = absurd (cc)

-- another text, as it is parsed
pub number_parsed : {E : Type 0} (text : List ℕ) (result : Result ℕ E) → (nat_eq (get_or text 0 0) 43 || has_leading_zero text) ≡ false → ParsesUnsigned 128 10 text result → result_ok result ≡ decimal_number text
number_parsed {E} text (Ok n) plain parses =
    let begins = plainly text (nat_eq (get_or text 0 0) 43) (has_leading_zero text) refl refl plain in
    let read = parse_plain numerals {E = E} 128 text (Ok n) parses begins.0 in
    ap Some read.1 ∙ sym (number_some text read.0.0 read.0.1 begins.1 read.0.2)
number_parsed {E} text (Err e) plain parses =
    let begins = plainly text (nat_eq (get_or text 0 0) 43) (has_leading_zero text) refl refl plain in
    let refused = parse_plain numerals {E = E} 128 text (Err e) parses begins.0 in
    sym (number_none text (λ digits some lead small. refused (digits, ltb-true 0 (length text) some, ltb-true (digits_value 10 text) (2 ^ 128) small)))
