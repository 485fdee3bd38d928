-- The printed text of a number is read as the number.
use Rattle.std.proofs.Common.{◌≡◌, ℕ, zero, suc, ◌+◌, ◌*◌, ◌/◌, ◌%◌, ◌<◌, ◌≤◌, true, false, List, [], ◌∷◌, ◌++◌, length, get_or, length-append, append_assoc, append-nil, Some, None, refl, sym, ◌∙◌, ap, arith}
use Rattle.std.specs.Prelude.{Bool, not, nat_lt, ◌&&◌, decimal, ◌^◌, if◌then◌else◌}
use Rattle.std.specs.Char.{digit_value}
use Rattle.std.specs.Str.{all_ascii_digits}
use Rattle.std.specs.Str.Parse.{AllDigits, digits_value, digits_value_after}
use Rattle.std.proofs.lemmas.Bool.{ltb-true}
use Rattle.std.proofs.lemmas.Bool.Decides.{nat_tests}
use Rattle.std.proofs.lemmas.Fmt.{decimal_by_steps_wide, decimal_digit, decimal_is_IsNumeral_wide, decimal_step_wide}
use Rattle.std.proofs.lemmas.Str.{digit_value_digit}
use Rattle.std.proofs.lemmas.Str.Parse.{digit_from_value}
use Rattle.sia_config.specs.Decimal.{decimal_number, has_leading_zero}
use Rattle.sia_config.proofs.Decimals.{numerals, number_some}

-- how the text of a number begins: with no zero, unless it is that of 0
record BeginsAs (n : ℕ) (text : List ℕ) : Type 0 where
  some : 0 < length text
  above : 0 < n → 48 < get_or text 0 0
  zero_alone : n ≡ 0 → length text ≡ 1

one_digit : (n : ℕ) → n < 10 → BeginsAs n ((48 + n) ∷ [])
one_digit n small = record { some = omega arith; above = λ above. omega arith; zero_alone = λ none. refl }

first_stays : (text : List ℕ) (digit : ℕ) → 0 < length text → get_or (text ++ digit ∷ []) 0 0 ≡ get_or text 0 0
first_stays [] digit some = absurd (omega arith)
first_stays (c ∷ cs) digit some = refl

next_digit : (n : ℕ) (text : List ℕ) → 10 ≤ n → BeginsAs (n / 10) text → BeginsAs n (text ++ ((48 + n % 10) ∷ []))
next_digit n text large begins =
    let tenth : 0 < n / 10 = omega arith in
    record {
      some = omega (arith, length-append text ((48 + n % 10) ∷ []));
      above = λ above. rw (first_stays text (48 + n % 10) begins.some) (begins.above tenth);
      zero_alone = λ none. absurd (omega arith);
    }

begins : (n : ℕ) → n < 10 ^ 64 → BeginsAs n (decimal n)
begins = decimal_by_steps_wide BeginsAs one_digit next_digit

plain : (n : ℕ) (text : List ℕ) → BeginsAs n text → has_leading_zero text ≡ false
plain zero text as_zero = let one = as_zero.zero_alone refl in grind (arith, nat_tests)
plain (suc n) text as_more = let above = as_more.above (omega arith) in grind (arith, nat_tests)

pub number-decimal : (n : ℕ) → n < 2 ^ 128 → decimal_number (decimal n) ≡ Some n
number-decimal n small =
    let wide : n < 10 ^ 64 = omega arith in
    let numeral = decimal_is_IsNumeral_wide n wide in
    let fits : digits_value 10 (decimal n) < 2 ^ 128 = rw numeral.1 small in
    number_some (decimal n) (numerals.from (decimal n) numeral.0.1) numeral.0.0 (plain n (decimal n) (begins n wide)) fits ∙ ap Some numeral.1

-- further digits behind the text of a number above 0
le_value_after : (n : ℕ) (ds : List ℕ) → n ≤ digits_value_after 10 n ds
le_value_after n [] = omega arith
le_value_after n (c ∷ cs) = omega (arith, le_value_after (n * 10 + digit_value c) cs)

decimal_value_after : (n : ℕ) (ds : List ℕ) → 0 < n → AllDigits 10 ds → digits_value_after 10 n ds < 10 ^ 64 → decimal (digits_value_after 10 n ds) ≡ decimal n ++ ds
decimal_value_after n [] some d small = sym (append-nil (decimal n))
decimal_value_after n (c ∷ cs) some d small =
    let m : ℕ = n * 10 + digit_value c in
    let k = digit_value_digit c (digit_from_value c d.0) in
    let front : m / 10 ≡ n = omega (arith, d.0) in
    let end : 48 + m % 10 ≡ c = omega (arith, d.0) in
    decimal_value_after m cs (omega arith) d.1 small
    ∙ ap (λ x. x ++ cs) (decimal_step_wide m (omega arith) (omega (arith, le_value_after m cs)) ∙ (λ i. decimal (front i) ++ (end i ∷ [])))
    ∙ append_assoc (decimal n) (c ∷ []) cs

-- digits without a leading zero are the text of the number that they write
decimal_value : (ds : List ℕ) → AllDigits 10 ds → 0 < length ds → (get_or ds 0 0 ≡ 48 → length ds ≡ 1) → digits_value 10 ds < 10 ^ 64 → decimal (digits_value 10 ds) ≡ ds
decimal_value [] d some lead small = absurd (omega arith)
decimal_value (c ∷ []) d some lead small =
    let k = digit_value_digit c (digit_from_value c d.0) in
    decimal_digit (0 * 10 + digit_value c) (omega (arith, d.0)) ∙ ap (λ x. x ∷ []) (omega arith)
decimal_value (c ∷ e ∷ cs) d some lead small =
    let k = digit_value_digit c (digit_from_value c d.0) in
    let above : c ≡ 48 → ⊥ = λ z. omega (arith, lead z) in
    let is : 48 + (0 * 10 + digit_value c) ≡ c = omega arith in
    decimal_value_after (0 * 10 + digit_value c) (e ∷ cs) (omega arith) d.1 small
    ∙ ap (λ x. x ++ (e ∷ cs)) (decimal_digit (0 * 10 + digit_value c) (omega (arith, d.0)) ∙ ap (λ x. x ∷ []) is)

-- what the tests of a text say
tested : (text : List ℕ) (digits some lead small : Bool) (n m : ℕ) → (if (digits && some && not lead) && small then Some n else None) ≡ Some m
    → (digits ≡ true) × (some ≡ true) × (lead ≡ false) × (small ≡ true) × (n ≡ m)
tested text true true false true n m e = let same : n ≡ m = cc in (refl, refl, refl, refl, same)
tested text false some lead small n m e = absurd (cc)
tested text true false lead small n m e = absurd (cc)
tested text true true true small n m e = absurd (cc)
tested text true true false false n m e = absurd (cc)

leads : (text : List ℕ) → has_leading_zero text ≡ false → 0 < length text → get_or text 0 0 ≡ 48 → length text ≡ 1
leads text plain some first = grind (arith, nat_tests)

pub decimal-number : (text : List ℕ) (n : ℕ) → decimal_number text ≡ Some n → text ≡ decimal n
unfolding decimal_number
decimal-number text n read =
    let tests = tested text (all_ascii_digits text) (nat_lt 0 (length text)) (has_leading_zero text) (nat_lt (digits_value 10 text) (2 ^ 128)) (digits_value 10 text) n read in
    let some : 0 < length text = ltb-true 0 (length text) tests.1 in
    let small : digits_value 10 text < 2 ^ 128 = ltb-true (digits_value 10 text) (2 ^ 128) tests.3 in
    sym (decimal_value text (numerals.to text tests.0) some (leads text tests.2 some) (omega arith)) ∙ ap decimal tests.4
