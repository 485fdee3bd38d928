-- The items' own laws. No public clause speaks of these lemmas; they stand here since the laws of records are made of
-- them.
use Rattle.std.proofs.Common.{◌≡◌, ℕ, zero, suc, ◌+◌, ◌*◌, ◌/◌, ◌%◌, ◌^◌, ◌<◌, ◌≤◌, ◌==◌, Bool, true, false, List, [], ◌∷◌, ◌++◌, length, get_or, slice_index, nat_lt, if◌then◌else◌, All, IfOk, Result, Ok, refl, sym, ap, subst, ◌∙◌, append_assoc, length-append, arith}
use Rattle.std.specs.Int.{w64, to_le_bytes, from_le_bytes}
use Rattle.std.specs.Int.Digits.{digits_of, number_from_digits}
use Rattle.std.specs.List.{flat_map}
use Rattle.std.specs.Int.Digits.{AllBelowBase, number_from_digits_after}
use Rattle.std.proofs.Math.Nat.{pow-le-pow_right}
use Rattle.std.proofs.lemmas.Bool.{eqb-true, eqb-false, le-ltb, ltb-false, ne_eqb}
use Rattle.std.proofs.lemmas.List.{append-nil}
use Rattle.std.proofs.lemmas.List.Elements.{All-cons}
use Rattle.std.proofs.lemmas.Int.Digits.{all_below_base_digits_of, digits_of_step, first_digits_of, length-digits_of-le, number_digits_of, number_lt}
use Rattle.std.proofs.lemmas.Nat.{le_bytes_8, from_le_bytes-to_le_bytes_8}
use Rattle.sia_encoding.specs.declared.fault.DecodeFault.{DecodeFault}
use Rattle.sia_encoding.specs.Spelling.{spelled_u64, spelled_bool, spelled_bytes, spelled_currency, spelled_list}
use Rattle.sia_encoding.specs.Answer.{◌>>=◌}
use Rattle.sia_encoding.specs.Reading.{Spot, fixed_at, u64_at, bool_at, bool_of, count_at, bytes_at, width_at, digits_at, elements_at, list_at, begins_with_zero, currency_of, currency_at}
use Rattle.sia_encoding.specs.Codec.{AreBytes, spot, IsSpelled, IsCodec, IsFixed, IsU64, IsBool, IsCount, IsByteString, IsCurrency, IsListOf, spelled_fixed}
use Rattle.sia_encoding.specs.CodecLaws.{codec, fixed_law, judged_codec, counted_codec, followed, still_bytes, else_holds, else_is, then_holds, then_is}

-- a byte at every place, since past the end stands 0
byte_at : (bytes : List ℕ) → AreBytes bytes → (i : ℕ) → get_or bytes i 0 < 256
byte_at [] are i = omega arith
byte_at (byte ∷ bytes) are zero = are 0 0 (omega arith)
byte_at (byte ∷ bytes) are (suc i) = byte_at bytes (λ k d within. are (suc k) d (omega arith)) i

eight_bytes_fit : (bytes : List ℕ) → AreBytes bytes → from_le_bytes w64 bytes < 2 ^ 64
eight_bytes_fit bytes are = omega (arith, byte_at bytes are 0, byte_at bytes are 1, byte_at bytes are 2, byte_at bytes are 3, byte_at bytes are 4, byte_at bytes are 5, byte_at bytes are 6, byte_at bytes are 7)

one_more : (byte : ℕ) (bytes : List ℕ) → byte < 256 → AreBytes bytes → AreBytes (byte ∷ bytes)
one_more byte bytes small are = All-cons (λ byte. byte < 256) byte bytes small are

no_bytes : AreBytes []
no_bytes k d within = absurd (omega arith)

below_base : (ds : List ℕ) → AreBytes ds → AllBelowBase 256 ds
below_base [] are = tt
below_base (d ∷ ds) are = (are 0 0 (omega arith), below_base ds (λ k e within. are (suc k) e (omega arith)))

are_bytes : (ds : List ℕ) → AllBelowBase 256 ds → AreBytes ds
are_bytes [] are = no_bytes
are_bytes (d ∷ ds) are = one_more d ds are.0 (are_bytes ds are.1)

are_le_bytes : (n : ℕ) → AreBytes (to_le_bytes w64 n)
are_le_bytes n = are_bytes (to_le_bytes w64 n) (omega arith, (omega arith, (omega arith, (omega arith, (omega arith, (omega arith, (omega arith, (omega arith, tt))))))))

-- a hash
pub hash_law : IsCodec (IsFixed 32) spelled_fixed (fixed_at 32)
hash_law = fixed_law 32

-- an integer
pub number_law : IsCodec IsU64 spelled_u64 u64_at
unfolding spelled_u64 u64_at
number_law = judged_codec IsU64 spelled_u64 (λ from item. Ok (from_le_bytes w64 item.0, item.1)) (fixed_law 8)
    (λ from to bytes fits. (eight_bytes_fit bytes fits.1, le_bytes_8 bytes (from_le_bytes w64 bytes) fits.0 (byte_at bytes fits.1) refl, refl))
    (λ limit n fits. (to_le_bytes w64 n, (refl, are_le_bytes n), refl, λ from to same. ap (λ m. Ok (m, to)) (from_le_bytes-to_le_bytes_8 n fits)))

-- a count or a length
pub count_law : IsCodec IsCount spelled_u64 count_at
unfolding count_at
count_law = judged_codec IsCount spelled_u64 _ number_law
    (λ from to n fits. else_holds (nat_lt from.limit n) _ _ _ (λ within. ((ltb-false _ _ within, fits), refl, refl)))
    (λ limit n fits. (n, fits.1, refl, λ from to same. else_is _ _ _ (le-ltb _ _ (omega (arith, same, fits.0)))))

-- a byte string
pub byte_string_law : IsCodec IsByteString spelled_bytes bytes_at
unfolding spelled_bytes bytes_at
byte_string_law = counted_codec length (λ limit bytes. AreBytes bytes) spelled_fixed fixed_at count_law fixed_law

-- the length of a currency
IsWidth : ℕ → ℕ → Type 0
IsWidth limit n = (n ≤ 16) × (n ≤ limit) × (n < 2 ^ 64)

width_codec : IsCodec IsWidth spelled_u64 width_at
unfolding width_at IsWidth
width_codec = judged_codec IsWidth spelled_u64 _ number_law
    (λ from to n fits. else_holds (nat_lt 16 n) _ _ _ (λ few. else_holds (nat_lt from.limit n) _ _ _ (λ within. ((ltb-false _ _ few, ltb-false _ _ within, fits), refl, refl))))
    (λ limit n fits. (n, fits.2, refl, λ from to same. else_is _ _ _ (le-ltb _ _ fits.0) ∙ else_is _ _ _ (le-ltb _ _ (omega (arith, same, fits.1)))))

IsDigits : ℕ → List ℕ → Type 0
IsDigits limit bytes = IsWidth limit (length bytes) × AreBytes bytes

digits_codec : IsCodec IsDigits spelled_bytes digits_at
unfolding spelled_bytes digits_at IsDigits
digits_codec = counted_codec length (λ limit bytes. AreBytes bytes) spelled_fixed fixed_at width_codec fixed_law

-- a bool

-- what holds of a value that a test chooses
pub chosen : {A : Type 0} (b : Bool) (x : A) (r : Result A DecodeFault) (P : A → Type 0) → (b ≡ true → P x) → (b ≡ false → IfOk r P) → IfOk (if b then Ok x else r) P
chosen true x r P first other = first refl
chosen false x r P first other = other refl

bool_spelled_so : (at byte : ℕ) → IfOk (bool_of at byte) (λ b. spelled_bool b ≡ byte ∷ [])
bool_spelled_so at byte =
    chosen (byte == 0) false _ (λ b. spelled_bool b ≡ byte ∷ []) (λ is. ap (λ byte. byte ∷ []) (sym (eqb-true byte 0 is))) (λ other.
    chosen (byte == 1) true _ (λ b. spelled_bool b ≡ byte ∷ []) (λ is. ap (λ byte. byte ∷ []) (sym (eqb-true byte 1 is))) (λ neither. tt))

one_byte : (from to : Spot) (bytes : List ℕ) → length bytes ≡ 1 → IfOk (bool_of from.at (slice_index bytes 0) >>= (λ value. Ok (value, to))) (λ (taken : Bool × Spot). IsBool from.limit taken.0 × (spelled_bool taken.0 ≡ bytes) × (taken.1 ≡ to))
one_byte from to [] long = absurd (omega (arith, long))
one_byte from to (byte ∷ []) long = then_holds (bool_of from.at byte) _ (λ b. spelled_bool b ≡ byte ∷ []) _ (bool_spelled_so from.at byte) (λ b is. (tt, is, refl))
one_byte from to (byte ∷ next ∷ bytes) long = absurd (omega (arith, long))

bool_read_back : (b : Bool) → IsFixed 1 0 (spelled_bool b) × ((at : ℕ) → bool_of at (slice_index (spelled_bool b) 0) ≡ Ok b)
bool_read_back true = ((refl, one_more 1 [] (omega arith) no_bytes), λ at. refl)
bool_read_back false = ((refl, one_more 0 [] (omega arith) no_bytes), λ at. refl)

-- a bool is its byte
pub truth_law : IsCodec IsBool spelled_bool bool_at
unfolding bool_at
truth_law = judged_codec IsBool spelled_bool (λ from item. bool_of from.at (slice_index item.0 0) >>= (λ value. Ok (value, item.1))) (fixed_law 1)
    (λ from to bytes fits. one_byte from to bytes fits.0)
    (λ limit b fits. (spelled_bool b, (bool_read_back b).0, refl, λ from to same. then_is _ _ b _ ((bool_read_back b).1 from.at) refl))

-- a currency

one_digit_more : (n d : ℕ) → 0 < n * 256 + d → d < 256 → digits_of 256 (n * 256 + d) ≡ digits_of 256 n ++ d ∷ []
one_digit_more n d some small =
    let front : (n * 256 + d) / 256 ≡ n = omega arith in
    let last : (n * 256 + d) % 256 ≡ d = omega arith in
    digits_of_step 256 (n * 256 + d) (omega arith) some ∙ ap (λ m. digits_of 256 m ++ ((n * 256 + d) % 256 ∷ [])) front ∙ ap (λ e. digits_of 256 n ++ (e ∷ [])) last

digits_after : (n : ℕ) (ds : List ℕ) → 0 < n → AllBelowBase 256 ds → digits_of 256 (number_from_digits_after 256 n ds) ≡ digits_of 256 n ++ ds
digits_after n [] some are = sym (append-nil (digits_of 256 n))
digits_after n (d ∷ ds) some are =
    digits_after (n * 256 + d) ds (omega arith) are.1 ∙ ap (λ front. front ++ ds) (one_digit_more n d (omega arith) are.0) ∙ append_assoc (digits_of 256 n) (d ∷ []) ds

digits_of_number : (ds : List ℕ) → AllBelowBase 256 ds → begins_with_zero ds ≡ false → digits_of 256 (number_from_digits 256 ds) ≡ ds
digits_of_number [] are front = refl
digits_of_number (d ∷ ds) are front =
    let some : 0 < 0 * 256 + d = omega (arith, eqb-false d 0 front) in
    digits_after (0 * 256 + d) ds some are.1 ∙ ap (λ front. front ++ ds) (one_digit_more 0 d some are.0)

no_zero_in_front : (n : ℕ) → begins_with_zero (digits_of 256 n) ≡ false
no_zero_in_front zero = refl
no_zero_in_front (suc n) = first_not_zero (digits_of 256 (suc n)) (first_digits_of 256 (suc n) (omega arith) (omega arith))
  where
    first_not_zero : (ds : List ℕ) → 0 < get_or ds 0 0 → begins_with_zero ds ≡ false
    first_not_zero [] some = refl
    first_not_zero (d ∷ ds) some = ne_eqb d 0 (λ is. omega (arith, some, is))

-- a currency
pub currency_law : IsCodec IsCurrency spelled_currency currency_at
unfolding spelled_currency currency_at IsDigits IsWidth
currency_law = judged_codec IsCurrency spelled_currency (λ from digits. currency_of from.at digits.0 >>= (λ value. Ok (value, digits.1))) digits_codec
    (λ from to ds fits. then_holds (currency_of from.at ds) _ (λ value. IsCurrency from.limit value × (digits_of 256 value ≡ ds)) _
    (else_holds (begins_with_zero ds) _ _ _ (λ front.
    let base = below_base ds fits.1 in
    let same = digits_of_number ds base front in
    let most : 256 ^ length ds ≤ 256 ^ 16 = pow-le-pow_right (omega arith) fits.0.0 in
    ((omega (arith, number_lt 256 ds base, most), omega (arith, ap length same, fits.0.1)), same)))
    (λ value facts. (facts.0, ap spelled_bytes facts.1, refl)))
    (λ limit value fits.
    let few : length (digits_of 256 value) ≤ 16 = length-digits_of-le 256 16 value (omega arith) fits.0 in (
      digits_of 256 value,
      ((few, fits.1, omega (arith, few)), are_bytes _ (all_below_base_digits_of 256 value (omega arith))),
      refl,
      λ from to same.
          then_is _ _ value _ (else_is (begins_with_zero (digits_of 256 value)) _ _ (no_zero_in_front value) ∙ ap Ok (number_digits_of 256 value (omega arith))) refl,
    ))

-- a list

no_elements : {A : Type 0} {Fits : ℕ → A → Type 0} {spelled : A → List ℕ} {read : Spot → Result (A × Spot) DecodeFault} → IsCodec Fits spelled read → IsCodec (λ limit xs. (length xs ≡ 0) × All (Fits limit) xs) (flat_map spelled) (elements_at read zero)
no_elements {A} {Fits} {spelled} {read} element = codec (λ limit xs. (length xs ≡ 0) × All (Fits limit) xs) (flat_map spelled) (elements_at read zero)
    (λ from bytes. record { fits = (refl, λ k d within. absurd (omega arith)); bytes = refl; behind = ap (λ at. spot at from.left from.limit) (omega arith) })
    back
  where
    back : (at limit : ℕ) (xs : List A) (rest : List ℕ) → (length xs ≡ 0) × All (Fits limit) xs → elements_at read zero (spot at (flat_map spelled xs ++ rest) limit) ≡ Ok (xs, spot (at + length (flat_map spelled xs)) rest limit)
    back at limit [] rest fits = ap (λ place. Ok ([], spot place rest limit)) (omega arith)
    back at limit (x ∷ xs) rest fits = absurd (omega (arith, fits.0))

an_element_more : {A : Type 0} {Fits : ℕ → A → Type 0} {spelled : A → List ℕ} {read : Spot → Result (A × Spot) DecodeFault} → IsCodec Fits spelled read → (n : ℕ) → IsCodec (λ limit xs. (length xs ≡ n) × All (Fits limit) xs) (flat_map spelled) (elements_at read n) → IsCodec (λ limit xs. (length xs ≡ suc n) × All (Fits limit) xs) (flat_map spelled) (elements_at read (suc n))
an_element_more {A} {Fits} {spelled} {read} element n others = codec (λ limit xs. (length xs ≡ suc n) × All (Fits limit) xs) (flat_map spelled) (elements_at read (suc n)) so back
  where
    so : (from : Spot) → AreBytes from.left → IfOk (elements_at read (suc n) from) (λ taken. IsSpelled (λ limit xs. (length xs ≡ suc n) × All (Fits limit) xs) (flat_map spelled) from taken.0 taken.1)
    so from bytes = then_holds (read from) _ (λ taken. IsSpelled Fits spelled from taken.0 taken.1) _ (element.spelled_so from bytes) (λ x is.
        then_holds (elements_at read n x.1) _ (λ taken. IsSpelled (λ limit xs. (length xs ≡ n) × All (Fits limit) xs) (flat_map spelled) x.1 taken.0 taken.1) _ (others.spelled_so x.1 (still_bytes from x.1 (length (spelled x.0)) is.behind bytes)) (λ xs are.
        let same : x.1.limit ≡ from.limit = ap (λ s. s.limit) is.behind in
        let P : ℕ → Type 0 = λ limit. All (Fits limit) xs.0 in
        let joined = followed from x.1 xs.1 (spelled x.0) (flat_map spelled xs.0) is.bytes is.behind are.bytes are.behind in
        record {
          fits = (omega (arith, are.fits.0), All-cons (Fits from.limit) x.0 xs.0 is.fits (subst P same are.fits.1));
          bytes = joined.0;
          behind = joined.1;
        }))

    back : (at limit : ℕ) (xs : List A) (rest : List ℕ) → (length xs ≡ suc n) × All (Fits limit) xs → elements_at read (suc n) (spot at (flat_map spelled xs ++ rest) limit) ≡ Ok (xs, spot (at + length (flat_map spelled xs)) rest limit)
    back at limit [] rest fits = absurd (omega (arith, fits.0))
    back at limit (x ∷ xs) rest fits =
        let texts = append_assoc (spelled x) (flat_map spelled xs) rest in
        let sums : at + length (spelled x) + length (flat_map spelled xs) ≡ at + length (spelled x ++ flat_map spelled xs) = omega (arith, length-append (spelled x) (flat_map spelled xs)) in
        let fewer : length xs ≡ n = omega (arith, fits.0) in
        then_is _ _ (x, spot (at + length (spelled x)) (flat_map spelled xs ++ rest) limit) _
        (ap (λ text. read (spot at text limit)) texts ∙ element.read_back at limit x (flat_map spelled xs ++ rest) (fits.1 0 x (omega arith)))
        (then_is _ _ (xs, spot (at + length (spelled x) + length (flat_map spelled xs)) rest limit) _
        (others.read_back (at + length (spelled x)) limit xs rest (fewer, λ k d within. fits.1 (suc k) d (omega arith)))
        (ap (λ place. Ok (x ∷ xs, spot place rest limit)) sums))

elements_codec : {A : Type 0} {Fits : ℕ → A → Type 0} {spelled : A → List ℕ} {read : Spot → Result (A × Spot) DecodeFault} → IsCodec Fits spelled read → (n : ℕ) → IsCodec (λ limit xs. (length xs ≡ n) × All (Fits limit) xs) (flat_map spelled) (elements_at read n)
elements_codec element zero = no_elements element
elements_codec element (suc n) = an_element_more element n (elements_codec element n)

-- a list is lawful where its elements are
pub list_law : {A : Type 0} {Fits : ℕ → A → Type 0} {spelled : A → List ℕ} {read : Spot → Result (A × Spot) DecodeFault} → IsCodec Fits spelled read → IsCodec (IsListOf Fits) (spelled_list spelled) (list_at read)
unfolding spelled_list list_at
list_law {A} {Fits} {spelled} {read} element = counted_codec length (λ limit xs. All (Fits limit) xs) (flat_map spelled) (elements_at read) count_law (elements_codec element)
