-- The laws of codecs that are made of others: where those give back what they spell, so do these. No public
-- clause speaks of these lemmas; they stand here since the laws of records are made of them.
use Rattle.std.proofs.Common.{◌≡◌, ℕ, ◌+◌, Bool, true, false, List, [], ◌∷◌, ◌++◌, find, cond, length, Option, Some, None, IfOk, Result, Ok, refl, sym, ap, subst, ◌∙◌, append_assoc, length-append, arith}
use Rattle.sia_encoding.specs.declared.fault.DecodeFault.{DecodeFault}
use Rattle.sia_encoding.specs.Spelling.{spelled_bool}
use Rattle.sia_encoding.specs.Reading.{Spot, past, bool_at}
use Rattle.sia_encoding.specs.Codec.{AreBytes, spot, Codec, Lawful, IsSpelled, IsBool}
use Rattle.sia_encoding.specs.Items.{spelled_option, IsOption, behind_bool, option_at, option_of}
use Rattle.sia_encoding.specs.Records.{known, named, choice, FitsSome, spelled_some, variant, nothing, ◌&◌, Record, recorded}
use Rattle.sia_encoding.specs.CodecLaws.{codec, followed, still_bytes, then_holds, then_is, weaker}
use Rattle.sia_encoding.specs.ItemLaws.{truth_law}

-- one value behind the other
infixr 6 ◌&&&◌
pub ◌&&&◌ : {A B : Type 0} {first : Codec A} {second : Codec B} → Lawful first → Lawful second → Lawful (first & second)
◌&&&◌ {A} {B} {first} {second} lawA lawB = codec (first & second).fits (first & second).spelled (first & second).reading so back
  where
    so : (from : Spot) → AreBytes from.left → IfOk ((first & second).reading from) (λ (taken : (A × B) × Spot). IsSpelled (first & second).fits (first & second).spelled from taken.0 taken.1)
    so from bytes = then_holds (first.reading from) _ (λ taken. IsSpelled first.fits first.spelled from taken.0 taken.1) _ (lawA.spelled_so from bytes) (λ a is.
        then_holds (second.reading a.1) _ (λ taken. IsSpelled second.fits second.spelled a.1 taken.0 taken.1) _ (lawB.spelled_so a.1 (still_bytes from a.1 (length (first.spelled a.0)) is.behind bytes)) (λ b are.
        let same : a.1.limit ≡ from.limit = ap (λ s. s.limit) is.behind in
        let P : ℕ → Type 0 = λ limit. second.fits limit b.0 in
        let joined = followed from a.1 b.1 (first.spelled a.0) (second.spelled b.0) is.bytes is.behind are.bytes are.behind in
        record { fits = (is.fits, subst P same are.fits); bytes = joined.0; behind = joined.1 }))

    back : (at limit : ℕ) (c : A × B) (rest : List ℕ) → (first & second).fits limit c → (first & second).reading (spot at ((first.spelled c.0 ++ second.spelled c.1) ++ rest) limit) ≡ Ok (c, spot (at + length (first.spelled c.0 ++ second.spelled c.1)) rest limit)
    back at limit c rest fits =
        let texts = append_assoc (first.spelled c.0) (second.spelled c.1) rest in
        let sums : at + length (first.spelled c.0) + length (second.spelled c.1) ≡ at + length (first.spelled c.0 ++ second.spelled c.1) = omega (arith, length-append (first.spelled c.0) (second.spelled c.1)) in
        then_is _ _ (c.0, spot (at + length (first.spelled c.0)) (second.spelled c.1 ++ rest) limit) _
        (ap (λ text. first.reading (spot at text limit)) texts ∙ lawA.read_back at limit c.0 (second.spelled c.1 ++ rest) fits.0)
        (then_is _ _ (c.1, spot (at + length (first.spelled c.0) + length (second.spelled c.1)) rest limit) _
        (lawB.read_back (at + length (first.spelled c.0)) limit c.1 rest fits.1)
        (ap (λ place. Ok (c, spot place rest limit)) sums))

-- a record, where its parts are those that it is made of
pub record_law : {R : Type 0} (r : Record R) → ((p : r.Parts) → r.parts (r.make p) ≡ p) → ((x : R) → r.make (r.parts x) ≡ x) → Lawful r.fields → Lawful (recorded r)
record_law {R} r there again law = codec (recorded r).fits (recorded r).spelled (recorded r).reading so back
  where
    so : (from : Spot) → AreBytes from.left → IfOk ((recorded r).reading from) (λ (taken : R × Spot). IsSpelled (recorded r).fits (recorded r).spelled from taken.0 taken.1)
    so from bytes = then_holds (r.fields.reading from) _ (λ taken. IsSpelled r.fields.fits r.fields.spelled from taken.0 taken.1) _ (law.spelled_so from bytes) (λ a is.
        let P : r.Parts → Type 0 = λ x. IsSpelled r.fields.fits r.fields.spelled from x a.1 in
        let are = subst P (sym (there a.0)) is in
        record { fits = are.fits; bytes = are.bytes; behind = are.behind })

    back : (at limit : ℕ) (x : R) (rest : List ℕ) → r.fields.fits limit (r.parts x) → (recorded r).reading (spot at (r.fields.spelled (r.parts x) ++ rest) limit) ≡ Ok (x, spot (at + length (r.fields.spelled (r.parts x))) rest limit)
    back at limit x rest fits = then_is _ _ (r.parts x, spot (at + length (r.fields.spelled (r.parts x))) rest limit) _ (law.read_back at limit (r.parts x) rest fits) (ap (λ y. Ok (y, spot (at + length (r.fields.spelled (r.parts x))) rest limit)) (again x))

-- a value that may be missing
pub option_law : {A : Type 0} {value : Codec A} → Lawful value → Lawful (option_of value)
unfolding option_at
option_law {A} {value} law = codec (option_of value).fits (option_of value).spelled (option_of value).reading so back
  where
    here : (from : Spot) (b : Bool) (s : Spot) → AreBytes from.left → IsSpelled IsBool spelled_bool from b s → IfOk (behind_bool value.reading (b, s)) (λ (taken : Option A × Spot). IsSpelled (option_of value).fits (option_of value).spelled from taken.0 taken.1)
    here from false s bytes is = record { fits = tt; bytes = is.bytes; behind = is.behind }
    here from true s bytes is = then_holds (value.reading s) _ (λ taken. IsSpelled value.fits value.spelled s taken.0 taken.1) _ (law.spelled_so s (still_bytes from s 1 is.behind bytes)) (λ a are.
        let same : s.limit ≡ from.limit = ap (λ s. s.limit) is.behind in
        let P : ℕ → Type 0 = λ limit. value.fits limit a.0 in
        let joined = followed from s a.1 (spelled_bool true) (value.spelled a.0) is.bytes is.behind are.bytes are.behind in
        record { fits = subst P same are.fits; bytes = joined.0; behind = joined.1 })

    so : (from : Spot) → AreBytes from.left → IfOk (option_at value.reading from) (λ (taken : Option A × Spot). IsSpelled (option_of value).fits (option_of value).spelled from taken.0 taken.1)
    so from bytes = then_holds (bool_at from) _ (λ taken. IsSpelled IsBool spelled_bool from taken.0 taken.1) _ (truth_law.spelled_so from bytes) (λ b is. here from b.0 b.1 bytes is)

    back : (at limit : ℕ) (v : Option A) (rest : List ℕ) → IsOption value.fits limit v → option_at value.reading (spot at (spelled_option value.spelled v ++ rest) limit) ≡ Ok (v, spot (at + length (spelled_option value.spelled v)) rest limit)
    back at limit None rest fits = then_is _ _ (false, spot (at + 1) rest limit) _ (truth_law.read_back at limit false rest tt) refl
    back at limit (Some a) rest fits =
        let sums : at + 1 + length (value.spelled a) ≡ at + length (spelled_bool true ++ value.spelled a) = omega (arith, length-append (spelled_bool true) (value.spelled a)) in
        then_is _ _ (true, spot (at + 1) (value.spelled a ++ rest) limit) _ (truth_law.read_back at limit true (value.spelled a ++ rest) tt)
        (then_is _ _ (a, spot (at + 1 + length (value.spelled a)) rest limit) _ (law.read_back (at + 1) limit a rest fits)
        (ap (λ place. Ok (Some a, spot place rest limit)) sums))

-- kinds

known_holds : {K : Type 0} (at : ℕ) (to : Spot) (found : Option K) (P : K × Spot → Type 0) → ((k : K) → found ≡ Some k → P (k, to)) → IfOk (known at to found) P
known_holds at to None P holds = tt
known_holds at to (Some k) P holds = holds k refl

-- what is found passes
pub found_passes : {X : Type 0} (p : X → Bool) (xs : List X) (x : X) → find p xs ≡ Some x → p x ≡ true
found_passes {X} p [] x is = cc
found_passes {X} p (y ∷ ys) x is = here (p y) refl is (λ later. found_passes p ys x later)
  where
    here : (b : Bool) → p y ≡ b → cond b (Some y) (find p ys) ≡ Some x → (find p ys ≡ Some x → p x ≡ true) → p x ≡ true
    here true passes is others = let same : y ≡ x = cc in rw (← same) passes
    here false fails is others = others is

-- a kind is lawful by its name, where names and kinds find each other
pub named_law : {K T : Type 0} {text : Codec T} (name : K → T) (find : T → Option K) → ((k : K) → find (name k) ≡ Some k) → ((t : T) (k : K) → find t ≡ Some k → name k ≡ t) → Lawful text → Lawful (named text name find)
named_law {K} {T} {text} name find finds names law = codec (named text name find).fits (named text name find).spelled (named text name find).reading so back
  where
    so : (from : Spot) → AreBytes from.left → IfOk ((named text name find).reading from) (λ (taken : K × Spot). IsSpelled (named text name find).fits (named text name find).spelled from taken.0 taken.1)
    so from bytes = then_holds (text.reading from) _ (λ taken. IsSpelled text.fits text.spelled from taken.0 taken.1) _ (law.spelled_so from bytes) (λ t is.
        known_holds from.at t.1 (find t.0) _ (λ k found.
        let P : T → Type 0 = λ x. IsSpelled text.fits text.spelled from x t.1 in
        let are = subst P (sym (names t.0 k found)) is in
        record { fits = are.fits; bytes = are.bytes; behind = are.behind }))

    back : (at limit : ℕ) (k : K) (rest : List ℕ) → text.fits limit (name k) → (named text name find).reading (spot at (text.spelled (name k) ++ rest) limit) ≡ Ok (k, spot (at + length (text.spelled (name k))) rest limit)
    back at limit k rest fits = then_is _ _ (name k, spot (at + length (text.spelled (name k))) rest limit) _ (law.read_back at limit (name k) rest fits) (ap (known at (spot (at + length (text.spelled (name k))) rest limit)) (finds k))

-- a value of one of several kinds is lawful where its kind is, and what values of each kind have
pub choice_law : {K A : Type 0} {kind : Codec K} (kind_of : A → K) (bodies : K → Codec A) → ((k : K) (limit : ℕ) (a : A) → (bodies k).fits limit a → kind_of a ≡ k) → Lawful kind → ((k : K) → Lawful (bodies k)) → Lawful (choice kind kind_of bodies)
choice_law {K} {A} {kind} kind_of bodies same law laws = codec (choice kind kind_of bodies).fits (choice kind kind_of bodies).spelled (choice kind kind_of bodies).reading so back
  where
    so : (from : Spot) → AreBytes from.left → IfOk ((choice kind kind_of bodies).reading from) (λ (taken : A × Spot). IsSpelled (choice kind kind_of bodies).fits (choice kind kind_of bodies).spelled from taken.0 taken.1)
    so from bytes = then_holds (kind.reading from) _ (λ taken. IsSpelled kind.fits kind.spelled from taken.0 taken.1) _ (law.spelled_so from bytes) (λ k is.
        then_holds_one ((bodies k.0).reading k.1) (λ taken. IsSpelled (bodies k.0).fits (bodies k.0).spelled k.1 taken.0 taken.1) _ ((laws k.0).spelled_so k.1 (still_bytes from k.1 (length (kind.spelled k.0)) is.behind bytes)) (λ a are.
        let limits : k.1.limit ≡ from.limit = ap (λ s. s.limit) is.behind in
        let kinds : k.0 ≡ kind_of a.0 = sym (same k.0 k.1.limit a.0 are.fits) in
        let P : ℕ → Type 0 = λ limit. (bodies k.0).fits limit a.0 in
        let Q : K → Type 0 = λ x. kind.fits from.limit x × (bodies x).fits from.limit a.0 in
        let joined = followed from k.1 a.1 (kind.spelled k.0) ((bodies k.0).spelled a.0) is.bytes is.behind are.bytes are.behind in
        let texts : kind.spelled k.0 ++ (bodies k.0).spelled a.0 ≡ kind.spelled (kind_of a.0) ++ (bodies (kind_of a.0)).spelled a.0 = ap (λ x. kind.spelled x ++ (bodies x).spelled a.0) kinds in
        record {
          fits = subst Q kinds (is.fits, subst P limits are.fits);
          bytes = joined.0 ∙ ap (λ text. text ++ a.1.left) texts;
          behind = joined.1 ∙ ap (λ text. past (length text) from) texts;
        }))
      where
        then_holds_one : {X : Type 0} (r : Result X DecodeFault) (P Q : X → Type 0) → IfOk r P → ((x : X) → P x → Q x) → IfOk r Q
        then_holds_one r P Q holds so = weaker r P Q so holds

    back : (at limit : ℕ) (a : A) (rest : List ℕ) → (choice kind kind_of bodies).fits limit a → (choice kind kind_of bodies).reading (spot at ((kind.spelled (kind_of a) ++ (bodies (kind_of a)).spelled a) ++ rest) limit) ≡ Ok (a, spot (at + length (kind.spelled (kind_of a) ++ (bodies (kind_of a)).spelled a)) rest limit)
    back at limit a rest fits =
        let front = kind.spelled (kind_of a) in
        let text = (bodies (kind_of a)).spelled a in
        let texts = append_assoc front text rest in
        let sums : at + length front + length text ≡ at + length (front ++ text) = omega (arith, length-append front text) in
        then_is _ _ (kind_of a, spot (at + length front) (text ++ rest) limit) _
        (ap (λ xs. kind.reading (spot at xs limit)) texts ∙ law.read_back at limit (kind_of a) (text ++ rest) fits.0)
        ((laws (kind_of a)).read_back (at + length front) limit a rest fits.1 ∙ ap (λ place. Ok (a, spot place rest limit)) sums)

-- the values of one kind are lawful where their parts are
pub variant_law : {P A : Type 0} {fields : Codec P} (make : P → A) (parts : A → Option P) → ((p : P) → parts (make p) ≡ Some p) → ((a : A) (p : P) → parts a ≡ Some p → make p ≡ a) → Lawful fields → Lawful (variant fields make parts)
variant_law {P} {A} {fields} make parts there again law = codec (variant fields make parts).fits (variant fields make parts).spelled (variant fields make parts).reading so back
  where
    so : (from : Spot) → AreBytes from.left → IfOk ((variant fields make parts).reading from) (λ (taken : A × Spot). IsSpelled (variant fields make parts).fits (variant fields make parts).spelled from taken.0 taken.1)
    so from bytes = then_holds (fields.reading from) _ (λ taken. IsSpelled fields.fits fields.spelled from taken.0 taken.1) _ (law.spelled_so from bytes) (λ p is.
        let F : Option P → Type 0 = λ found. IsSpelled (λ (limit : ℕ) (x : A). FitsSome (fields.fits limit) found) (λ (x : A). spelled_some fields.spelled found) from (make p.0) p.1 in
        let are : F (Some p.0) = record { fits = is.fits; bytes = is.bytes; behind = is.behind } in
        let found = subst F (sym (there p.0)) are in
        record { fits = found.fits; bytes = found.bytes; behind = found.behind })

    here : (at limit : ℕ) (a : A) (rest : List ℕ) (found : Option P) → parts a ≡ found → FitsSome (fields.fits limit) found → (variant fields make parts).reading (spot at (spelled_some fields.spelled found ++ rest) limit) ≡ Ok (a, spot (at + length (spelled_some fields.spelled found)) rest limit)
    here at limit a rest None is fits = absurd fits
    here at limit a rest (Some p) is fits = then_is _ _ (p, spot (at + length (fields.spelled p)) rest limit) _ (law.read_back at limit p rest fits) (ap (λ x. Ok (x, spot (at + length (fields.spelled p)) rest limit)) (again a p is))

    back : (at limit : ℕ) (a : A) (rest : List ℕ) → FitsSome (fields.fits limit) (parts a) → (variant fields make parts).reading (spot at (spelled_some fields.spelled (parts a) ++ rest) limit) ≡ Ok (a, spot (at + length (spelled_some fields.spelled (parts a))) rest limit)
    back at limit a rest fits = here at limit a rest (parts a) refl fits

-- what has no bytes is lawful
pub nothing_law : Lawful nothing
nothing_law = codec nothing.fits nothing.spelled nothing.reading
    (λ from bytes. record { fits = tt; bytes = refl; behind = ap (λ at. spot at from.left from.limit) (omega arith) })
    (λ at limit value rest fits. ap (λ place. Ok (tt, spot place rest limit)) (omega arith))
