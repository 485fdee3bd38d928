-- Readings that give back what a spelling writes, and how larger ones are made of smaller ones. No public
-- clause speaks of these lemmas; they stand here since the laws of records are made of them.
use Rattle.std.proofs.Common.{◌≡◌, ℕ, ◌+◌, ◌<◌, ◌≤◌, Bool, true, false, List, [], ◌++◌, length, nat_lt, if◌then◌else◌, IfOk, Result, Ok, Err, refl, sym, ap, subst, ◌∙◌, append_assoc, length-append, add_assoc, arith}
use Rattle.std.proofs.Math.Seq.{drop-append_seam, take-append_seam}
use Rattle.std.proofs.lemmas.Bool.{le-ltb, ltb-false}
use Rattle.std.proofs.lemmas.List.{append-nil, drop-drop, take-append-drop, length-take-le}
use Rattle.std.proofs.lemmas.List.Elements.{All-drop, All-take}
use Rattle.std.specs.Result.{result_unwrap_or}
use Rattle.sia_encoding.specs.declared.fault.DecodeFault.{DecodeFault}
use Rattle.sia_encoding.specs.Spelling.{spelled_u64}
use Rattle.sia_encoding.specs.Answer.{◌>>=◌}
use Rattle.sia_encoding.specs.Reading.{Spot, past, fixed_at}
use Rattle.sia_encoding.specs.Codec.{AreBytes, spot, IsSpelled, IsCodec, IsFixed, spelled_fixed}

-- a reading in steps

-- what holds of a value where a test that gives a fault fails
pub else_holds : {A : Type 0} (b : Bool) (e : DecodeFault) (r : Result A DecodeFault) (P : A → Type 0) → (b ≡ false → IfOk r P) → IfOk (if b then Err e else r) P
else_holds true e r P holds = tt
else_holds false e r P holds = holds refl

-- what holds of the value of two readings, the second behind the first
pub then_holds : {A B : Type 0} (r : Result A DecodeFault) (next : A → Result B DecodeFault) (P : A → Type 0) (Q : B → Type 0) → IfOk r P → ((x : A) → P x → IfOk (next x) Q) → IfOk (r >>= next) Q
then_holds (Ok x) next P Q first holds = holds x first
then_holds (Err e) next P Q first holds = tt

-- what holds of a value, and so something weaker
pub weaker : {A : Type 0} (r : Result A DecodeFault) (P Q : A → Type 0) → ((x : A) → P x → Q x) → IfOk r P → IfOk r Q
weaker (Ok x) P Q so holds = so x holds
weaker (Err e) P Q so holds = tt

-- a test that gives a fault fails
pub else_is : {A : Type 0} (b : Bool) (e : DecodeFault) (r : Result A DecodeFault) → b ≡ false → (if b then Err e else r) ≡ r
else_is b e r is = ap (λ b. if b then Err e else r) is

-- two readings that give their values
pub then_is : {A B : Type 0} (r : Result A DecodeFault) (next : A → Result B DecodeFault) (x : A) (y : Result B DecodeFault) → r ≡ Ok x → next x ≡ y → (r >>= next) ≡ y
then_is r next x y first second = ap (λ r. r >>= next) first ∙ second

same_ok : {A : Type 0} (x y : A) (r s : Result A DecodeFault) → r ≡ Ok x → s ≡ Ok y → r ≡ s → x ≡ y
same_ok x y r s is is' same = let e = sym is ∙ same ∙ is' in ap (λ r. result_unwrap_or r x) e

--  = ap (λ r. result_unwrap_or r x) e

-- the third law follows from the second
pub codec : {A : Type 0} (Fits : ℕ → A → Type 0) (spelled : A → List ℕ) (read : Spot → Result (A × Spot) DecodeFault) → ((from : Spot) → AreBytes from.left → IfOk (read from) (λ taken. IsSpelled Fits spelled from taken.0 taken.1)) → ((at limit : ℕ) (value : A) (rest : List ℕ) → Fits limit value → read (spot at (spelled value ++ rest) limit) ≡ Ok (value, spot (at + length (spelled value)) rest limit)) → IsCodec Fits spelled read
codec Fits spelled read so back = record {
  spelled_so = so;
  read_back = back;
  no_prefix = λ limit value other rest fits others same.
      let whole = back 0 limit value [] fits in
      let part = back 0 limit other rest others in
      let texts : spelled value ++ [] ≡ spelled other ++ rest = append-nil (spelled value) ∙ same in
      let both = same_ok _ _ _ _ whole part (ap (λ text. read (spot 0 text limit)) texts) in
      (ap (λ taken. taken.0) both, sym (ap (λ taken. taken.1.left) both));
}

-- two items behind each other

-- bytes behind bytes are bytes, and the spot is behind both
pub followed : (s t u : Spot) (xs ys : List ℕ) → s.left ≡ xs ++ t.left → t ≡ past (length xs) s → t.left ≡ ys ++ u.left → u ≡ past (length ys) t → (s.left ≡ (xs ++ ys) ++ u.left) × (u ≡ past (length (xs ++ ys)) s)
followed s t u xs ys front first back second = (
  front ∙ ap (λ rest. xs ++ rest) back ∙ sym (append_assoc xs ys u.left),
  second ∙ ap (past (length ys)) first ∙ (let sums : length xs + length ys ≡ length (xs ++ ys) = sym (length-append xs ys) in rw (← sums, drop-drop (length ys) (length xs) s.left, add_assoc s.at (length xs) (length ys)) refl),
)

-- what is left of bytes is bytes
pub still_bytes : (s t : Spot) (n : ℕ) → t ≡ past n s → AreBytes s.left → AreBytes t.left
still_bytes s t n behind bytes = let P : Spot → Type 0 = λ u. AreBytes u.left in subst P (sym behind) (All-drop (λ byte. byte < 256) n s.left bytes)

-- a fixed array
pub fixed_law : (n : ℕ) → IsCodec (IsFixed n) spelled_fixed (fixed_at n)
unfolding fixed_at
fixed_law n = codec (IsFixed n) spelled_fixed (fixed_at n) so back
  where
    so : (from : Spot) → AreBytes from.left → IfOk (fixed_at n from) (λ taken. IsSpelled (IsFixed n) spelled_fixed from taken.0 taken.1)
    so from bytes = else_holds (nat_lt (length from.left) n) _ _ _ (λ enough.
        let long = length-take-le n from.left (ltb-false _ _ enough) in
        record {
          fits = (long, All-take (λ byte. byte < 256) n from.left bytes);
          bytes = sym (take-append-drop n from.left);
          behind = ap (λ k. past k from) (sym long);
        })

    back : (at limit : ℕ) (value rest : List ℕ) → IsFixed n limit value → fixed_at n (spot at (value ++ rest) limit) ≡ Ok (value, spot (at + length value) rest limit)
    back at limit value rest fits =
        let enough : n ≤ length (value ++ rest) = omega (arith, length-append value rest, fits.0) in
        else_is _ _ _ (le-ltb _ _ enough) ∙ (rw (← fits.0, take-append_seam value rest, drop-append_seam value rest) refl)

-- an item that is read and then judged

-- an item that is read and then judged is lawful where the judgement keeps its spelling
pub judged_codec : {A B : Type 0} {Fits : ℕ → A → Type 0} {spelled : A → List ℕ} {read : Spot → Result (A × Spot) DecodeFault} (Fits' : ℕ → B → Type 0) (spelled' : B → List ℕ) (judge : Spot → A × Spot → Result (B × Spot) DecodeFault) → IsCodec Fits spelled read → ((from to : Spot) (a : A) → Fits from.limit a → IfOk (judge from (a, to)) (λ taken. Fits' from.limit taken.0 × (spelled' taken.0 ≡ spelled a) × (taken.1 ≡ to))) → ((limit : ℕ) (b : B) → Fits' limit b → (a : A) × Fits limit a × (spelled a ≡ spelled' b) × ((from to : Spot) → from.limit ≡ limit → judge from (a, to) ≡ Ok (b, to))) → IsCodec Fits' spelled' (λ from. read from >>= judge from)
judged_codec {A} {B} {Fits} {spelled} {read} Fits' spelled' judge first there back = codec Fits' spelled' (λ from. read from >>= judge from) so again
  where
    so : (from : Spot) → AreBytes from.left → IfOk (read from >>= judge from) (λ taken. IsSpelled Fits' spelled' from taken.0 taken.1)
    so from bytes = then_holds (read from) (judge from) (λ taken. IsSpelled Fits spelled from taken.0 taken.1) (λ taken. IsSpelled Fits' spelled' from taken.0 taken.1) (first.spelled_so from bytes) (λ taken is.
        weaker (judge from taken) _ _ (λ judged facts. record {
          fits = facts.0;
          bytes = is.bytes ∙ ap (λ text. text ++ taken.1.left) (sym facts.1) ∙ ap (λ to. spelled' judged.0 ++ to.left) (sym facts.2);
          behind = facts.2 ∙ is.behind ∙ ap (λ text. past (length text) from) (sym facts.1);
        }) (there from taken.1 taken.0 is.fits))

    again : (at limit : ℕ) (b : B) (rest : List ℕ) → Fits' limit b → (read (spot at (spelled' b ++ rest) limit) >>= judge (spot at (spelled' b ++ rest) limit)) ≡ Ok (b, spot (at + length (spelled' b)) rest limit)
    again at limit b rest fits =
        let origin = back limit b fits in
        then_is (read (spot at (spelled' b ++ rest) limit)) (judge (spot at (spelled' b ++ rest) limit)) (origin.0, spot (at + length (spelled' b)) rest limit) (Ok (b, spot (at + length (spelled' b)) rest limit))
        (ap (λ text. read (spot at (text ++ rest) limit)) (sym origin.2) ∙ first.read_back at limit origin.0 rest origin.1 ∙ ap (λ text. Ok (origin.0, spot (at + length text) rest limit)) origin.2)
        (origin.3 _ _ refl)

-- a length or count, and a content of so many

-- a count and a content of so many is lawful where both are
pub counted_codec : {A : Type 0} {Fits : ℕ → ℕ → Type 0} {count_at : Spot → Result (ℕ × Spot) DecodeFault} (size : A → ℕ) (Content : ℕ → A → Type 0) (spelled : A → List ℕ) (content_at : ℕ → Spot → Result (A × Spot) DecodeFault) → IsCodec Fits spelled_u64 count_at → ((n : ℕ) → IsCodec (λ limit value. (size value ≡ n) × Content limit value) spelled (content_at n)) → IsCodec (λ limit value. Fits limit (size value) × Content limit value) (λ value. spelled_u64 (size value) ++ spelled value) (λ from. count_at from >>= (λ count. content_at count.0 count.1))
counted_codec {A} {Fits} {count_at} size Content spelled content_at count content = codec (λ limit value. Fits limit (size value) × Content limit value) (λ value. spelled_u64 (size value) ++ spelled value) (λ from. count_at from >>= (λ count. content_at count.0 count.1)) so back
  where
    so : (from : Spot) → AreBytes from.left → IfOk (count_at from >>= (λ count. content_at count.0 count.1)) (λ taken. IsSpelled (λ limit value. Fits limit (size value) × Content limit value) (λ value. spelled_u64 (size value) ++ spelled value) from taken.0 taken.1)
    so from bytes = then_holds (count_at from) (λ count. content_at count.0 count.1) (λ taken. IsSpelled Fits spelled_u64 from taken.0 taken.1) _ (count.spelled_so from bytes) (λ n is.
        weaker (content_at n.0 n.1) (λ taken. IsSpelled (λ limit value. (size value ≡ n.0) × Content limit value) spelled n.1 taken.0 taken.1) _ (λ taken inner.
        let same : n.1.limit ≡ from.limit = ap (λ s. s.limit) is.behind in
        let P : ℕ → Type 0 = λ limit. Content limit taken.0 in
        let Q : ℕ → Type 0 = λ m. Fits from.limit m in
        let joined = followed from n.1 taken.1 (spelled_u64 n.0) (spelled taken.0) is.bytes is.behind inner.bytes inner.behind in
        let texts : spelled_u64 n.0 ++ spelled taken.0 ≡ spelled_u64 (size taken.0) ++ spelled taken.0 = ap (λ m. spelled_u64 m ++ spelled taken.0) (sym inner.fits.0) in
        record {
          fits = (subst Q (sym inner.fits.0) is.fits, subst P same inner.fits.1);
          bytes = joined.0 ∙ ap (λ text. text ++ taken.1.left) texts;
          behind = joined.1 ∙ ap (λ text. past (length text) from) texts;
        })
        ((content n.0).spelled_so n.1 (still_bytes from n.1 (length (spelled_u64 n.0)) is.behind bytes)))

    back : (at limit : ℕ) (value : A) (rest : List ℕ) → Fits limit (size value) × Content limit value → (count_at (spot at ((spelled_u64 (size value) ++ spelled value) ++ rest) limit) >>= (λ count. content_at count.0 count.1)) ≡ Ok (value, spot (at + length (spelled_u64 (size value) ++ spelled value)) rest limit)
    back at limit value rest fits =
        let texts = append_assoc (spelled_u64 (size value)) (spelled value) rest in
        let sums : at + length (spelled_u64 (size value)) + length (spelled value) ≡ at + length (spelled_u64 (size value) ++ spelled value) = omega (arith, length-append (spelled_u64 (size value)) (spelled value)) in
        then_is _ (λ count. content_at count.0 count.1) (size value, spot (at + length (spelled_u64 (size value))) (spelled value ++ rest) limit) _
        (ap (λ text. count_at (spot at text limit)) texts ∙ count.read_back at limit (size value) (spelled value ++ rest) fits.0)
        ((content (size value)).read_back (at + length (spelled_u64 (size value))) limit value rest (refl, fits.1) ∙ ap (λ place. Ok (value, spot place rest limit)) sums)
