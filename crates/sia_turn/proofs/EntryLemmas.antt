-- Lists of entries: beginnings, positions, and own entries.
use Rattle.std.proofs.Common.{◌≡◌, ◌≢◌, ◌⊎◌, ℕ, zero, suc, ◌+◌, ◌<◌, ◌≤◌, List, [], ◌∷◌, ◌++◌, length, get_or, Some, refl, sym, ap, ◌∙◌, subst, inl, inr, ⊎_elim, append_assoc, arith}
use Rattle.std.proofs.lemmas.List.{append-nil}
use Rattle.std.specs.Prelude.{slice_get, Contains, All}
use Rattle.std.proofs.lemmas.List.Elements.{All-append, Contains-append_right, Contains-get_or}
use Rattle.std.proofs.lemmas.List.Kept.{AllPairs-cons}
use Rattle.sia_turn.specs.Entries.{StartsWith, numbered, AreDisjoint, IsEachOnce}

module _ {X : Type 0} where
  Contains-none : (y : X) → Contains [] y → ⊥
  Contains-none y c = let lt = c.1 in absurd (omega arith)

  Contains-first : (x : X) (xs : List X) → Contains (x ∷ xs) x
  Contains-first x xs = (0, omega arith, refl)

  Contains-later : (x : X) (xs : List X) (y : X) → Contains xs y → Contains (x ∷ xs) y
  Contains-later x xs y c = let lt = c.1 in (suc c.0, omega arith, c.2)

  Contains-cases : (x : X) (xs : List X) (y : X) → Contains (x ∷ xs) y → (x ≡ y) ⊎ Contains xs y
  Contains-cases x xs y (zero, lt, e) = inl e
  Contains-cases x xs y (suc k, lt, e) = inr (k, omega arith, e)

module _ {E : Type 0} where
  pub starts_itself : (log : List E) → StartsWith log log
  starts_itself log = ([], sym (append-nil log))

  pub starts_empty : (log : List E) → StartsWith log []
  starts_empty log = (log, refl)

  pub starts_longer : (log seen added : List E) → StartsWith log seen → StartsWith (log ++ added) seen
  starts_longer log seen added s = (s.0 ++ added, ap (λ l. l ++ added) s.1 ∙ append_assoc seen s.0 added)

  -- of two beginnings of one list the longer begins with the shorter
  pub starts_shorter : (log xs ys : List E) → StartsWith log xs → StartsWith log ys → length ys ≤ length xs → StartsWith xs ys
  starts_shorter log xs [] a b le = (xs, refl)
  starts_shorter log [] (y ∷ ys) a b le = absurd (omega arith)
  starts_shorter [] (x ∷ xs) (y ∷ ys) a b le = let e = a.1 in absurd (cc)
  starts_shorter (l ∷ ls) (x ∷ xs) (y ∷ ys) a b le =
      let e = a.1 in
      let f = b.1 in
      let u : ls ≡ xs ++ a.0 = cc in
      let v : ls ≡ ys ++ b.0 = cc in
      let r = starts_shorter ls xs ys (a.0, u) (b.0, v) (omega arith) in
      let h : x ≡ y = cc in
      (r.0, λ i. h i ∷ r.1 i)

  pub slice_get_front : (xs ys : List E) (p : ℕ) (e : E) → slice_get xs p ≡ Some e → slice_get (xs ++ ys) p ≡ Some e
  slice_get_front [] ys p e h = absurd (cc)
  slice_get_front (x ∷ xs) ys zero e h = h
  slice_get_front (x ∷ xs) ys (suc p) e h = slice_get_front xs ys p e h

  pub slice_get_behind : (xs ys : List E) (k : ℕ) (e : E) → slice_get ys k ≡ Some e → slice_get (xs ++ ys) (length xs + k) ≡ Some e
  slice_get_behind [] ys k e h = let same : 0 + k ≡ k = omega arith in rw same h
  slice_get_behind (x ∷ xs) ys k e h = let same : suc (length xs) + k ≡ suc (length xs + k) = omega arith in rw same (slice_get_behind xs ys k e h)

  -- an entry of two lists is in the first, or in the second
  pub slice_get_parts : (xs ys : List E) (p : ℕ) (e : E) → slice_get (xs ++ ys) p ≡ Some e → ((p < length xs) × (slice_get xs p ≡ Some e)) ⊎ ((k : ℕ) × (p ≡ length xs + k) × (slice_get ys k ≡ Some e))
  slice_get_parts [] ys p e h = inr (p, omega arith, h)
  slice_get_parts (x ∷ xs) ys zero e h = inl (omega arith, h)
  slice_get_parts (x ∷ xs) ys (suc p) e h = ⊎_elim (λ a. let lt = a.0 in inl (omega arith, a.1)) (λ b. let at = b.1 in inr (b.0, omega arith, b.2)) (slice_get_parts xs ys p e h)

  pub slice_get_below : (xs : List E) (p : ℕ) (e : E) → slice_get xs p ≡ Some e → p < length xs
  slice_get_below [] p e h = absurd (cc)
  slice_get_below (x ∷ xs) zero e h = omega arith
  slice_get_below (x ∷ xs) (suc p) e h = let lt = slice_get_below xs p e h in omega arith

  pub numbered_has : (n : ℕ) (es : List E) (k : ℕ) (e : E) → slice_get es k ≡ Some e → Contains (numbered n es) (n + k, e)
  numbered_has n [] k e h = absurd (cc)
  numbered_has n (x ∷ xs) zero e h =
      let same : x ≡ e = cc in
      let here : n + 0 ≡ n = omega arith in
      rw (here, ← same) (Contains-first (n, x) (numbered (suc n) xs))
  numbered_has n (x ∷ xs) (suc k) e h =
      let there : n + suc k ≡ suc n + k = omega arith in
      rw there (Contains-later (n, x) (numbered (suc n) xs) (suc n + k, e) (numbered_has (suc n) xs k e h))

  pub numbered_at : (n : ℕ) (es : List E) (p : ℕ) (e : E) → Contains (numbered n es) (p, e) → (k : ℕ) × (p ≡ n + k) × (slice_get es k ≡ Some e)
  numbered_at n [] p e c = absurd (Contains-none (p, e) c)
  numbered_at n (x ∷ xs) p e c = ⊎_elim
      (λ (same : (n, x) ≡ (p, e)). let at : n ≡ p = ap (λ (y : ℕ × E). y.0) same in (0, omega arith, ap (λ (y : ℕ × E). Some y.1) same))
      (λ later. let r = numbered_at (suc n) xs p e later in let at = r.1 in (suc r.0, omega arith, r.2))
      (Contains-cases (n, x) (numbered (suc n) xs) (p, e) c)

  -- no entry has x's position
  apart_from : (x : ℕ × E) (ys : List (ℕ × E)) → ((e : E) → Contains ys (x.0, e) → ⊥) → All (λ y. x.0 ≢ y.0) ys
  apart_from x ys off k d lt same =
      let y = get_or ys k d in
      off y.1 (subst (λ (p : ℕ). Contains ys (p, y.1)) (sym same) (Contains-get_or ys k d lt))

  pub once_both : (xs ys : List (ℕ × E)) → IsEachOnce xs → IsEachOnce ys → AreDisjoint xs ys → IsEachOnce (xs ++ ys)
  once_both [] ys a b off = b
  once_both (x ∷ xs) ys a b off =
      AllPairs-cons (λ (u v : ℕ × E). u.0 ≢ v.0) x (xs ++ ys)
      (All-append (λ (v : ℕ × E). x.0 ≢ v.0) xs ys (λ k d lt. a 0 (suc k) d (omega arith) (omega arith)) (apart_from x ys (λ e c. off x.0 x.1 e (Contains-first x xs) c)))
      (once_both xs ys (λ i j d ij lt. a (suc i) (suc j) d (omega arith) (omega arith)) b (λ p u v c. off p u v (Contains-later x xs (p, u) c)))

  pub once_apart : (xs ys : List (ℕ × E)) → IsEachOnce (xs ++ ys) → AreDisjoint xs ys
  once_apart [] ys o p a b c there = absurd (Contains-none (p, a) c)
  once_apart (x ∷ xs) ys o p a b c there = ⊎_elim
      (λ (same : x ≡ (p, a)). let far = Contains-append_right xs ys (p, b) there in let lt = far.1 in o 0 (suc far.0) (p, b) (omega arith) (omega arith) (ap (λ (y : ℕ × E). y.0) same ∙ sym (ap (λ (y : ℕ × E). y.0) far.2)))
      (λ later. once_apart xs ys (λ i j d ij lt. o (suc i) (suc j) d (omega arith) (omega arith)) p a b later there)
      (Contains-cases x xs (p, a) c)

  pub numbered_once : (n : ℕ) (es : List E) → IsEachOnce (numbered n es)
  numbered_once n [] = λ i j d ij lt. absurd (omega arith)
  numbered_once n (e ∷ es) = AllPairs-cons (λ (u v : ℕ × E). u.0 ≢ v.0) (n, e) (numbered (suc n) es)
      (apart_from (n, e) (numbered (suc n) es) (λ u c. let r = numbered_at (suc n) es n u c in let at = r.1 in absurd (omega arith)))
      (numbered_once (suc n) es)

  -- nothing stands among no entries
  pub own_none : (own : List (ℕ × E)) (p : ℕ) (e : E) → own ≡ [] → Contains own (p, e) → ⊥
  own_none own p e none c = Contains-none (p, e) (subst (λ (xs : List (ℕ × E)). Contains xs (p, e)) none c)
