-- The least slot that isn't whole, slot by slot.
use Rattle.std.proofs.Common.{◌≡◌, ◌⊎◌, ⊎_elim, ℕ, ◌+◌, ◌<◌, ◌≤◌, List, [], ◌∷◌, ◌++◌, length, take, min, Bool, true, false, Option, Some, None, refl, sym, ap, subst, ◌∙◌, arith}
use Rattle.std.specs.List.{All, Contains}
use Rattle.std.proofs.lemmas.Bool.{cases_lt, false≢true}
use Rattle.std.proofs.lemmas.List.Elements.{All-push, Contains-append_left, Contains-append_right}
use Rattle.sia_book.specs.Opening.{IsLeastMissing, is_missing, least_missing_with}

module _ (sector slots end : ℕ) where
  abbrev Missing : ℕ → Bool
  Missing slot = is_missing sector slots end slot

  last : (front : List ℕ) (slot : ℕ) → Contains (front ++ slot ∷ []) slot
  last front slot = Contains-append_right front (slot ∷ []) slot (0, omega arith, refl)

  -- with one slot more
  pub least_more : (front : List ℕ) (slot : ℕ) (missing : Bool) → Missing slot ≡ missing → (least : Option ℕ) → IsLeastMissing sector slots end front least
      → IsLeastMissing sector slots end (front ++ slot ∷ []) (least_missing_with least slot missing)
  least_more front slot false is None none = All-push (λ s. Missing s ≡ false) front slot none is
  least_more front slot false is (Some least) one = (
    Contains-append_left front (slot ∷ []) least one.0,
    one.1,
    All-push (λ s. Missing s ≡ true → least ≤ s) front slot one.2 (λ was. absurd (false≢true (sym is ∙ was))),
  )
  least_more front slot true is None none = (
    last front slot,
    is,
    All-push (λ s. Missing s ≡ true → slot ≤ s) front slot (λ k d lt was. absurd (false≢true (sym (none k d lt) ∙ was))) (λ was. omega arith),
  )
  least_more front slot true is (Some least) one =
      let All_above : ℕ → Type 0 = λ n. All (λ s. Missing s ≡ true → n ≤ s) (front ++ slot ∷ []) in
      let Least : ℕ → Type 0 = λ n. Contains (front ++ slot ∷ []) n × (Missing n ≡ true) × All_above n in
      ⊎_elim
      (λ lt.
      let same : min least slot ≡ slot = omega (arith, lt) in
      subst Least (sym same) (
        last front slot,
        is,
        All-push (λ s. Missing s ≡ true → slot ≤ s) front slot (λ k d within was. let above = one.2 k d within was in omega (arith, lt, above)) (λ was. omega arith),
      ))
      (λ le.
      let same : min least slot ≡ least = omega (arith, le) in
      subst Least (sym same) (
        Contains-append_left front (slot ∷ []) least one.0,
        one.1,
        All-push (λ s. Missing s ≡ true → least ≤ s) front slot one.2 (λ was. le),
      ))
      (cases_lt slot least)
