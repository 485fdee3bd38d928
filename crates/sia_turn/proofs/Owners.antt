-- Whose each position is, after entries were added or one pass took another in.
use Rattle.std.proofs.Common.{◌≡◌, ◌≢◌, ◌⊎◌, ℕ, ◌<◌, ◌≤◌, refl, sym, ◌∙◌, inl, inr, arith}
use mathlib.Core.Logic.{dite}
use native.Mathlib.Decide.{dec_le, ℕ_discrete}

abbrev choose : {P : Type 0} → Dec P → ℕ → ℕ → ℕ
choose (yes p) a b = a
choose (no n) a b = b

choose_yes : {P : Type 0} (d : Dec P) (a b : ℕ) → P → choose d a b ≡ a
choose_yes (yes p) a b h = refl
choose_yes (no n) a b h = absurd (n h)

choose_no : {P : Type 0} (d : Dec P) (a b : ℕ) → (P → ⊥) → choose d a b ≡ b
choose_no (yes p) a b h = absurd (h p)
choose_no (no n) a b h = refl

module _ (owner : ℕ → ℕ) where
  -- the positions from n on are the seat's
  pub added : ℕ → ℕ → ℕ → ℕ
  added n id p = choose (dec_le n p) id (owner p)

  pub added_behind : (n id p : ℕ) → n ≤ p → added n id p ≡ id
  unfolding added
  added_behind n id p le = choose_yes (dec_le n p) id (owner p) le

  pub added_before : (n id p : ℕ) → p < n → added n id p ≡ owner p
  unfolding added
  added_before n id p lt = choose_no (dec_le n p) id (owner p) (λ le. omega arith)

  -- what was the other's is the seat's
  pub handed : ℕ → ℕ → ℕ → ℕ
  handed id other p = choose (ℕ_discrete (owner p) other) id (owner p)

  pub handed_other : (id other p : ℕ) → owner p ≡ other → handed id other p ≡ id
  unfolding handed
  handed_other id other p e = choose_yes (ℕ_discrete (owner p) other) id (owner p) e

  pub handed_else : (id other p : ℕ) → owner p ≢ other → handed id other p ≡ owner p
  unfolding handed
  handed_else id other p off = choose_no (ℕ_discrete (owner p) other) id (owner p) off

  -- whose a position is, if it isn't the seat's
  pub handed_from : (id other p j : ℕ) → j ≢ id → handed id other p ≡ j → (owner p ≡ j) × (j ≢ other)
  handed_from id other p j off e = dite (ℕ_discrete (owner p) other)
      (λ same. absurd (off (sym e ∙ handed_other id other p same)))
      (λ apart. let keep = handed_else id other p apart in (sym keep ∙ e, λ is. apart (sym keep ∙ (e ∙ is))))

  -- a position that is the seat's was the seat's, or the other's
  pub handed_to : (id other p : ℕ) → handed id other p ≡ id → (owner p ≡ id) ⊎ (owner p ≡ other)
  handed_to id other p e = dite (ℕ_discrete (owner p) other) (λ same. inr same) (λ apart. inl (sym (handed_else id other p apart) ∙ e))

  pub handed_below : (id other p n : ℕ) → id < n → owner p < n → handed id other p < n
  handed_below id other p n low lt = dite (ℕ_discrete (owner p) other)
      (λ same. let e = handed_other id other p same in omega arith)
      (λ apart. let e = handed_else id other p apart in omega arith)
