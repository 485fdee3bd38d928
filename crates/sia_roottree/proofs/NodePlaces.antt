-- Places of nodes: each is inside its segment, and no two are one.
use Rattle.std.proofs.Common.{◌≡◌, ◌≢◌, ◌⊎◌, ℕ, zero, suc, ◌+◌, ◌-◌, ◌*◌, ◌^◌, ◌/◌, ◌<◌, ◌≤◌, refl, sym, subst, add-zero, ◌∙◌, ap, inl, inr, ⊎_elim, arith}
use native.Mathlib.Nat.{pow-suc}
use Rattle.std.proofs.lemmas.Nat.{pow_pos, shr_split, shr-shr, mod_below, pow-add}
use Rattle.sia_merkle.proofs.Trees.{pow_up}
use Rattle.sia_roottree.specs.KeptNodes.{node_place}

-- how two numbers stand
pub le_or_more : (a b : ℕ) → (a ≤ b) ⊎ (b < a)
le_or_more zero b = inl (omega arith)
le_or_more (suc a) zero = inr (omega arith)
le_or_more (suc a) (suc b) = ⊎_elim (λ le. inl (omega arith)) (λ lt. inr (omega arith)) (le_or_more a b)

pub one_or_other : (a b : ℕ) → (a ≡ b) ⊎ (a ≢ b)
one_or_other a b = ⊎_elim (λ le. ⊎_elim (λ ge. inl (omega arith)) (λ lt. inr (λ e. absurd (omega arith))) (le_or_more b a)) (λ lt. inr (λ e. absurd (omega arith))) (le_or_more a b)

-- a segment inside 65,536 places
pub level_low : (level index : ℕ) → (index + 1) * 2 ^ level ≤ 65536 → level ≤ 16
level_low level index fits = ⊎_elim (λ le. le) high (le_or_more level 16) where
  high : 16 < level → level ≤ 16
  high above =
      let up : 2 ^ 17 ≤ 2 ^ (level - 17 + 17) = pow_up (level - 17) 17 in
      let same : level - 17 + 17 ≡ level = omega arith in
      let wide : 2 ^ (level - 17 + 17) ≡ 2 ^ level = ap (λ l. 2 ^ l) same in
      absurd (omega arith)

pub place_within : (below index : ℕ) → node_place below index < (index + 1) * 2 ^ suc below
place_within below index =
    let end : (index + 1) * 2 ^ suc below ≡ (2 * index + 1) * 2 ^ below + 2 ^ below = ap (λ w. (index + 1) * w) (pow-suc 2 below) ∙ (omega arith) in
    omega (arith, pow_pos below)

odd_same : (below other i j : ℕ) → (2 * i + 1) * 2 ^ below ≡ (2 * j + 1) * 2 ^ other → (below ≡ other) × (i ≡ j)
odd_same zero zero i j same = (refl, omega arith)
odd_same zero (suc other) i j same =
    let even : (2 * j + 1) * 2 ^ suc other ≡ (2 * j + 1) * 2 ^ other * 2 = ap (λ p. (2 * j + 1) * p) (pow-suc 2 other) ∙ (omega arith) in
    absurd (omega arith)
odd_same (suc below) zero i j same =
    let even : (2 * i + 1) * 2 ^ suc below ≡ (2 * i + 1) * 2 ^ below * 2 = ap (λ p. (2 * i + 1) * p) (pow-suc 2 below) ∙ (omega arith) in
    absurd (omega arith)
odd_same (suc below) (suc other) i j same =
    let left : (2 * i + 1) * 2 ^ suc below ≡ (2 * i + 1) * 2 ^ below * 2 = ap (λ p. (2 * i + 1) * p) (pow-suc 2 below) ∙ (omega arith) in
    let right : (2 * j + 1) * 2 ^ suc other ≡ (2 * j + 1) * 2 ^ other * 2 = ap (λ p. (2 * j + 1) * p) (pow-suc 2 other) ∙ (omega arith) in
    let r = odd_same below other i j (omega arith) in
    (ap suc r.0, r.1)

pub place_same : (below other i j : ℕ) → node_place below i ≡ node_place other j → (below ≡ other) × (i ≡ j)
place_same below other i j same =
    let some : 0 < (2 * i + 1) * 2 ^ below = omega (arith, pow_pos below) in
    let more : 0 < (2 * j + 1) * 2 ^ other = omega (arith, pow_pos other) in
    odd_same below other i j (omega arith)

-- a place is not in another segment
pub place_beside : (place level index : ℕ) → index ≢ place / 2 ^ level → (place < index * 2 ^ level) ⊎ ((index + 1) * 2 ^ level ≤ place)
place_beside place level index other = ⊎_elim below above (le_or_more index (place / 2 ^ level)) where
  below : index ≤ place / 2 ^ level → (place < index * 2 ^ level) ⊎ ((index + 1) * 2 ^ level ≤ place)
  below le =
      let lt : index < place / 2 ^ level = ⊎_elim (λ ge. absurd (other (omega arith))) (λ lt. lt) (le_or_more (place / 2 ^ level) index) in
      let gap : index + 1 + (place / 2 ^ level - (index + 1)) ≡ place / 2 ^ level = omega arith in
      let product : (index + 1) * 2 ^ level + (place / 2 ^ level - (index + 1)) * 2 ^ level ≡ place / 2 ^ level * 2 ^ level = (omega arith) ∙ ap (λ q. q * 2 ^ level) gap in
      inr (omega (arith, product, shr_split place level))

  above : place / 2 ^ level < index → (place < index * 2 ^ level) ⊎ ((index + 1) * 2 ^ level ≤ place)
  above lt =
      let gap : place / 2 ^ level + 1 + (index - (place / 2 ^ level + 1)) ≡ index = omega arith in
      let product : place / 2 ^ level * 2 ^ level + 2 ^ level + (index - (place / 2 ^ level + 1)) * 2 ^ level ≡ index * 2 ^ level = (omega arith) ∙ ap (λ q. q * 2 ^ level) gap in
      inl (omega (arith, product, shr_split place level, mod_below place (2 ^ level) (pow_pos level)))

-- where a whole segment holds a place, so do those below it, and they are whole
pub whole_below : (place level more count : ℕ) → (place / 2 ^ (level + more) + 1) * 2 ^ (level + more) ≤ count → (place / 2 ^ level + 1) * 2 ^ level ≤ count
whole_below place level zero count whole = subst (λ (l : ℕ). (place / 2 ^ l + 1) * 2 ^ l ≤ count) (add-zero level) whole
whole_below place level (suc more) count whole =
    let up : level + suc more ≡ level + more + 1 = omega arith in
    let there : (place / 2 ^ (level + more + 1) + 1) * 2 ^ (level + more + 1) ≤ count = subst (λ (l : ℕ). (place / 2 ^ l + 1) * 2 ^ l ≤ count) up whole in
    whole_below place level more count
    (step (place / 2 ^ (level + more)) (2 ^ (level + more)) (place / 2 ^ (level + more + 1)) (2 ^ (level + more + 1)) (sym (shr-shr place (level + more) 1)) (pow-add 2 (level + more) 1) there)
  where
    step : (q w r v : ℕ) → r ≡ q / 2 → v ≡ w * 2 → (r + 1) * v ≤ count → (q + 1) * w ≤ count
    step q w r v half twice le =
        let product : (r + 1) * v ≡ (2 * r + 2) * w = ap (λ x. (r + 1) * x) twice ∙ (omega arith) in
        let gap : q + 1 + (2 * r + 2 - (q + 1)) ≡ 2 * r + 2 = omega arith in
        let apart : (q + 1) * w + (2 * r + 2 - (q + 1)) * w ≡ (2 * r + 2) * w = (omega arith) ∙ ap (λ x. x * w) gap in
        omega arith
