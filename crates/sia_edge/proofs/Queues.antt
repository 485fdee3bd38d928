-- A queue of links: the first ones are to come, and the others were given back.
use Rattle.std.proofs.Common.{◌≡◌, ℕ, zero, suc, ◌-◌, ◌<◌, List, ◌∷◌, take, drop, arith, refl}

-- where one is to come, the first entry is the first of these
pub take_first : {X : Type 0} (items rest : List X) (first : X) (n : ℕ) → items ≡ first ∷ rest → 0 < n → take n items ≡ first ∷ take (n - 1) rest
take_first items rest first zero is some = absurd (omega (arith, some))
take_first items rest first (suc n) is some =
    let less : suc n - 1 ≡ n = omega arith in
    rw (is, less) refl

-- and those given back stay behind the others
pub drop_first : {X : Type 0} (items rest : List X) (first : X) (n : ℕ) → items ≡ first ∷ rest → 0 < n → drop n items ≡ drop (n - 1) rest
drop_first items rest first zero is some = absurd (omega (arith, some))
drop_first items rest first (suc n) is some =
    let less : suc n - 1 ≡ n = omega arith in
    rw (is, less) refl
