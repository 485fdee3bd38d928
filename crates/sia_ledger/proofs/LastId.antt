-- The last identifier of a list.
use Rattle.std.proofs.Common.{◌≡◌, ℕ, suc, ◌+◌, ◌-◌, ◌<◌, List, [], ◌∷◌, length, get_or, refl, ap, ◌∙◌, arith}
use Rattle.sia_ledger.specs.Holdings.{last_id}

-- it stands at the last index
pub last_at : (ids : List (List ℕ)) (d : List ℕ) → 0 < length ids → get_or ids (length ids - 1) d ≡ last_id ids
last_at [] d some = absurd (omega (arith, some))
last_at (id ∷ []) d some = refl
last_at (id ∷ other ∷ rest) d some =
    let more : 0 < length (other ∷ rest) = omega arith in
    let place : length (id ∷ other ∷ rest) - 1 ≡ suc (length (other ∷ rest) - 1) = omega arith in
    ap (λ n. get_or (id ∷ other ∷ rest) n d) place ∙ last_at (other ∷ rest) d more
