-- Outputs with new values, one more of them.
use Rattle.std.proofs.Common.{◌≡◌, ℕ, zero, suc, ◌<◌, ◌≤◌, List, [], ◌∷◌, ◌++◌, length, take, get_or, refl, sym, ap, ◌∙◌, arith}
use Rattle.sia_types.specs.declared.coins.CoinOutput.{CoinOutput}
use Rattle.sia_price.specs.Payments.{with_values}

one_taken : (outputs : List CoinOutput) (i : ℕ) (d : CoinOutput) → i < length outputs → take (suc i) outputs ≡ take i outputs ++ get_or outputs i d ∷ []
one_taken [] i d within = absurd (omega arith)
one_taken (output ∷ outputs) zero d within = refl
one_taken (output ∷ outputs) (suc i) d within = ap (λ more. output ∷ more) (one_taken outputs i d (omega arith))

-- with its value, or as it is where there is none
pub with_values-more : (outputs : List CoinOutput) (values : List ℕ) (i : ℕ) (d new : CoinOutput) → i < length outputs → (i < length values → new ≡ record (get_or outputs i d) { value = get_or values i 0 }) → (length values ≤ i → new ≡ get_or outputs i d)
    → with_values (take (suc i) outputs) values ≡ with_values (take i outputs) values ++ new ∷ []
with_values-more [] values i d new within given none = absurd (omega arith)
with_values-more (output ∷ outputs) [] zero d new within given none = ap (λ one. one ∷ []) (sym (none (omega arith)))
with_values-more (output ∷ outputs) [] (suc i) d new within given none =
    let stays : new ≡ get_or outputs i d = none (omega arith) in
    ap (λ more. output ∷ more) (one_taken outputs i d (omega arith) ∙ ap (λ one. take i outputs ++ one ∷ []) (sym stays))
with_values-more (output ∷ outputs) (value ∷ values) zero d new within given none =
    let some : 0 < length (value ∷ values) = omega arith in ap (λ one. one ∷ []) (sym (given some))
with_values-more (output ∷ outputs) (value ∷ values) (suc i) d new within given none =
    ap (λ more. record output { value = value } ∷ more) (with_values-more outputs values i d new (omega arith) (λ below. given (omega arith)) (λ past. none (omega arith)))
