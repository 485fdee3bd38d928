-- Prefixes of coins, and what they are worth.
use Rattle.std.proofs.Common.{◌≡◌, ℕ, ◌+◌, ◌<◌, ◌≤◌, List, length, take, get_or, arith, subst}
use Rattle.std.proofs.lemmas.List.{take-take}
use Rattle.std.proofs.lemmas.List.Sums.{sum_by-take-le, sum_by_more}
use Rattle.sia_types.specs.declared.coin.Coin.{Coin}
use Rattle.sia_forms.specs.Choices.{IsShortest, worth, worth_of}

-- a longer prefix is worth as much at least
worth-grows : (coins : List Coin) (n i : ℕ) → n ≤ i → worth_of (take n coins) ≤ worth_of (take i coins)
worth-grows coins n i low = omega (arith, subst (λ xs. worth_of xs ≤ worth_of (take i coins)) (take-take n i coins low) (sum_by-take-le worth (take i coins) n))

-- the first prefix that reaches the need
pub reached_here : (coins : List Coin) (need missing i : ℕ) (d : Coin) → i < length coins → missing + worth_of (take i coins) ≡ need → 0 < missing → missing ≤ (get_or coins i d).value → IsShortest coins need (i + 1)
reached_here coins need missing i d within rest lacks enough = record {
  reaches = omega (arith, sum_by_more worth coins i d within);
  fewer = λ n below. omega (arith, worth-grows coins n i (omega arith));
}
