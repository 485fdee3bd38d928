-- What one fact more in front does to the contracts that end at a height, and to the live outputs at an address.
use Rattle.std.proofs.Common.{◌≡◌, ℕ, suc, ◌+◌, ◌<◌, ◌≤◌, Bool, true, false, List, [], ◌∷◌, ◌++◌, length, map, drop, get_or, Option, Some, None, refl, ap, sym, ◌∙◌, add-one, arith}
use Rattle.std.specs.Prelude.{if◌then◌else◌}
use Rattle.std.specs.List.{cons_option, filter, filter_map}
use Rattle.std.proofs.Math.Seq.{drop-cons}
use Rattle.std.proofs.lemmas.List.{drop_all}
use Rattle.sia_types.specs.declared.coin.Coin.{Coin}
use Rattle.sia_ledger.specs.declared.fact.Fact.{Fact}
use Rattle.sia_ledger.specs.Blocks.{ending, ends_at}
use Rattle.sia_ledger.specs.Facts.{coin_in, is_known, standing, terms_in}
use Rattle.sia_ledger.specs.Holdings.{coin_of, live_coins_at}
use Rattle.sia_ledger.specs.Order.{ascending_by, put_by}

abbrev ends : ℕ → Fact → Bool
ends height fact = ends_at height (terms_in (Some fact.deed))

abbrev ends_among : ℕ → List Fact → List (List ℕ)
ends_among height facts = ascending_by (λ id. id) (map (λ (fact : Fact). fact.id) (filter (ends height) facts))

-- a fact about which a later one is adds nothing
pub ending_known : (height : ℕ) (x : Fact) (rest : List Fact) → is_known rest x.id ≡ true → ending height (x ∷ rest) ≡ ending height rest
unfolding ending
ending_known height x rest e = ap (λ k. ends_among height (if k then standing rest else x ∷ standing rest)) e

-- nor does one that leaves no contract running that ends there
pub ending_other : (height : ℕ) (x : Fact) (rest : List Fact) → ends height x ≡ false → ending height (x ∷ rest) ≡ ending height rest
unfolding ending
ending_other height x rest e = by (is_known rest x.id)
  where
    by : (k : Bool) → ends_among height (if k then standing rest else x ∷ standing rest) ≡ ends_among height (standing rest)
    by true = refl
    by false = ap (λ b. ascending_by (λ id. id) (map (λ (fact : Fact). fact.id) (if b then x ∷ filter (ends height) (standing rest) else filter (ends height) (standing rest)))) e

-- any other one adds its contract
pub ending_here : (height : ℕ) (x : Fact) (rest : List Fact) → is_known rest x.id ≡ false → ends height x ≡ true → ending height (x ∷ rest) ≡ put_by (λ id. id) x.id (ending height rest)
unfolding ending ascending_by
ending_here height x rest e is =
    ap (λ k. ends_among height (if k then standing rest else x ∷ standing rest)) e
    ∙ ap (λ b. ascending_by (λ id. id) (map (λ (fact : Fact). fact.id) (if b then x ∷ filter (ends height) (standing rest) else filter (ends height) (standing rest)))) is

-- the facts from an index on
pub ending_from : (height : ℕ) (facts later : List Fact) (i : ℕ) (x : Fact) → i < length facts → x ≡ get_or facts i x → ending height (x ∷ (drop (i + 1) facts ++ later)) ≡ ending height (drop i facts ++ later)
ending_from height facts later i x within is =
    ap (λ n. ending height (x ∷ (drop n facts ++ later))) (add-one i)
    ∙ ap (λ y. ending height (y ∷ (drop (suc i) facts ++ later))) is
    ∙ ap (λ front. ending height (front ++ later)) (sym (drop-cons facts i x within))

abbrev owned : List ℕ → Fact → Option Coin
owned address fact = coin_of address fact.id (coin_in (Some fact.deed))

abbrev owned_among : List ℕ → List Fact → List Coin
owned_among address facts = ascending_by (λ (coin : Coin). coin.id) (filter_map (owned address) facts)

-- a fact about which a later one is adds no output
pub owned_known : (address : List ℕ) (x : Fact) (rest : List Fact) → is_known rest x.id ≡ true → live_coins_at (x ∷ rest) address ≡ live_coins_at rest address
unfolding live_coins_at
owned_known address x rest e = ap (λ k. owned_among address (if k then standing rest else x ∷ standing rest)) e

-- nor does one that makes none at the address
pub owned_other : (address : List ℕ) (x : Fact) (rest : List Fact) → is_known rest x.id ≡ false → owned address x ≡ None → live_coins_at (x ∷ rest) address ≡ live_coins_at rest address
unfolding live_coins_at
owned_other address x rest e none =
    ap (λ k. owned_among address (if k then standing rest else x ∷ standing rest)) e
    ∙ ap (λ found. ascending_by (λ (coin : Coin). coin.id) (cons_option found (filter_map (owned address) (standing rest)))) none

-- any other one adds its output
pub owned_here : (address : List ℕ) (x : Fact) (rest : List Fact) (coin : Coin) → is_known rest x.id ≡ false → owned address x ≡ Some coin → live_coins_at (x ∷ rest) address ≡ put_by (λ (c : Coin). c.id) coin (live_coins_at rest address)
unfolding live_coins_at ascending_by
owned_here address x rest coin e some =
    ap (λ k. owned_among address (if k then standing rest else x ∷ standing rest)) e
    ∙ ap (λ found. ascending_by (λ (coin : Coin). coin.id) (cons_option found (filter_map (owned address) (standing rest)))) some

-- the facts from an index on
pub owned_from : (address : List ℕ) (facts : List Fact) (i : ℕ) (x : Fact) → i < length facts → x ≡ get_or facts i x → live_coins_at (x ∷ drop (i + 1) facts) address ≡ live_coins_at (drop i facts) address
owned_from address facts i x within is =
    ap (λ n. live_coins_at (x ∷ drop n facts) address) (add-one i)
    ∙ ap (λ y. live_coins_at (y ∷ drop (suc i) facts) address) is
    ∙ ap (λ front. live_coins_at front address) (sym (drop-cons facts i x within))

-- among no facts none ends
pub ending_nothing : (height : ℕ) → [] ≡ ending height []
unfolding ending ascending_by
ending_nothing height = refl

-- among no facts none is at an address
pub owned_nothing : (address : List ℕ) → [] ≡ live_coins_at [] address
unfolding live_coins_at ascending_by
owned_nothing address = refl

-- nor among those behind the last
pub owned_end : (address : List ℕ) (facts : List Fact) → [] ≡ live_coins_at (drop (length facts) facts) address
owned_end address facts =
    let all : length facts ≤ length facts = omega arith in
    owned_nothing address ∙ ap (λ left. live_coins_at left address) (sym (drop_all (length facts) facts all))
