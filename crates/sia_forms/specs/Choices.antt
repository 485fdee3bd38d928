-- Which coins are chosen for a need: the first ones by falling value, as few as reach it (Sia's wallets spend their largest
-- outputs first; the order among coins of one value is this project's own).
use Rattle.std.specs.Prelude.{◌≡◌, ℕ, ◌-◌, ◌<◌, ◌≤◌, ◌==◌, List, [], ◌∷◌, map, take, sum_by, if◌then◌else◌}
use Rattle.std.specs.declared.cmp.Ordering.{Ordering}
use Rattle.std.specs.Ordering.{nat_cmp, ordering_then}
use Rattle.std.specs.List.Sorted.{IsPermutation, IsSorted}
use Rattle.std.specs.Cmp.Lexicographic.{slice_cmp}
use Rattle.sia_types.specs.declared.coin.Coin.{Coin}
use Rattle.sia_types.specs.declared.coins.CoinInput.{CoinInput}
use Rattle.sia_types.specs.declared.coins.CoinOutput.{CoinOutput}
use Rattle.sia_forms.specs.declared.fault.FormFault.{FormFault}
use Rattle.sia_forms.specs.declared.fault.FormFault.TheVariants as form_fault
use Rattle.sia_forms.specs.declared.funding.Additions.{Additions}
use Rattle.sia_forms.specs.Parties.{own_conditions}

-- the value of a coin
abbrev pub worth : Coin → ℕ
worth coin = coin.value

-- what coins are worth together
abbrev pub worth_of : List Coin → ℕ
worth_of coins = sum_by worth coins

-- how a coin stands to another: by falling value, and then by ascending identifier
abbrev pub choice_order : Coin → Coin → Ordering
choice_order a b = ordering_then (nat_cmp b.value a.value) (slice_cmp nat_cmp a.id b.id)

-- the same coins, in the order of choice
abbrev pub AreInOrder : List Coin → List Coin → Type 0
AreInOrder coins ordered = IsPermutation coins ordered × IsSorted choice_order ordered

-- so many coins are worth what is needed, and fewer aren't
pub record IsShortest (ordered : List Coin) (need count : ℕ) : Type 0 where
  pub reaches : need ≤ worth_of (take count ordered)
  pub fewer : (n : ℕ) → n < count → worth_of (take n ordered) < need

-- the coins that are chosen: the shortest prefix, in the order of choice, that is worth what is needed
pub record AreChosen (coins : List Coin) (need : ℕ) (chosen : List Coin) : Type 0 where
  pub ordered : List Coin
  pub in_order : AreInOrder coins ordered
  pub count : ℕ
  pub shortest : IsShortest ordered need count
  pub prefix : chosen ≡ take count ordered

-- the identifier of a coin
abbrev pub coin_name : Coin → List ℕ
coin_name coin = coin.id

-- the identifiers of chosen coins
pub record AreChosenNames (coins : List Coin) (need : ℕ) (names : List (List ℕ)) : Type 0 where
  pub chosen : List Coin
  pub are_chosen : AreChosen coins need chosen
  pub are : names ≡ map coin_name chosen

-- why coins don't do: all of them together are worth less than is needed
abbrev pub IsShort : List Coin → ℕ → FormFault → Type 0
IsShort coins wanted (form_fault.NoFunds need have) = (need ≡ wanted) × (have ≡ worth_of coins) × (have < need)
IsShort coins wanted (form_fault.BadContract point) = ⊥
IsShort coins wanted form_fault.Memory = Unit {0}

-- the input that spends a coin of a key's owner
unfoldable pub input_of : List ℕ → Coin → CoinInput
input_of key coin = record { parent = coin.id; conditions = own_conditions key }

-- an output of a value to an address, and none of value 0
abbrev pub output_of_some : ℕ → List ℕ → List CoinOutput
output_of_some value address = if value == 0 then [] else record { value = value; address = address } ∷ []

-- what chosen coins add to a transaction: the inputs that spend them, and the output that gives back what they are worth above
-- the need
abbrev pub funding : List ℕ → List ℕ → ℕ → List Coin → Additions
funding key address need chosen = record { inputs = map (input_of key) chosen; outputs = output_of_some (worth_of chosen - need) address }

-- coins that are chosen bring what is needed
pub record AreAdded (coins : List Coin) (need : ℕ) (key address : List ℕ) (added : Additions) : Type 0 where
  pub chosen : List Coin
  pub are_chosen : AreChosen coins need chosen
  pub are : added ≡ funding key address need chosen
