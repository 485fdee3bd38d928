-- Coins that are added bring what is needed, so all coins together are worth as much.
use Rattle.std.proofs.Common.{◌≡◌, ℕ, ◌≤◌, true, false, List, Ok, Err, ap, arith, lt-ltb}
use Rattle.std.specs.Prelude.{nat_lt}
use Rattle.std.proofs.lemmas.Bool.{le-ltb}
use Rattle.std.proofs.lemmas.List.Sorted.{sum_by-IsPermutation}
use Rattle.std.proofs.lemmas.List.Sums.{sum_by-take-le}
use Rattle.sia_encoding.specs.Answer.{◌>>=◌, unless}
use Rattle.sia_encoding.specs.Firsts.{broken}
use Rattle.sia_types.specs.declared.coin.Coin.{Coin}
use Rattle.sia_forms.specs.declared.fault.FormFault.TheVariants as form_fault
use Rattle.sia_forms.specs.declared.funding.Additions.{Additions}
use Rattle.sia_forms.specs.Choices.{AreAdded, IsShort, worth, worth_of}
use Rattle.sia_commands.specs.declared.codes.TheConstants.{NO_FUNDS}
use Rattle.sia_host.specs.Answered.{Host}
use Rattle.sia_host.specs.Forming.{AreHosts, free_coins, funded}

-- what is added for a need is within what all coins are worth
enough : (coins : List Coin) (need : ℕ) (key address : List ℕ) (added : Additions) → AreAdded coins need key address added → need ≤ worth_of coins
enough coins need key address added are =
    let same : worth_of are.are_chosen.ordered ≡ worth_of coins = sum_by-IsPermutation worth coins are.are_chosen.ordered are.are_chosen.in_order.0 in
    omega (arith, are.are_chosen.shortest.reaches, sum_by-take-le worth are.are_chosen.ordered are.are_chosen.count)

-- so the host's free coins suffice for the collateral that it adds
pub suffices : (h : Host) (collateral : ℕ) (added : Additions) → AreHosts h collateral added → funded h collateral ≡ Ok collateral
suffices h collateral added are =
    let less : nat_lt (worth_of (free_coins h)) collateral ≡ false = le-ltb _ _ (enough (free_coins h) collateral _ _ added are) in
    ap (λ b. unless (broken b NO_FUNDS) >>= (λ _. Ok collateral)) less

-- and where all of them are short, they don't
pub lacks : (h : Host) (collateral need have : ℕ) → IsShort (free_coins h) collateral (form_fault.NoFunds need have) → funded h collateral ≡ Err NO_FUNDS
lacks h collateral need have short =
    let less : nat_lt (worth_of (free_coins h)) collateral ≡ true = lt-ltb _ _ (omega (arith, short.0, short.1, short.2)) in
    ap (λ b. unless (broken b NO_FUNDS) >>= (λ _. Ok collateral)) less
