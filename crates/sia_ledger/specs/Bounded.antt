-- What bounds the numbers while a block is judged: behind transactions that break no rule a chain holds no more than was issued, so
-- each sum of what it holds has no more than 128 bits. (Sia whitepaper: what circulates was issued.)
use Rattle.std.specs.Prelude.{◌≡◌, ℕ, ◌+◌, ◌^◌, ◌<◌, ◌≤◌, List, [], ◌∷◌, None}
use Rattle.sia_types.specs.declared.funds.FundInput.{FundInput}
use Rattle.sia_ledger.specs.Facts.{claim_at, funds_of}
use Rattle.sia_ledger.specs.State.{State}
use Rattle.sia_ledger.specs.Effects.{with_fund_input}
use Rattle.sia_rules.specs.Amounts.{issued}
use Rattle.sia_ledger.specs.declared.fact.Fact.{Fact}
use Rattle.sia_ledger.specs.Chain.{Chain, height}
use Rattle.sia_ledger.specs.Holdings.{held, outputs, escrow, unclaimed, immature}
use Rattle.sia_ledger.specs.Paying.{AllPay, total}

-- a chain holds exactly so much with the fees that are still to be paid, and all siafunds
pub record IsWhole (state : State) (fees sum : ℕ) : Type 0 where
  pub holds : total state.facts + fees ≡ sum
  pub funds : held funds_of state.facts ≡ 10000

-- a chain holds no more than so much with the fees that are still to be paid, and exactly so much where nothing was made twice
pub record IsMost (state : State) (fees sum : ℕ) : Type 0 where
  pub holds : total state.facts + fees ≤ sum
  pub funds : held funds_of state.facts ≤ 10000
  pub pays : AllPay state.facts
  pub whole : state.twice ≡ None → IsWhole state fees sum

-- a chain holds no more than 128 bits can say
abbrev pub IsBounded : State → Type 0
IsBounded state = (fees : ℕ) × (sum : ℕ) × (sum < 2 ^ 128) × IsMost state fees sum

-- the claims of siafund inputs have no more than 128 bits, each where the ones before it were spent
abbrev pub ClaimsFit : ℕ → State → List FundInput → Type 0
ClaimsFit maturity state [] = Unit {0}
ClaimsFit maturity state (input ∷ inputs) = (claim_at state.facts input.parent < 2 ^ 128) × ClaimsFit maturity (with_fund_input maturity state input) inputs

-- what is kept holds what was issued, so each sum has no more than 128 bits
pub record Totals (chain : Chain) (made : List Fact) : Type 0 where
  pub conserved : outputs made + escrow made + unclaimed made ≡ issued (height chain)
  pub issued_fits : issued (height chain) < 2 ^ 128
  pub outputs_fit : outputs made < 2 ^ 128
  pub escrow_fits : escrow made < 2 ^ 128
  pub unclaimed_fits : unclaimed made < 2 ^ 128
  pub immature_fits : (at : ℕ) → immature at made < 2 ^ 128
