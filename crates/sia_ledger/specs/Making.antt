-- What formations, settlements and claims make: which sums, and from which height on these can be spent (Sia whitepaper; siad's
-- doc/Consensus.md).
use Rattle.std.specs.Prelude.{◌≡◌, ℕ, ◌+◌, ◌-◌, ◌*◌, ◌/◌, ◌<◌, ◌==◌, Bool, false, List, [], ◌∷◌, ◌++◌, Option, Some, None, if◌then◌else◌}
use Rattle.std.specs.List.{sum_by}
use Rattle.sia_types.specs.declared.funds.FundOutput.{FundOutput}
use Rattle.sia_types.specs.declared.terms.Terms.{Terms}
use Rattle.sia_ids.specs.Transactions.{claim_id}
use Rattle.sia_rules.specs.Amounts.{fund_count}
use Rattle.sia_ledger.specs.declared.fact.Fact.{Fact}
use Rattle.sia_ledger.specs.declared.fact.Deed.{Deed}
use Rattle.sia_ledger.specs.declared.fact.Deed.TheVariants as deed
use Rattle.sia_ledger.specs.Chain.{Chain}
use Rattle.sia_ledger.specs.Facts.{fact, is_known, last_deed, fund_at, terms_at, taxes}
use Rattle.sia_ledger.specs.Effects.{settlement_facts}
use Rattle.sia_ledger.specs.Blocks.{facts}
use Rattle.sia_ledger.specs.Paying.{Pays}

-- a deed makes a block, or not
abbrev pub is_block : Deed → ℕ
is_block deed.Block = 1
is_block other = 0

-- how many blocks facts make, the genesis with them
unfoldable pub block_count : List Fact → ℕ
block_count facts = sum_by (λ (x : Fact). is_block x.deed) facts

-- the height of the block that goes on behind facts; that of the genesis is 0
abbrev pub height_behind : List Fact → ℕ
height_behind before = block_count before - 1

-- A formation, behind the facts before it: its window lies ahead, and its valid outputs, and its missed ones, sum to the payout less
-- its tax.
pub record IsFormation (before : List Fact) (terms : Terms) : Type 0 where
  pub ahead : height_behind before < terms.start
  pub window : terms.start < terms.end
  pub pays : Pays terms

-- A settlement, between the facts before it and those behind it: the contract ran until then, and behind it stand first its valid or its
-- missed outputs, all but those of value 0, which can be spent so many blocks later as the maturity is. They sum to the payout less
-- its tax.
pub record IsSettlement (maturity : ℕ) (before : List Fact) (contract : List ℕ) (valid : Bool) (after : List Fact) : Type 0 where
  pub terms : Terms
  pub rest : List Fact
  pub ran : terms_at before contract ≡ Some terms
  pub made : after ≡ settlement_facts (height_behind before + maturity) contract valid 0 (if valid then terms.valid else terms.missed) ++ rest
  pub pays : Pays terms

-- the claim of a siafund output, which an address gets and can spend from a height on; one of value 0 isn't made
abbrev pub claim_made : ℕ → List ℕ → List ℕ → ℕ → List Fact
claim_made from id address claim = if claim == 0 then [] else fact (claim_id id) (deed.Coin (record { value = claim; address = address }) from) ∷ []

-- A siafund output that is spent, between the facts before and those behind: the pool has risen since the output was made, and behind
-- stands first the output's part of that, v of 10,000 parts for v siafunds, which can be spent so many blocks later as the maturity is.
pub record IsClaim (maturity : ℕ) (before : List Fact) (id : List ℕ) (output : FundOutput) (after : List Fact) : Type 0 where
  pub earlier : List Fact
  pub since : List Fact
  pub address : List ℕ
  pub rest : List Fact
  pub split : before ≡ earlier ++ fact id (deed.Fund output) ∷ since
  pub made : after ≡ claim_made (height_behind before + maturity) id address (output.value * (taxes before - taxes earlier) / fund_count) ++ rest

-- what a formation, a settlement or a spent siafund output makes, between the facts before it and those behind it
abbrev pub MakesSums : ℕ → List Fact → List ℕ → Deed → List Fact → Type 0
MakesSums maturity before id (deed.Formed terms) after = IsFormation before terms
MakesSums maturity before id (deed.Settled valid) after = IsSettlement maturity before id valid after
MakesSums maturity before id deed.Spent after = (output : FundOutput) → fund_at before id ≡ Some output → IsClaim maturity before id output after
MakesSums maturity before id other after = Unit {0}

-- so it is with each of some facts behind others
abbrev pub AllMakeSums : ℕ → List Fact → List Fact → Type 0
AllMakeSums maturity before [] = Unit {0}
AllMakeSums maturity before (x ∷ after) = MakesSums maturity before x.id x.deed after × AllMakeSums maturity (before ++ x ∷ []) after

-- each formation, settlement and claim of a chain names the height and the sum that it makes
abbrev pub EachMakesItsSums : Chain → Type 0
EachMakesItsSums chain = AllMakeSums chain.maturity [] (facts chain)
