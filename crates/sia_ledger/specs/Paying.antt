-- What a contract's outputs sum to: the valid ones, and the missed ones, to what it holds (siad's types/filecontracts.go).
use Rattle.std.specs.Prelude.{◌≡◌, ℕ, ◌+◌, List, [], ◌∷◌}
use Rattle.sia_types.specs.declared.terms.Terms.{Terms}
use Rattle.sia_rules.specs.Amounts.{after_tax}
use Rattle.sia_rules.specs.Sums.{coin_sum}
use Rattle.sia_ledger.specs.declared.fact.Fact.{Fact}
use Rattle.sia_ledger.specs.declared.fact.Deed.{Deed}
use Rattle.sia_ledger.specs.declared.fact.Deed.TheVariants as deed
use Rattle.sia_ledger.specs.Holdings.{outputs, escrow, unclaimed}

-- both lists of outputs sum to the payout less its tax
pub record Pays (terms : Terms) : Type 0 where
  pub valid : coin_sum terms.valid ≡ after_tax terms.payout
  pub missed : coin_sum terms.missed ≡ after_tax terms.payout

-- a contract that is formed or revised pays what it holds
abbrev pub PaysOut : Deed → Type 0
PaysOut (deed.Formed terms) = Pays terms
PaysOut (deed.Revised terms) = Pays terms
PaysOut other = Unit {0}

-- so it is with each deed
abbrev pub AllDeeds : (Deed → Type 0) → List Fact → Type 0
AllDeeds P [] = Unit {0}
AllDeeds P (x ∷ facts) = P x.deed × AllDeeds P facts

-- each contract pays what it holds
abbrev pub AllPay : List Fact → Type 0
AllPay facts = AllDeeds PaysOut facts

-- live siacoin outputs, escrow and claims together
abbrev pub total : List Fact → ℕ
total facts = outputs facts + escrow facts + unclaimed facts
