-- Taxes counted in shares: so many whole hastings for each of the 10,000 siafunds.
use Rattle.std.specs.Prelude.{ℕ, List}
use Rattle.std.specs.List.{sum_by}
use Rattle.sia_rules.specs.Amounts.{shares}
use Rattle.sia_ledger.specs.declared.fact.Fact.{Fact}
use Rattle.sia_ledger.specs.declared.fact.Deed.{Deed}
use Rattle.sia_ledger.specs.declared.fact.Deed.TheVariants as deed

-- the shares that a formation brings
abbrev pub shares_in : Deed → ℕ
shares_in (deed.Formed terms) = shares terms.payout
shares_in other = 0

-- the shares that the formations among facts bring
abbrev pub all_shares : List Fact → ℕ
all_shares facts = sum_by (λ (fact : Fact). shares_in fact.deed) facts
