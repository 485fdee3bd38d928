-- Under which keys a fact is found beside its identifier. Nothing of Sia stands here.
use Rattle.std.specs.Prelude.{◌≡◌, ℕ, List, map, Option, Some, None}
use Rattle.std.specs.Ordering.{nat_cmp}
use Rattle.std.specs.Cmp.Lexicographic.{slice_cmp}
use Rattle.sia_ledger.specs.declared.fact.Fact.{Fact}
use Rattle.sia_ledger.specs.declared.fact.Deed.{Deed}
use Rattle.sia_ledger.specs.declared.fact.Deed.TheVariants as deed
use Rattle.sia_ledger.specs.declared.chains.Chains.{Chains}
use Rattle.sia_ledger.specs.Chained.{IsChained}

-- the address of the siacoin output that a deed makes
abbrev pub paid_address : Deed → Option (List ℕ)
paid_address (deed.Coin output from) = Some output.address
paid_address other = None

-- the end of the contract that a deed forms or revises
abbrev pub set_end : Deed → Option ℕ
set_end (deed.Formed terms) = Some terms.end
set_end (deed.Revised terms) = Some terms.end
set_end other = None

-- the addresses that facts pay
abbrev pub addresses_of : List Fact → List (Option (List ℕ))
addresses_of facts = map (λ (x : Fact). paid_address x.deed) facts

-- the ends that facts set
abbrev pub ends_of : List Fact → List (Option ℕ)
ends_of facts = map (λ (x : Fact). set_end x.deed) facts

-- facts are found by the addresses that they pay and by the ends that they set
pub record IsCataloged (addresses : Chains (List ℕ)) (ends : Chains ℕ) (facts : List Fact) : Type 0 where
  pub paid : IsChained (slice_cmp nat_cmp) addresses (addresses_of facts)
  pub ended : IsChained nat_cmp ends (ends_of facts)
