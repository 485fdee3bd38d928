-- What a new contract must be (B15, B16), and a revision beside the present terms (B17 to B19) (siad's doc/Consensus.md and
-- types/filecontracts.go).
use Rattle.std.specs.Prelude.{ℕ, Bool, List, Option, nat_lt, nat_le, ◌==◌, ◌&&◌, not}
use Rattle.sia_encoding.specs.Firsts.{broken, ◌or_else◌}
use Rattle.sia_types.specs.declared.coins.CoinOutput.{CoinOutput}
use Rattle.sia_types.specs.declared.file_contracts.FileContract.{FileContract}
use Rattle.sia_types.specs.declared.file_contracts.Revision.{Revision}
use Rattle.sia_types.specs.declared.terms.Terms.{Terms}
use Rattle.sia_rules.specs.declared.fault.BlockFault.{BlockFault}
use Rattle.sia_rules.specs.declared.fault.BlockFault.TheVariants as block_fault
use Rattle.sia_rules.specs.Amounts.{after_tax}
use Rattle.sia_rules.specs.Sums.{coin_sum}

-- a window lies ahead: it begins above the height, and ends above its start
abbrev pub is_ahead : ℕ → ℕ → ℕ → Bool
is_ahead height start end = nat_lt height start && nat_lt start end

-- B15: the window of a contract that is formed at a height doesn't lie ahead
unfoldable pub form_window : ℕ → ℕ → ℕ → FileContract → Option BlockFault
form_window height t i contract = broken (not (is_ahead height contract.start contract.end)) (block_fault.FormWindow t i)

-- the valid outputs, and the missed ones, sum to a payout less its tax
abbrev pub pays_out : ℕ → List CoinOutput → List CoinOutput → Bool
pays_out payout valid missed = (coin_sum valid == after_tax payout) && (coin_sum missed == after_tax payout)

-- B16: the outputs of a contract don't sum to its payout less its tax
unfoldable pub form_sum : ℕ → ℕ → FileContract → Option BlockFault
form_sum t i contract = broken (not (pays_out contract.payout contract.valid contract.missed)) (block_fault.FormSum t i)

-- the first rule that a contract breaks that is formed at a height
abbrev pub form_fault : ℕ → ℕ → ℕ → FileContract → Option BlockFault
form_fault height t i contract = form_window height t i contract or_else form_sum t i contract

-- B17: the number of a revision isn't above the present one
unfoldable pub revision_number : ℕ → ℕ → Terms → Revision → Option BlockFault
revision_number t i terms revision = broken (nat_le revision.number terms.number) (block_fault.RevNumber t i terms.number)

-- B18: the present window has begun at the height, or the new one doesn't lie ahead
unfoldable pub revision_window : ℕ → ℕ → ℕ → Terms → Revision → Option BlockFault
revision_window height t i terms revision = broken (not (nat_lt height terms.start && is_ahead height revision.start revision.end)) (block_fault.RevWindow t i)

-- B19: the outputs of a revision don't sum to the payout of the formation less its tax
unfoldable pub revision_sum : ℕ → ℕ → Terms → Revision → Option BlockFault
revision_sum t i terms revision = broken (not (pays_out terms.payout revision.valid revision.missed)) (block_fault.RevSum t i)

-- the first rule that a revision breaks at a height, beside the present terms
abbrev pub revision_fault : ℕ → ℕ → ℕ → Terms → Revision → Option BlockFault
revision_fault height t i terms revision = revision_number t i terms revision or_else revision_window height t i terms revision or_else revision_sum t i terms revision
