-- What a transaction must be on what is known before it: each rule is a test of one entry of one list (siad's doc/Consensus.md; the
-- names are this project's own).
use Rattle.std.specs.Prelude.{ℕ, ◌-◌, ◌^◌, min, Bool, true, false, List, [], length, Option, Some, None, nat_lt, ◌==◌, ◌&&◌, not, is_some, slice_get}
use Rattle.std.specs.Option.{option_and_then}
use Rattle.std.specs.List.{sum_by}
use Rattle.std.specs.Str.{bytes_eq}
use Rattle.sia_encoding.specs.Firsts.{broken, ◌or_else◌}
use Rattle.sia_merkle.specs.Computations.{hash_of}
use Rattle.sia_merkle.specs.Paths.{path_of, leaf_tree}
use Rattle.sia_merkle.specs.Roots.{leaf_count}
use Rattle.sia_types.specs.declared.coins.CoinInput.{CoinInput}
use Rattle.sia_types.specs.declared.coins.CoinOutput.{CoinOutput}
use Rattle.sia_types.specs.declared.file_contracts.Revision.{Revision}
use Rattle.sia_types.specs.declared.file_contracts.StorageProof.{StorageProof}
use Rattle.sia_types.specs.declared.funds.FundInput.{FundInput}
use Rattle.sia_types.specs.declared.funds.FundOutput.{FundOutput}
use Rattle.sia_types.specs.declared.terms.Terms.{Terms}
use Rattle.sia_types.specs.declared.transaction.Transaction.{Transaction}
use Rattle.sia_ids.specs.Conditions.{unlock_hash, segment_index}
use Rattle.sia_sign.specs.Needs.{Need}
use Rattle.sia_rules.specs.declared.fault.BlockFault.{BlockFault}
use Rattle.sia_rules.specs.declared.fault.BlockFault.TheVariants as block_fault
use Rattle.sia_rules.specs.Sums.{coins_out, funds_out}
use Rattle.sia_rules.specs.FileContracts.{revision_number, revision_window, revision_sum}
use Rattle.sia_ledger.specs.declared.fact.Fact.{Fact}
use Rattle.sia_ledger.specs.declared.fact.Deed.{Deed}
use Rattle.sia_ledger.specs.declared.fact.Deed.TheVariants as deed
use Rattle.sia_ledger.specs.Facts.{last_deed, coin_at, fund_at, terms_at}
use Rattle.sia_ledger.specs.State.{State}

-- B9: a siacoin input names no live siacoin output
abbrev pub no_coin : List Fact → ℕ → ℕ → CoinInput → Option BlockFault
no_coin facts t i input = broken (not (is_some (coin_at facts input.parent))) (block_fault.NoCoin t i)

-- B10: a siacoin input names an output that can be spent from a later height on
abbrev pub immature_coin : ℕ → List Fact → ℕ → ℕ → CoinInput → Option BlockFault
immature_coin height facts t i input =
    option_and_then (λ (coin : CoinOutput × ℕ). broken (nat_lt height coin.1) (block_fault.Immature t i coin.1)) (coin_at facts input.parent)

-- B11: the identifier is no running contract's
abbrev pub no_contract : List Fact → ℕ → ℕ → List ℕ → Option BlockFault
no_contract facts t i parent = broken (not (is_some (terms_at facts parent))) (block_fault.NoContract t i)

-- B11: a revision names no running contract
abbrev pub unrevisable : List Fact → ℕ → ℕ → Revision → Option BlockFault
unrevisable facts t i revision = no_contract facts t i revision.parent

-- B11: a storage proof names no running contract
abbrev pub unprovable : List Fact → ℕ → ℕ → StorageProof → Option BlockFault
unprovable facts t i proof = no_contract facts t i proof.parent

-- B12: a siafund input names no live siafund output
abbrev pub no_fund : List Fact → ℕ → ℕ → FundInput → Option BlockFault
no_fund facts t i input = broken (not (is_some (fund_at facts input.parent))) (block_fault.NoFund t i)

-- the address of an output, or the present unlock hash of a running contract, where this happened last
abbrev pub address_in : Option Deed → List ℕ
address_in (Some (deed.Coin output from)) = output.address
address_in (Some (deed.Fund output)) = output.address
address_in (Some (deed.Formed terms)) = terms.address
address_in (Some (deed.Revised terms)) = terms.address
address_in other = []

-- an index among the needs as it is told: one that no integer of 64 bits holds is told as the greatest
abbrev pub told_index : ℕ → ℕ
told_index i = min i (2 ^ 64 - 1)

-- B13: the conditions of a need don't hash to the address, or the present unlock hash, of what it names
abbrev pub wrong_conditions : List Fact → ℕ → ℕ → Need → Option BlockFault
wrong_conditions facts t i need =
    broken (not (bytes_eq (unlock_hash need.conditions) (address_in (last_deed facts need.parent)))) (block_fault.Conditions t (told_index i))

-- B14: the conditions of a need have a later timelock
abbrev pub locked : ℕ → ℕ → ℕ → Need → Option BlockFault
locked height t i need = broken (nat_lt height need.conditions.timelock) (block_fault.Locked t (told_index i))

-- B17: the number of a revision isn't above the present one
abbrev pub rev_number : List Fact → ℕ → ℕ → Revision → Option BlockFault
rev_number facts t i revision = option_and_then (λ (terms : Terms). revision_number t i terms revision) (terms_at facts revision.parent)

-- B18: the present window of a revised contract has begun, or the new one doesn't lie ahead
abbrev pub rev_window : ℕ → List Fact → ℕ → ℕ → Revision → Option BlockFault
rev_window height facts t i revision = option_and_then (λ (terms : Terms). revision_window height t i terms revision) (terms_at facts revision.parent)

-- B19: the outputs of a revision don't sum to the payout of the formation less its tax
abbrev pub rev_sum : List Fact → ℕ → ℕ → Revision → Option BlockFault
rev_sum facts t i revision = option_and_then (λ (terms : Terms). revision_sum t i terms revision) (terms_at facts revision.parent)

-- B20: the window of a proved contract begins at a later height
abbrev pub proof_window : ℕ → List Fact → ℕ → ℕ → StorageProof → Option BlockFault
proof_window height facts t i proof =
    option_and_then (λ (terms : Terms). broken (nat_lt height terms.start) (block_fault.ProofWindow t i terms.start)) (terms_at facts proof.parent)

-- the hashes upwards along the path of a place, joined to the leaf, give the root, and each is used
abbrev pub is_correct : List ℕ → ℕ → ℕ → List ℕ → List (List ℕ) → Bool
is_correct root size place leaf hashes = (length hashes == length (path_of (leaf_count size) place)) && bytes_eq (hash_of (leaf_tree size place leaf hashes)) root

-- an identifier, and none where there is none
abbrev pub id_or_none : Option (List ℕ) → List ℕ
id_or_none None = []
id_or_none (Some id) = id

-- the identifier of the block before a window
abbrev pub trigger : List (List ℕ) → ℕ → List ℕ
trigger ids start = id_or_none (slice_get ids (start - 1))

-- the leaf that a storage proof must prove, where something is stored: its place among the leaves of the contract's bytes
abbrev pub place_to_prove : List (List ℕ) → Terms → List ℕ → ℕ
place_to_prove ids terms contract = segment_index (trigger ids terms.start) contract (leaf_count terms.size)

-- something is stored, and the proof isn't correct for its place, root and size
abbrev pub is_unproved : List (List ℕ) → StorageProof → Terms → Bool
is_unproved ids proof terms = not (terms.size == 0) && not (is_correct terms.root terms.size (place_to_prove ids terms proof.parent) proof.leaf proof.hashes)

-- B21: something is stored under a proved contract, and the proof isn't correct
abbrev pub bad_proof : State → ℕ → ℕ → StorageProof → Option BlockFault
bad_proof state t i proof = option_and_then (λ (terms : Terms). broken (is_unproved state.ids proof terms) (block_fault.BadProof t i)) (terms_at state.facts proof.parent)

-- the value of a live siacoin output, and 0 where there is none
abbrev pub coin_value : Option (CoinOutput × ℕ) → ℕ
coin_value None = 0
coin_value (Some coin) = coin.0.value

-- how many siafunds a live siafund output holds, and 0 where there is none
abbrev pub fund_value : Option FundOutput → ℕ
fund_value None = 0
fund_value (Some fund) = fund.value

-- what the siacoin inputs of a transaction bring
unfoldable pub coins_in : List Fact → Transaction → ℕ
coins_in facts tx = sum_by (λ (input : CoinInput). coin_value (coin_at facts input.parent)) tx.coin_inputs

-- what the siafund inputs of a transaction bring
unfoldable pub funds_in : List Fact → Transaction → ℕ
funds_in facts tx = sum_by (λ (input : FundInput). fund_value (fund_at facts input.parent)) tx.fund_inputs

-- B22: the siacoin inputs, or else the siafund inputs, don't equal what leaves them
unfoldable pub unbalanced : List Fact → ℕ → Transaction → Option BlockFault
unbalanced facts t tx =
    broken (not (coins_in facts tx == coins_out tx)) (block_fault.Balance t false (coins_in facts tx) (coins_out tx))
    or_else broken (not (funds_in facts tx == funds_out tx)) (block_fault.Balance t true (funds_in facts tx) (funds_out tx))
