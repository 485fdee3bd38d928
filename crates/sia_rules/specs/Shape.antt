-- What the lists of a transaction must be, whatever the chain: a storage proof stands beside nothing that makes or revises (B7), and
-- no list names a parent twice (B8) (siad's doc/Consensus.md).
use Rattle.std.specs.Prelude.{ℕ, Bool, false, List, [], ◌∷◌, length, map, Option, ◌==◌, ◌||◌, ◌&&◌, not}
use Rattle.std.specs.List.{list_any}
use Rattle.std.specs.Str.{bytes_eq}
use Rattle.sia_encoding.specs.Firsts.{broken, ◌or_else◌}
use Rattle.sia_types.specs.declared.coins.CoinInput.{CoinInput}
use Rattle.sia_types.specs.declared.file_contracts.Revision.{Revision}
use Rattle.sia_types.specs.declared.file_contracts.StorageProof.{StorageProof}
use Rattle.sia_types.specs.declared.funds.FundInput.{FundInput}
use Rattle.sia_types.specs.declared.transaction.Transaction.{Transaction}
use Rattle.sia_rules.specs.declared.fault.BlockFault.{BlockFault}
use Rattle.sia_rules.specs.declared.fault.BlockFault.TheVariants as block_fault

-- a transaction makes no output or contract, and revises none
abbrev pub makes_nothing : Transaction → Bool
makes_nothing tx = (length tx.coin_outputs == 0) && (length tx.fund_outputs == 0) && (length tx.contracts == 0) && (length tx.revisions == 0)

-- B7: a storage proof stands beside an output, a contract or a revision
unfoldable pub proof_mix : ℕ → Transaction → Option BlockFault
proof_mix t tx = broken (not (length tx.proofs == 0) && not (makes_nothing tx)) (block_fault.ProofMix t)

-- two of the identifiers are the same
abbrev pub names_twice : List (List ℕ) → Bool
names_twice [] = false
names_twice (id ∷ ids) = list_any (bytes_eq id) ids || names_twice ids

-- what siacoin inputs name
abbrev pub coin_parents : List CoinInput → List (List ℕ)
coin_parents inputs = map (λ (input : CoinInput). input.parent) inputs

-- what siafund inputs name
abbrev pub fund_parents : List FundInput → List (List ℕ)
fund_parents inputs = map (λ (input : FundInput). input.parent) inputs

-- what revisions name
abbrev pub revision_parents : List Revision → List (List ℕ)
revision_parents revisions = map (λ (revision : Revision). revision.parent) revisions

-- what storage proofs name
abbrev pub proof_parents : List StorageProof → List (List ℕ)
proof_parents proofs = map (λ (proof : StorageProof). proof.parent) proofs

-- B8: two inputs of one kind, two revisions or two storage proofs name one parent
unfoldable pub repeated : ℕ → Transaction → Option BlockFault
repeated t tx =
    broken
    (names_twice (coin_parents tx.coin_inputs)
    || names_twice (fund_parents tx.fund_inputs)
    || names_twice (revision_parents tx.revisions)
    || names_twice (proof_parents tx.proofs))
    (block_fault.Repeated t)

-- the first thing that is wrong with the lists of a transaction
abbrev pub shape_fault : ℕ → Transaction → Option BlockFault
shape_fault t tx = proof_mix t tx or_else repeated t tx
