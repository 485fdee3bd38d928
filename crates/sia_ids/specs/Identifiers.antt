-- The byte strings whose BLAKE2b-256 digests name blocks and outputs, and the leaves of a block's Merkle tree
-- (siad's doc/Encoding.md; types/block.go: the identifiers of a block and of its payouts, and its root; types/
-- transactions.go: the labels, there called specifiers). The genesis, which has no parent, has a label of its own.
use Rattle.std.specs.Prelude.{ℕ, ◌≡◌, List, [], ◌∷◌, ◌++◌, length, map, codes}
use Rattle.sia_blake.specs.Blake2b.{blake2b_256}
use Rattle.sia_encoding.specs.Spelling.{label, spelled_u64, spelled_list}
use Rattle.sia_merkle.specs.Roots.{root_of}
use Rattle.sia_types.specs.declared.funds.FundOutput.{FundOutput}
use Rattle.sia_types.specs.declared.block.Block.{Block}
use Rattle.sia_types.specs.Coins.{coin_output}
use Rattle.sia_types.specs.Funds.{fund_output}
use Rattle.sia_types.specs.Transaction.{transaction}

-- the root of a block: its leaves are its payouts, and then its transactions
unfoldable pub block_root : Block → List ℕ
block_root block = root_of (map coin_output.spelled block.payouts ++ map transaction.spelled block.transactions)

-- the header of a block: its parent, its nonce, its timestamp and its root
unfoldable pub block_text : Block → List ℕ
block_text block = block.parent ++ (block.nonce ++ (spelled_u64 block.timestamp ++ block_root block))

-- a block is named by the digest of its header
unfoldable pub block_id : Block → List ℕ
block_id block = blake2b_256 (block_text block)

-- the text of the miner payout at an index from 0 of the block with this identifier
unfoldable pub payout_text : List ℕ → ℕ → List ℕ
payout_text block index = block ++ spelled_u64 index

-- a miner payout is named by the digest of its text
unfoldable pub payout_id : List ℕ → ℕ → List ℕ
payout_id block index = blake2b_256 (payout_text block index)

-- a siafund output as the genesis makes it: with the claim start 0
abbrev pub new_fund : FundOutput → FundOutput
new_fund fund = record fund { claim_start = 0 }

-- the text of the genesis: its label, and its siafund outputs
unfoldable pub genesis_text : List FundOutput → List ℕ
genesis_text funds = label (codes "genesis") ++ spelled_list fund_output.spelled (map new_fund funds)

-- the genesis is named by the digest of its text
unfoldable pub genesis_id : List FundOutput → List ℕ
genesis_id funds = blake2b_256 (genesis_text funds)

-- the text of the siafund output at an index from 0 of the genesis with this identifier
unfoldable pub genesis_fund_text : List ℕ → ℕ → List ℕ
genesis_fund_text genesis index = label (codes "siafund output") ++ (genesis ++ spelled_u64 index)

-- a siafund output of the genesis is named by the digest of its text
unfoldable pub genesis_fund_id : List ℕ → ℕ → List ℕ
genesis_fund_id genesis index = blake2b_256 (genesis_fund_text genesis index)

-- each address is a digest's length
abbrev pub AreSized : List FundOutput → Type 0
AreSized [] = Unit {0}
AreSized (fund ∷ funds) = (length fund.address ≡ 32) × AreSized funds
