-- What is printed of a transaction and of a block: a line for each entry of its fields, in order (siad's types/transactions.go,
-- types/filecontracts.go and types/block.go). Values are in hastings, siafunds or bytes; hashes are hexadecimal.
use Rattle.std.specs.Prelude.{ℕ, ◌+◌, List, [], ◌∷◌, ◌++◌, length, codes, decimal}
use Rattle.hex.specs.Hex.{encode_lower}
use Rattle.sia_types.specs.declared.block.Block.{Block}
use Rattle.sia_types.specs.declared.coins.CoinInput.{CoinInput}
use Rattle.sia_types.specs.declared.coins.CoinOutput.{CoinOutput}
use Rattle.sia_types.specs.declared.file_contracts.FileContract.{FileContract}
use Rattle.sia_types.specs.declared.file_contracts.Revision.{Revision}
use Rattle.sia_types.specs.declared.file_contracts.StorageProof.{StorageProof}
use Rattle.sia_types.specs.declared.funds.FundInput.{FundInput}
use Rattle.sia_types.specs.declared.funds.FundOutput.{FundOutput}
use Rattle.sia_types.specs.declared.signature.Signature.{Signature}
use Rattle.sia_types.specs.declared.transaction.Transaction.{Transaction}
use Rattle.sia_ids.specs.Conditions.{unlock_hash}
use Rattle.sia_ids.specs.Identifiers.{block_id, payout_id}
use Rattle.sia_ids.specs.Transactions.{coin_id, contract_id, fund_id, transaction_id}
use Rattle.sia_program.specs.Faults.{bool_digit}
use Rattle.sia_program.specs.Lines.{line}

-- the lines of the entries of a list, of which the first has this index
abbrev pub lines_from : {X : Type 0} → (ℕ → X → List ℕ) → ℕ → List X → List ℕ
lines_from lines index [] = []
lines_from lines index (x ∷ xs) = lines index x ++ lines_from lines (index + 1) xs

-- two hashes behind a name
unfoldable pub pair_line : List ℕ → List ℕ → List ℕ → List ℕ
pair_line name first second = name ++ (codes " " ++ (encode_lower first ++ (codes " " ++ (encode_lower second ++ codes "\n"))))

-- a siacoin output that is spent, and the unlock hash of its conditions
abbrev pub input_line : CoinInput → List ℕ
input_line input = pair_line (codes "input") input.parent (unlock_hash input.conditions)

-- what is made: its identifier, its value and its address
unfoldable pub made_line : List ℕ → List ℕ → ℕ → List ℕ → List ℕ
made_line name id value address = name ++ (codes " " ++ (encode_lower id ++ (codes " " ++ (decimal value ++ (codes " " ++ (encode_lower address ++ codes "\n"))))))

-- the siacoin output at an index of a transaction
abbrev pub output_line : Transaction → ℕ → CoinOutput → List ℕ
output_line tx index output = made_line (codes "output") (coin_id tx index) output.value output.address

-- what a contract pays, in one case or the other
unfoldable pub payment_line : List ℕ → CoinOutput → List ℕ
payment_line name output = name ++ (codes " " ++ (decimal output.value ++ (codes " " ++ (encode_lower output.address ++ codes "\n"))))

-- what a contract or a revision pays: in the valid case, and then in the missed one
unfoldable pub payment_lines : List CoinOutput → List CoinOutput → List ℕ
payment_lines valid missed = lines_from (λ index. payment_line (codes "valid")) 0 valid ++ lines_from (λ index. payment_line (codes "missed")) 0 missed

-- the file contract with an identifier
unfoldable pub contract_line : List ℕ → FileContract → List ℕ
contract_line id contract =
    codes "contract " ++ (encode_lower id ++ (codes " " ++ (decimal contract.size ++ (codes " " ++ (encode_lower contract.root
    ++ (codes " " ++ (decimal contract.start ++ (codes " " ++ (decimal contract.end ++ (codes " " ++ (decimal contract.payout ++ (codes " " ++ (decimal contract.number ++ codes "\n")))))))))))))

-- the file contract at an index of a transaction
unfoldable pub contract_lines : Transaction → ℕ → FileContract → List ℕ
contract_lines tx index contract = contract_line (contract_id tx index) contract ++ payment_lines contract.valid contract.missed

-- a revision's own line
unfoldable pub revision_line : Revision → List ℕ
revision_line revision =
    codes "revision " ++ (encode_lower revision.parent ++ (codes " " ++ (decimal revision.number ++ (codes " " ++ (decimal revision.size
    ++ (codes " " ++ (encode_lower revision.root ++ (codes " " ++ (decimal revision.start ++ (codes " " ++ (decimal revision.end ++ codes "\n")))))))))))

-- a revision
unfoldable pub revision_lines : Revision → List ℕ
revision_lines revision = revision_line revision ++ payment_lines revision.valid revision.missed

-- a storage proof, and how many hashes it has
unfoldable pub proof_line : StorageProof → List ℕ
proof_line proof = codes "proof " ++ (encode_lower proof.parent ++ (codes " " ++ (decimal (length proof.hashes) ++ codes "\n")))

-- a siafund output that is spent, and where its claim goes
abbrev pub fund_input_line : FundInput → List ℕ
fund_input_line input = pair_line (codes "fundinput") input.parent input.claim_address

-- the siafund output at an index of a transaction
abbrev pub fund_output_line : Transaction → ℕ → FundOutput → List ℕ
fund_output_line tx index output = made_line (codes "fundoutput") (fund_id tx index) output.value output.address

-- what is paid to the miner
abbrev pub fee_line : ℕ → List ℕ
fee_line fee = line (codes "fee") (decimal fee)

-- how many bytes a note has
abbrev pub note_line : List ℕ → List ℕ
note_line note = line (codes "note") (decimal (length note))

-- a signature: whose, by which key, from which height on, and whether it covers the whole transaction
unfoldable pub signature_line : Signature → List ℕ
signature_line signature =
    codes "signature " ++ (encode_lower signature.parent ++ (codes " " ++ (decimal signature.key_index
    ++ (codes " " ++ (decimal signature.timelock ++ (codes " " ++ (decimal (bool_digit signature.covered.whole) ++ codes "\n")))))))

-- the lines of what a transaction moves: coins and contracts
unfoldable pub coin_lines : Transaction → List ℕ
coin_lines tx =
    lines_from (λ index. input_line) 0 tx.coin_inputs ++ lines_from (output_line tx) 0 tx.coin_outputs ++ lines_from (contract_lines tx) 0 tx.contracts
    ++ lines_from (λ index. revision_lines) 0 tx.revisions ++ lines_from (λ index. proof_line) 0 tx.proofs

-- the lines of its siafunds, fees, notes and signatures
unfoldable pub other_lines : Transaction → List ℕ
other_lines tx =
    lines_from (λ index. fund_input_line) 0 tx.fund_inputs ++ lines_from (fund_output_line tx) 0 tx.fund_outputs ++ lines_from (λ index. fee_line) 0 tx.fees
    ++ lines_from (λ index. note_line) 0 tx.notes ++ lines_from (λ index. signature_line) 0 tx.signatures

-- a transaction: its identifier, and then each field's entries in order
unfoldable pub transaction_lines : Transaction → List ℕ
transaction_lines tx = line (codes "transaction") (encode_lower (transaction_id tx)) ++ coin_lines tx ++ other_lines tx

-- a block's own line: its identifier, its parent's, and its moment in seconds
unfoldable pub block_line : List ℕ → Block → List ℕ
block_line id block = codes "block " ++ (encode_lower id ++ (codes " " ++ (encode_lower block.parent ++ (codes " " ++ (decimal block.timestamp ++ codes "\n")))))

-- the miner payout at an index of the block with an identifier
abbrev pub payout_line : List ℕ → ℕ → CoinOutput → List ℕ
payout_line id index payout = made_line (codes "payout") (payout_id id index) payout.value payout.address

-- a block: itself, its payouts, and then its transactions
unfoldable pub block_lines : Block → List ℕ
block_lines block = block_line (block_id block) block ++ lines_from (payout_line (block_id block)) 0 block.payouts ++ lines_from (λ index. transaction_lines) 0 block.transactions
