-- Blocks: each is its fields in order (siad's types/block.go; siad's doc/Encoding.md).
use Rattle.std.specs.Prelude.{refl}
use Rattle.sia_encoding.specs.Codec.{Codec, Lawful}
use Rattle.sia_encoding.specs.Items.{fixed, hash, list_of, number}
use Rattle.sia_encoding.specs.Records.{◌&◌, Record, record_of, recorded}
use Rattle.sia_encoding.specs.CodecLaws.{fixed_law}
use Rattle.sia_encoding.specs.ItemLaws.{hash_law, list_law, number_law}
use Rattle.sia_encoding.specs.RecordLaws.{◌&&&◌, record_law}
use Rattle.sia_types.specs.declared.block.Block.{Block}
use Rattle.sia_types.specs.Coins.{coin_output, coin_output_law}
use Rattle.sia_types.specs.Transaction.{transaction, transaction_law}

-- the fields of a block
abbrev pub block_record : Record Block
block_record = record_of
    (hash & (fixed 8) & number & list_of coin_output & list_of transaction)
    (λ p. record { parent = p.0; nonce = p.1.0; timestamp = p.1.1.0; payouts = p.1.1.1.0; transactions = p.1.1.1.1 })
    (λ r. (r.parent, (r.nonce, (r.timestamp, (r.payouts, r.transactions)))))

-- a block
abbrev pub block : Codec Block
block = recorded block_record

-- its reading gives back what its spelling writes
pub block_law : Lawful block
block_law = record_law block_record (λ p. refl) (λ r. refl) (hash_law &&& fixed_law 8 &&& number_law &&& list_law coin_output_law &&& list_law transaction_law)
