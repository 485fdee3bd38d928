-- The law of a host's records. No public clause speaks of these lemmas but by it.
use Rattle.std.proofs.Common.{◌≡◌, ℕ, List, Some, refl, sym, ap}
use Rattle.sia_encoding.specs.Codec.{Lawful}
use Rattle.sia_encoding.specs.ItemLaws.{byte_string_law, hash_law, list_law}
use Rattle.sia_encoding.specs.RecordLaws.{◌&&&◌, choice_law, variant_law, nothing_law}
use Rattle.sia_types.specs.declared.block.Block.{Block}
use Rattle.sia_types.specs.declared.file_contracts.Revision.{Revision}
use Rattle.sia_types.specs.declared.transaction.Transaction.{Transaction}
use Rattle.sia_types.specs.Block.{block_law}
use Rattle.sia_types.specs.FileContracts.{revision_law}
use Rattle.sia_types.specs.Transaction.{transaction_law}
use Rattle.sia_records.specs.declared.change.Change.{Change}
use Rattle.sia_records.specs.declared.host_record.HostRecord.{HostRecord}
use Rattle.sia_records.specs.declared.host_record.HostRecord.TheVariants as records
use Rattle.sia_records.specs.declared.kind.RecordKind.{RecordKind}
use Rattle.sia_records.specs.declared.kind.RecordKind.TheVariants as kind
use Rattle.sia_records.specs.ChangeLaws.{change_law}
use Rattle.sia_records.specs.KindLaws.{record_kinds_law}
use Rattle.sia_records.specs.HostRecords.{kind_of_record, block_kept, revert_kept, formed_kept, revised_kept, renewed_kept, record_behind, host_record}

same_kind : (k : RecordKind) (limit : ℕ) (r : HostRecord) → (record_behind k).fits limit r → kind_of_record r ≡ k
same_kind kind.Block limit (records.Block mined) fits = refl
same_kind kind.Revert limit records.Revert fits = refl
same_kind kind.Formed limit (records.Formed renter_key tx) fits = refl
same_kind kind.Revised limit (records.Revised newest renter host changes) fits = refl
same_kind kind.Renewed limit (records.Renewed tx) fits = refl
same_kind _ limit _ fits = absurd fits

block_again : (r : HostRecord) (p : Block) → block_kept r ≡ Some p → records.Block p ≡ r
block_again (records.Block mined) p is = (cc)
block_again _ p is = (cc)

revert_again : (r : HostRecord) (p : Unit {0}) → revert_kept r ≡ Some p → records.Revert ≡ r
revert_again records.Revert p is = refl
revert_again _ p is = (cc)

formed_again : (r : HostRecord) (p : List ℕ × Transaction) → formed_kept r ≡ Some p → records.Formed p.0 p.1 ≡ r
formed_again (records.Formed renter_key tx) p is = let same : (renter_key, tx) ≡ p = cc in ap (λ (q : List ℕ × Transaction). records.Formed q.0 q.1) (sym same)
formed_again _ p is = (cc)

revised_again : (r : HostRecord) (p : Revision × (List ℕ × (List ℕ × List Change))) → revised_kept r ≡ Some p → records.Revised p.0 p.1.0 p.1.1.0 p.1.1.1 ≡ r
revised_again (records.Revised newest renter host changes) p is =
    let same : (newest, (renter, (host, changes))) ≡ p = cc in
    ap (λ (q : Revision × (List ℕ × (List ℕ × List Change))). records.Revised q.0 q.1.0 q.1.1.0 q.1.1.1) (sym same)
revised_again _ p is = (cc)

renewed_again : (r : HostRecord) (p : Transaction) → renewed_kept r ≡ Some p → records.Renewed p ≡ r
renewed_again (records.Renewed tx) p is = (cc)
renewed_again _ p is = (cc)

behind_law : (k : RecordKind) → Lawful (record_behind k)
behind_law kind.Block = variant_law (λ p. records.Block p) block_kept (λ p. refl) block_again block_law
behind_law kind.Revert = variant_law (λ p. records.Revert) revert_kept (λ p. refl) revert_again nothing_law
behind_law kind.Formed = variant_law (λ p. records.Formed p.0 p.1) formed_kept (λ p. refl) formed_again (hash_law &&& transaction_law)
behind_law kind.Revised = variant_law (λ p. records.Revised p.0 p.1.0 p.1.1.0 p.1.1.1) revised_kept (λ p. refl) revised_again (revision_law &&& byte_string_law &&& byte_string_law &&& list_law change_law)
behind_law kind.Renewed = variant_law (λ p. records.Renewed p) renewed_kept (λ p. refl) renewed_again transaction_law

-- what is read as a record is spelled so, and what is spelled so is read
pub host_record_law : Lawful host_record
host_record_law = choice_law kind_of_record record_behind same_kind record_kinds_law behind_law
