-- Kinds and their bytes find each other. No public clause speaks of these lemmas but by the law of kinds; they stand here since
-- the law of a host's records is made of it.
use Rattle.std.proofs.Common.{◌≡◌, ℕ, List, bytes_eq, Some, refl}
use Rattle.std.proofs.lemmas.Slice.Eq.{bytes_eq-Decides}
use Rattle.sia_encoding.specs.Codec.{Lawful}
use Rattle.sia_encoding.specs.CodecLaws.{fixed_law}
use Rattle.sia_encoding.specs.RecordLaws.{found_passes, named_law}
use Rattle.sia_records.specs.declared.kind.RecordKind.{RecordKind}
use Rattle.sia_records.specs.declared.kind.RecordKind.TheVariants as kind
use Rattle.sia_records.specs.Kinds.{record_kind_text, record_kind_of, every_record_kind, record_kinds}

-- the byte of a kind finds it
pub kind_found : (k : RecordKind) → record_kind_of (record_kind_text k) ≡ Some k
kind_found kind.Block = refl
kind_found kind.Revert = refl
kind_found kind.Formed = refl
kind_found kind.Revised = refl
kind_found kind.Renewed = refl

-- a kind that is found has the byte
pub kind_named : (text : List ℕ) (k : RecordKind) → record_kind_of text ≡ Some k → record_kind_text k ≡ text
kind_named text k is = (bytes_eq-Decides (record_kind_text k) text).0 (found_passes (λ l. bytes_eq (record_kind_text l) text) every_record_kind k is)

-- what is read as a kind is spelled so, and what is spelled so is read
pub record_kinds_law : Lawful record_kinds
record_kinds_law = named_law record_kind_text record_kind_of kind_found kind_named (fixed_law 1)
