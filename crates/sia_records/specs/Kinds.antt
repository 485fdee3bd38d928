-- The kinds of a host's records, each by one byte (as siad's types.Specifier tells kinds apart, in one byte in place of 16).
use Rattle.std.specs.Prelude.{List, [], ◌∷◌, find, bytes_eq, Option, ℕ}
use Rattle.sia_encoding.specs.Codec.{Codec}
use Rattle.sia_encoding.specs.Items.{fixed}
use Rattle.sia_encoding.specs.Records.{named}
use Rattle.sia_records.specs.declared.kind.RecordKind.{RecordKind}
use Rattle.sia_records.specs.declared.kind.RecordKind.TheVariants as kind

-- the byte of a kind
abbrev pub record_kind_text : RecordKind → List ℕ
record_kind_text kind.Block = 1 ∷ []
record_kind_text kind.Revert = 2 ∷ []
record_kind_text kind.Formed = 3 ∷ []
record_kind_text kind.Revised = 4 ∷ []
record_kind_text kind.Renewed = 5 ∷ []

-- every kind
abbrev pub every_record_kind : List RecordKind
every_record_kind = kind.Block ∷ kind.Revert ∷ kind.Formed ∷ kind.Revised ∷ kind.Renewed ∷ []

-- the kind that has this byte, if one has
abbrev pub record_kind_of : List ℕ → Option RecordKind
record_kind_of text = find (λ k. bytes_eq (record_kind_text k) text) every_record_kind

-- a kind, by its byte
abbrev pub record_kinds : Codec RecordKind
record_kinds = named (fixed 1) record_kind_text record_kind_of
