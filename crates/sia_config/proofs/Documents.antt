-- The document that bytes spell, from what the reader of TOML answers.
use Rattle.std.proofs.Common.{◌≡◌, ℕ, Bool, true, false, List, Some, None, option_map, refl, if◌then◌else◌}
use Rattle.std.specs.Str.{is_utf8}
use Rattle.std.specs.Prelude.{IsUtf8}
use Rattle.std.proofs.lemmas.Str.{IsUtf8-from_is_utf8, is_utf8-from_IsUtf8}
use Rattle.toml.specs.Data.{Members, table}
use Rattle.toml.specs.Parse.{parse_document}
use Rattle.sia_config.specs.Document.{document}

-- text that is read
pub document-read : (bytes : List ℕ) (entries : Members) → IsUtf8 bytes → parse_document bytes ≡ Some entries → document bytes ≡ Some (table entries)
unfolding document
document-read bytes entries utf8 read = rw (is_utf8-from_IsUtf8 bytes utf8, read) refl

-- bytes that are no text, or text that is refused
pub document-refused : (bytes : List ℕ) → (IsUtf8 bytes → parse_document bytes ≡ None) → document bytes ≡ None
unfolding document
document-refused bytes refused = by_test (is_utf8 bytes) (λ e. refused (IsUtf8-from_is_utf8 bytes e))
  where
    by_test : (utf8 : Bool) → (utf8 ≡ true → parse_document bytes ≡ None) → (if utf8 then option_map table (parse_document bytes) else None) ≡ None
    by_test true none = rw (none refl) refl
    by_test false none = refl
