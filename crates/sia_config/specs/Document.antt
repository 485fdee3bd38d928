-- The document that the bytes of a configuration spell, and what stands at a key of it (TOML 1.0, as the crate `toml` reads it).
use Rattle.std.specs.Prelude.{ℕ, List, if◌then◌else◌, Option, None, option_map, option_and_then}
use Rattle.std.specs.Str.{is_utf8}
use Rattle.toml.specs.Data.{Data, table, get}
use Rattle.toml.specs.Parse.{parse_document}
use Rattle.sia_config.specs.declared.key.ConfigKey.{ConfigKey}
use Rattle.sia_config.specs.Key.{table_of, name_of}

-- the document that the bytes spell, if they are UTF-8 and TOML
unfoldable pub document : List ℕ → Option Data
document bytes = if is_utf8 bytes then option_map table (parse_document bytes) else None

-- what stands at a key; a table that is missing, or is no table, has no keys
unfoldable pub value_at : ConfigKey → Data → Option Data
value_at key doc = option_and_then (get (name_of key)) (get (table_of key) doc)
