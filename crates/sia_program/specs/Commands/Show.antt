-- `show transaction FILE`, `show block FILE`: the fields of one encoded transaction or block (siad's doc/Encoding.md).
use Rattle.std.specs.Prelude.{ℕ, List, [], ◌∷◌, codes, nat_eq, if◌then◌else◌, Option, Some, None, Result, Ok, Err}
use Rattle.std.specs.Cmp.Lexicographic.{pointwise}
use Rattle.sia_encoding.specs.declared.fault.DecodeFault.{DecodeFault}
use Rattle.sia_encoding.specs.Answer.{◌>>=◌}
use Rattle.sia_encoding.specs.Codec.{Codec, spot}
use Rattle.sia_encoding.specs.Reading.{end_at}
use Rattle.sia_types.specs.Block.{block}
use Rattle.sia_types.specs.Transaction.{transaction}
use Rattle.sia_program.specs.declared.form.FilePlaces.{FilePlaces}
use Rattle.sia_program.specs.declared.form.Form.{Form}
use Rattle.sia_program.specs.declared.form.Form.TheVariants as form
use Rattle.sia_program.specs.declared.stop.Refusal.TheVariants as refusal
use Rattle.sia_program.specs.declared.stop.Stop.{Stop}
use Rattle.sia_program.specs.Fields.{block_lines, transaction_lines}
use Rattle.sia_program.specs.Inputs.{within}
use Rattle.sia_program.specs.Told.{or_refused, or_refused_at}

-- the form that shows a kind of record, if the word is one
abbrev pub kind_shown : List ℕ → Option Form
kind_shown word =
    if pointwise nat_eq word (codes "transaction") then Some form.ShowTransaction
    else (if pointwise nat_eq word (codes "block") then Some form.ShowBlock else None)

-- `show`, a kind of record and a file
abbrev pub show_form : List (List ℕ) → Option Form
show_form (command ∷ kind ∷ file ∷ []) = if pointwise nat_eq command (codes "show") then kind_shown kind else None
show_form _ = None

-- its one file
abbrev pub show_files : FilePlaces
show_files = record { config = None; input = Some 2 }

-- one record, and nothing behind it; no length and no count passes 2,000,000
unfoldable pub whole_record : {A : Type 0} → Codec A → List ℕ → Result A DecodeFault
whole_record codec bytes = do
  taken ← codec.reading (spot 0 bytes 2000000)
  ended ← end_at taken.1
  Ok taken.0

-- the text that `show` prints of a record in a file of at most 2,000,000 bytes
unfoldable pub shown : {A : Type 0} → Codec A → (A → List ℕ) → List ℕ → Result (List ℕ) Stop
shown codec lines file = do
  bytes ← within 2000000 file
  value ← or_refused (or_refused_at refusal.Input (whole_record codec bytes))
  Ok (lines value)

-- the text of `show transaction`
abbrev pub show_transaction_outcome : List ℕ → Result (List ℕ) Stop
show_transaction_outcome = shown transaction transaction_lines

-- the text of `show block`
abbrev pub show_block_outcome : List ℕ → Result (List ℕ) Stop
show_block_outcome = shown block block_lines
