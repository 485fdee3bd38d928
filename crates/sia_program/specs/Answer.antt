-- What a command answers, and what it leaves in the outside.
use Rattle.std.specs.Prelude.{◌≡◌, ℕ, Bool, List, [], Option, Some, IfSome, Result, Ok, Err, ◌⊎◌, true}
use Rattle.std.specs.Io.KnownBytes.{Keeps, Appends}
use Rattle.sia_edge.specs.Edge.{Rose}
use Rattle.sia_edge.specs.Whole.{AppendsSomeOf}
use Rattle.sia_program.specs.declared.form.Form.{Form}
use Rattle.sia_program.specs.declared.stop.Stop.{Stop}
use Rattle.sia_program.specs.declared.stop.Stop.TheVariants as stop
use Rattle.sia_program.specs.Commands.Ledger.{Verdict}
use Rattle.sia_program.specs.Form.{names_config, names_input}
use Rattle.sia_program.specs.Lines.{stop_line}
use Rattle.sia_program.specs.Outcome.{OfOutcome}
use Rattle.sia_program.specs.Streams.{Stream, Sources, Streams}

-- the status of a command that had a form, by its end
abbrev pub status_of : {A : Type 0} → Result A Stop → ℕ
status_of (Ok done) = 0
status_of (Err (stop.Refused case)) = 2
status_of (Err stop.Outside) = 3
status_of (Err stop.Memory) = 5
status_of (Err stop.Long) = 8

-- a source of told bytes has none left
abbrev pub ReadToEnd : Option (List ℕ) → Option (List ℕ) → Type 0
ReadToEnd old new = IfSome old (λ left. new ≡ Some [])

-- a source has none left, if it is one that is named
abbrev pub EndsIf : Bool → Stream → Stream → Type 0
EndsIf named before after = named ≡ true → ReadToEnd before.bytes after.bytes

-- each source that a form names has none left
abbrev pub ReadToEnds : Form → Sources → Sources → Type 0
ReadToEnds form before after = EndsIf (names_config form) before.config after.config × EndsIf (names_input form) before.input after.input

-- a source failed, and is one that is named
abbrev pub FellIf : Bool → Stream → Stream → Type 0
FellIf named before after = (named ≡ true) × Rose before.faults after.faults

-- a source that a form names failed
abbrev pub ReadFell : Form → Sources → Sources → Type 0
ReadFell form before after = FellIf (names_config form) before.config after.config ⊎ FellIf (names_input form) before.input after.input

-- what a form's command uses of the outside failed: a source that it names, or standard output
abbrev pub Fell : Form → Streams → Streams → Type 0
Fell form before after = ReadFell form before.sources after.sources ⊎ Rose before.out.faults after.out.faults

-- `out` took nothing, unless the work was done or a call of the outside failed
abbrev pub IsQuiet : Result (Unit {0}) Stop → Stream → Stream → Type 0
IsQuiet (Ok done) before after = Unit {0}
IsQuiet (Err stop.Outside) before after = Unit {0}
IsQuiet (Err (stop.Refused case)) before after = Keeps before.bytes after.bytes
IsQuiet (Err stop.Memory) before after = Keeps before.bytes after.bytes
IsQuiet (Err stop.Long) before after = Keeps before.bytes after.bytes

-- The end of a command over told bytes, beside what they give and what `out` took: the whole text where the work was done; a
-- front part of it, or nothing, after a fault of the outside; else nothing.
abbrev pub Ended : Result (Unit {0}) Stop → Result (List ℕ) Stop → Stream → Stream → Type 0
Ended (Ok done) given before after = (text : List ℕ) × (given ≡ Ok text) × Appends before.bytes after.bytes text
Ended (Err (stop.Refused case)) given before after = (given ≡ Err (stop.Refused case)) × Keeps before.bytes after.bytes
Ended (Err stop.Long) given before after = (given ≡ Err stop.Long) × Keeps before.bytes after.bytes
Ended (Err stop.Outside) given before after = Keeps before.bytes after.bytes ⊎ ((text : List ℕ) × (given ≡ Ok text) × AppendsSomeOf before.bytes after.bytes text)
Ended (Err stop.Memory) given before after = Keeps before.bytes after.bytes

-- `err` took a line, or a front part of it where the write failed
abbrev pub Tells : List ℕ → Stream → Stream → Type 0
Tells line before after = Appends before.bytes after.bytes line ⊎ (AppendsSomeOf before.bytes after.bytes line × Rose before.faults after.faults)

-- `err` took the line of the end, and nothing where the work was done
abbrev pub TellsEnd : Result (Unit {0}) Stop → Stream → Stream → Type 0
TellsEnd (Ok done) before after = Keeps before.bytes after.bytes
TellsEnd (Err reason) before after = Tells (stop_line reason) before after

-- a refusal
abbrev pub IsRefused : Stop → Type 0
IsRefused (stop.Refused case) = Unit {0}
IsRefused stop.Outside = ⊥
IsRefused stop.Memory = ⊥
IsRefused stop.Long = ⊥

-- Why a command stopped, and what is told of it: the same, or want of memory where there was none to write down the refusal.
abbrev pub IsToldAs : Stop → Stop → Type 0
IsToldAs reason told = (told ≡ reason) ⊎ ((told ≡ stop.Memory) × IsRefused reason)

-- What is told of a reason: the status is its status, and `err` took its line.
abbrev pub TellsReason : Stop → ℕ → Stream → Stream → Type 0
TellsReason reason status before after =
    (told : Stop) × IsToldAs reason told × (status ≡ status_of {A = Unit {0}} (Err told)) × Tells (stop_line told) before after

-- What a command with a form answered: it came to an end, of which the status is the status and `err` took the line. `out` took
-- nothing unless the work was done or a call of the outside failed. Over told bytes the end is the one that they give.
-- At status 0 each source that the form names was read to its end, and status 3 has its cause in the outside. Where none of that
-- outside failed, the status is that of what the bytes give, or want of memory. No other source counts in these three.
pub record Answered (verdict : Verdict) (form : Form) (status : ℕ) (before after : Streams) : Type 0 where
  pub end : Result (Unit {0}) Stop
  pub status_is : status ≡ status_of end
  pub line : TellsEnd end before.err after.err
  pub quiet : IsQuiet end before.out after.out
  pub told : OfOutcome verdict form before.sources (λ given. Ended end given before.out after.out)
  pub ended : status ≡ 0 → ReadToEnds form before.sources after.sources
  pub outside : status ≡ 3 → Fell form before after
  pub complete : ¬ Fell form before after → OfOutcome verdict form before.sources (λ given. (status ≡ 5) ⊎ (status ≡ status_of given))
