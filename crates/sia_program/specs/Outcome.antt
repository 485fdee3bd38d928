-- What a command gives for the bytes of the files that its words name: a text, or why there is none.
use Rattle.std.specs.Prelude.{ℕ, List, Option, IfSome, Result}
use Rattle.std.specs.Option.{option_map, option_and_then}
use Rattle.sia_program.specs.declared.form.Form.{Form}
use Rattle.sia_program.specs.declared.form.Form.TheVariants as form
use Rattle.sia_program.specs.declared.stop.Stop.{Stop}
use Rattle.sia_program.specs.Streams.{Sources}
use Rattle.sia_program.specs.Commands.Ledger.{Verdict, ledger_outcome}
use Rattle.sia_program.specs.Commands.Prove.{prove_outcome}
use Rattle.sia_program.specs.Commands.Root.{root_outcome}
use Rattle.sia_program.specs.Commands.Show.{show_block_outcome, show_transaction_outcome}

-- what two byte strings give, where both are told
abbrev pub given_both : (List ℕ → List ℕ → Result (List ℕ) Stop) → Option (List ℕ) → Option (List ℕ) → Option (Result (List ℕ) Stop)
given_both outcome first second = option_and_then (λ f. option_map (outcome f) second) first

-- what a form gives, where the bytes of each file that it names are told, by which signatures are accepted
abbrev pub outcome_of : Verdict → Form → Sources → Option (Result (List ℕ) Stop)
outcome_of verdict form.Ledger s = given_both (ledger_outcome verdict) s.config.bytes s.input.bytes
outcome_of verdict form.Root s = option_map root_outcome s.input.bytes
outcome_of verdict (form.Prove start end) s = option_map (prove_outcome start end) s.input.bytes
outcome_of verdict form.ShowTransaction s = option_map show_transaction_outcome s.input.bytes
outcome_of verdict form.ShowBlock s = option_map show_block_outcome s.input.bytes

-- a fact of what a form gives, where that is told
abbrev pub OfOutcome : Verdict → Form → Sources → (Result (List ℕ) Stop → Type 0) → Type 0
OfOutcome verdict form s P = IfSome (outcome_of verdict form s) P
