-- The forms of the words behind the program's name, and which of their words name files.
use Rattle.std.specs.Prelude.{ℕ, List, Bool, is_some, Option}
use Rattle.std.specs.Option.{option_or}
use Rattle.sia_program.specs.declared.form.FilePlaces.{FilePlaces}
use Rattle.sia_program.specs.declared.form.Form.{Form}
use Rattle.sia_program.specs.declared.form.Form.TheVariants as form
use Rattle.sia_program.specs.Commands.Ledger.{ledger_form, ledger_files}
use Rattle.sia_program.specs.Commands.Root.{root_form, root_files}
use Rattle.sia_program.specs.Commands.Prove.{prove_form, prove_files}
use Rattle.sia_program.specs.Commands.Show.{show_form, show_files}

-- the form that some words have: at most one command's
abbrev pub form_of : List (List ℕ) → Option Form
form_of words = option_or (option_or (option_or (ledger_form words) (root_form words)) (prove_form words)) (show_form words)

-- which of a form's words name files, by their places behind the program's name
abbrev pub files_of : Form → FilePlaces
files_of form.Ledger = ledger_files
files_of form.Root = root_files
files_of (form.Prove start end) = prove_files
files_of form.ShowTransaction = show_files
files_of form.ShowBlock = show_files

-- whether a form's words name a configuration
abbrev pub names_config : Form → Bool
names_config form = is_some (files_of form).config

-- whether a form's words name a feed or a file
abbrev pub names_input : Form → Bool
names_input form = is_some (files_of form).input
