-- `root FILE`: the Merkle root over a file's leaves of 64 bytes (Sia whitepaper; siad's sector roots).
use Rattle.std.specs.Prelude.{ℕ, ◌^◌, List, [], ◌∷◌, ◌++◌, length, codes, decimal, nat_eq, if◌then◌else◌, Option, Some, None, Result, Ok}
use Rattle.std.specs.Cmp.Lexicographic.{pointwise}
use Rattle.hex.specs.Hex.{encode_lower}
use Rattle.sia_encoding.specs.Answer.{◌>>=◌}
use Rattle.sia_merkle.specs.Roots.{leaf_count, leaves_of, root_of}
use Rattle.sia_program.specs.declared.form.FilePlaces.{FilePlaces}
use Rattle.sia_program.specs.declared.form.Form.{Form}
use Rattle.sia_program.specs.declared.form.Form.TheVariants as form
use Rattle.sia_program.specs.declared.stop.Stop.{Stop}
use Rattle.sia_program.specs.Inputs.{within}

-- `root` and a file
abbrev pub root_form : List (List ℕ) → Option Form
root_form (command ∷ file ∷ []) = if pointwise nat_eq command (codes "root") then Some form.Root else None
root_form _ = None

-- its one file
abbrev pub root_files : FilePlaces
root_files = record { config = None; input = Some 1 }

-- the line of a file's root, how many leaves it has, and how many bytes
unfoldable pub root_text : List ℕ → ℕ → ℕ → List ℕ
root_text root leaves bytes = codes "root " ++ (encode_lower root ++ (codes " leaves " ++ (decimal leaves ++ (codes " bytes " ++ (decimal bytes ++ codes "\n")))))

-- the root of a file of at most 2^30 bytes, and how many bytes it has
unfoldable pub root_found : List ℕ → Result (List ℕ × ℕ) Stop
root_found file = do
  bytes ← within (2 ^ 30) file
  Ok (root_of (leaves_of bytes), length bytes)

-- the text that `root` prints
unfoldable pub root_outcome : List ℕ → Result (List ℕ) Stop
root_outcome file = do
  found ← root_found file
  Ok (root_text found.0 (leaf_count found.1) found.1)
