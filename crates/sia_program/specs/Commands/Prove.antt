-- `prove FILE A B`: the hashes that prove a range of a file's leaves against its Merkle root (Sia whitepaper; Sia's Go library
-- `merkletree`).
use Rattle.std.specs.Prelude.{ℕ, ◌^◌, List, [], ◌∷◌, ◌++◌, length, map, codes, decimal, nat_eq, nat_le, nat_lt, ◌&&◌, if◌then◌else◌, Option, Some, None, Result, Ok, Err}
use Rattle.std.specs.Cmp.Lexicographic.{pointwise}
use Rattle.hex.specs.Hex.{encode_lower}
use Rattle.sia_encoding.specs.Answer.{◌>>=◌}
use Rattle.sia_merkle.specs.Roots.{leaf_count, leaf_digest, leaves_of, root_of}
use Rattle.sia_merkle.specs.Segments.{cover, others, places_between, segment_roots}
use Rattle.sia_range.specs.declared.prover.RangeProof.{RangeProof}
use Rattle.sia_program.specs.declared.form.FilePlaces.{FilePlaces}
use Rattle.sia_program.specs.declared.form.Form.{Form}
use Rattle.sia_program.specs.declared.form.Form.TheVariants as form
use Rattle.sia_program.specs.declared.stop.Refusal.{Refusal}
use Rattle.sia_program.specs.declared.stop.Refusal.TheVariants as refusal
use Rattle.sia_program.specs.declared.stop.Stop.{Stop}
use Rattle.sia_program.specs.Inputs.{within}
use Rattle.sia_program.specs.Lines.{line}
use Rattle.sia_program.specs.Told.{or_refused}
use Rattle.sia_program.specs.Words.{number_of}

-- the range from one number to another, if both are numbers
abbrev pub prove_from : Option ℕ → Option ℕ → Option Form
prove_from (Some start) (Some end) = Some (form.Prove start end)
prove_from _ _ = None

-- `prove`, a file and two numbers
abbrev pub prove_form : List (List ℕ) → Option Form
prove_form (command ∷ file ∷ start ∷ end ∷ []) = if pointwise nat_eq command (codes "prove") then prove_from (number_of start) (number_of end) else None
prove_form _ = None

-- its one file
abbrev pub prove_files : FilePlaces
prove_files = record { config = None; input = Some 1 }

-- what is found of a file: its root, the hashes of a proof, and how many bytes it has
pub record Found : Type 0 where
  pub root : List ℕ
  pub hashes : List (List ℕ)
  pub size : ℕ

-- What is found of bytes: their root, the roots of the largest subtrees that cover all leaves but those from start to end, from
-- left to right, and how many bytes there are.
abbrev pub found_of : ℕ → ℕ → List ℕ → Found
found_of start end bytes = record {
  root = root_of (leaves_of bytes);
  hashes = segment_roots (map leaf_digest (leaves_of bytes)) (cover (others (places_between start end)) (leaf_count (length bytes)));
  size = length bytes;
}

-- a proof, and how many bytes a file has, as what is found of it
abbrev pub seen : RangeProof → ℕ → Found
seen proof size = record { root = proof.root; hashes = proof.hashes; size = size }

-- what is found of a file of at most 2^30 bytes
unfoldable pub proof_found : ℕ → ℕ → List ℕ → Result Found Stop
proof_found start end file = do
  bytes ← within (2 ^ 30) file
  Ok (found_of start end bytes)

-- The proof of the leaves from start to end, without end. A range without leaves, or past the last leaf, is refused.
unfoldable pub range_proof : ℕ → ℕ → Found → Result (List (List ℕ)) Refusal
range_proof start end found = if nat_lt start end && nat_le end (leaf_count found.size) then Ok found.hashes else Err refusal.Range

-- a line for each hash of a proof, in order
unfoldable pub hash_lines : List (List ℕ) → List ℕ
hash_lines [] = []
hash_lines (hash ∷ hashes) = line (codes "hash") (encode_lower hash) ++ hash_lines hashes

-- the line of a file's root and how many leaves it has
unfoldable pub leaves_line : List ℕ → ℕ → List ℕ
leaves_line root leaves = codes "root " ++ (encode_lower root ++ (codes " leaves " ++ (decimal leaves ++ codes "\n")))

-- that line, and then the hashes of a range's proof
unfoldable pub prove_text : List ℕ → ℕ → List (List ℕ) → List ℕ
prove_text root leaves hashes = leaves_line root leaves ++ hash_lines hashes

-- the text that `prove` prints for the leaves from start to end of a file of at most 2^30 bytes. The file is read before the
-- range is judged.
unfoldable pub prove_outcome : ℕ → ℕ → List ℕ → Result (List ℕ) Stop
prove_outcome start end file = do
  found ← proof_found start end file
  hashes ← or_refused (range_proof start end found)
  Ok (prove_text found.root (leaf_count found.size) hashes)
