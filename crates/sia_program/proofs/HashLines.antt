-- The lines of a proof's hashes, one by one.
use Rattle.std.proofs.Common.{◌≡◌, ℕ, ◌+◌, ◌<◌, ◌≤◌, List, [], ◌∷◌, ◌++◌, length, drop, get_or, refl, sym, ◌∙◌, ap}
use Rattle.std.specs.Prelude.{codes}
use Rattle.std.proofs.lemmas.List.{append-nil, append_assoc, drop_all, drop_more}
use Rattle.hex.specs.Hex.{encode_lower}
use Rattle.sia_program.specs.Commands.Prove.{hash_lines}
use Rattle.sia_program.specs.Lines.{line}

lines_first : (hash : List ℕ) (hashes : List (List ℕ)) → hash_lines (hash ∷ hashes) ≡ line (codes "hash") (encode_lower hash) ++ hash_lines hashes
unfolding hash_lines
lines_first hash hashes = refl

lines_none : hash_lines [] ≡ []
unfolding hash_lines
lines_none = refl

-- a line more is written
pub lines_more : (written first : List ℕ) (hashes : List (List ℕ)) (place : ℕ) → place < length hashes → first ≡ line (codes "hash") (encode_lower (get_or hashes place []))
    → (written ++ first) ++ hash_lines (drop (place + 1) hashes) ≡ written ++ hash_lines (drop place hashes)
lines_more written first hashes place within is =
    append_assoc written first (hash_lines (drop (place + 1) hashes))
    ∙ ap (λ xs. written ++ xs) (ap (λ xs. xs ++ hash_lines (drop (place + 1) hashes)) is ∙ sym (ap hash_lines (drop_more hashes place [] within) ∙ lines_first (get_or hashes place []) (drop (place + 1) hashes)))

-- all are written
pub lines_over : (written whole : List ℕ) (hashes : List (List ℕ)) (place : ℕ) → length hashes ≤ place → written ++ hash_lines (drop place hashes) ≡ whole → written ≡ whole
lines_over written whole hashes place past is =
    sym (append-nil written) ∙ ap (λ xs. written ++ xs) (sym (ap hash_lines (drop_all place hashes past) ∙ lines_none)) ∙ is
