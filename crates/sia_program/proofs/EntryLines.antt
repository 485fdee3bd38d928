-- The lines of the entries of a list.
use Rattle.std.proofs.Common.{◌≡◌, ℕ, ◌≤◌, List, ◌++◌, length, drop, sym, ◌∙◌, ap}
use Rattle.std.proofs.lemmas.List.{append-nil, drop_all}
use Rattle.sia_program.specs.Fields.{lines_from}

-- all are written
pub entries_over : {X : Type 0} (lines : ℕ → X → List ℕ) (written whole : List ℕ) (entries : List X) (index : ℕ) → length entries ≤ index → written ++ lines_from lines index (drop index entries) ≡ whole → written ≡ whole
entries_over lines written whole entries index past is =
    sym (append-nil written) ∙ ap (λ rest. written ++ rest) (sym (ap (lines_from lines index) (drop_all index entries past))) ∙ is
