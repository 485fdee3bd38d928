-- A part of a piece, in the file.
use Rattle.std.proofs.Common.{◌≡◌, ℕ, ◌+◌, ◌-◌, ◌≤◌, List, take, drop, sym, ap, ◌∙◌, arith}
use Rattle.std.proofs.lemmas.List.{drop-take, drop-drop, take-take}

pub part_at : (file bytes : List ℕ) (base count at part : ℕ) → take count bytes ≡ take count (drop base file) → base ≤ at → at - base + part ≤ count
    → take part (drop (at - base) (take count bytes)) ≡ take part (drop at file)
part_at file bytes base count at part shows begins within =
    let k = at - base in
    let more : k + (count - k) ≡ count = omega arith in
    let place : base + k ≡ at = omega arith in
    ap (λ l. take part (drop k l)) (shows ∙ ap (λ n. take n (drop base file)) (sym more))
    ∙ ap (take part) (drop-take k (count - k) (drop base file))
    ∙ take-take part (count - k) (drop k (drop base file)) (omega arith)
    ∙ ap (take part) (drop-drop k base file)
    ∙ ap (λ n. take part (drop n file)) place
