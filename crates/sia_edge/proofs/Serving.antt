-- A source in memory that gives the bytes from a place on.
use Rattle.std.proofs.Common.{◌≡◌, ℕ, ◌+◌, ◌<◌, min, zero, suc, List, length, take, drop, Some, arith, sym, ◌∙◌, ap}
use Rattle.std.proofs.lemmas.Grind.{common_steps}
use Rattle.std.proofs.lemmas.List.{take-append-drop}
use Rattle.std.proofs.lemmas.List.{drop-drop}
use Rattle.sia_edge.specs.Edge.{Reads}
use Rattle.sia_edge.specs.Memory.{given}

pub served : (bytes buffer left : List ℕ) (at room n : ℕ) → left ≡ drop at bytes → n ≡ min room (length left) → 0 < room
    → take n buffer ≡ take n left → Reads (Some left) (Some (drop (at + n) bytes)) (given n) buffer
served bytes buffer left at room zero is count some copied = (grind (arith, common_steps), grind (arith, common_steps))
served bytes buffer left at room (suc n) is count some copied =
    let on : drop (suc n) left ≡ drop (at + suc n) bytes = ap (drop (suc n)) is ∙ drop-drop (suc n) at bytes in
    rw (copied, ← on) (sym (take-append-drop (suc n) left))
