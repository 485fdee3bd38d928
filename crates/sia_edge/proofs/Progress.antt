-- How far reading to a bound and writing a whole piece have come.
use Rattle.std.proofs.Common.{◌≡◌, ◌++◌, ℕ, List, [], length, Option, None, Some, ap, ◌∙◌, append_assoc}
use Rattle.std.specs.Prelude.{IfSome}
use Rattle.std.specs.Io.KnownBytes.{Appends, IsAtEnd, Keeps}

-- A front part of what was left stands in `out` behind what stood there first, and the rest is left.
abbrev pub ReadSoFar : Option (List ℕ) → Option (List ℕ) → List ℕ → List ℕ → ℕ → Type 0
ReadSoFar None now first out total = Unit {0}
ReadSoFar (Some before) None first out total = ⊥
ReadSoFar (Some before) (Some now) first out total =
    (front : List ℕ) × (before ≡ front ++ now) × (out ≡ first ++ front) × (length front ≡ total)

-- a source whose end was read has nothing left
pub nothing_left : (before now new : Option (List ℕ)) (first out : List ℕ) (total : ℕ) → ReadSoFar before now first out total → Keeps now new → IsAtEnd now → IfSome before (λ left. new ≡ Some [])
nothing_left None now new first out total so_far kept end = tt
nothing_left (Some before) None new first out total so_far kept end = absurd so_far
nothing_left (Some before) (Some now) None first out total so_far kept end = absurd kept
nothing_left (Some before) (Some now) (Some after) first out total so_far kept end = ap Some (kept ∙ end)

-- two appends are one
pub appends_both : (old mid new : Option (List ℕ)) (first second : List ℕ) → Appends old mid first → Appends mid new second
    → Appends old new (first ++ second)
appends_both None mid new first second one two = tt
appends_both (Some before) None new first second one two = absurd one
appends_both (Some before) (Some between) None first second one two = absurd two
appends_both (Some before) (Some between) (Some now) first second one two =
    two ∙ ap (λ xs. xs ++ second) one ∙ append_assoc before first second
