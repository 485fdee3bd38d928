-- What is known of a request for roots that isn't refused, and of the roots that are told.
use Rattle.std.proofs.Common.{◌≡◌, ◌∙◌, ◌+◌, ◌-◌, ◌<◌, ◌≤◌, ◌==◌, ℕ, Bool, true, false, List, [], ◌∷◌, ◌++◌, length, take, drop, get_or, Result, Ok, Err, Some, refl, sym, ap, arith, length-drop}
use Rattle.std.specs.Prelude.{◌||◌, nat_lt}
use Rattle.std.proofs.lemmas.Bool.{eqb-false, ltb-false}
use Rattle.std.proofs.lemmas.List.{take_more, get_or-drop}
use Rattle.sia_rhp.specs.declared.request_bodies.PaidRoots.{PaidRoots}
use Rattle.sia_host.specs.Answered.{Host}
use Rattle.sia_kept.specs.State.{Kept}
use Rattle.sia_host.specs.Paying.{unrefused}
use Rattle.sia_host.specs.Reading.{is_outside, roots_fault}
use Rattle.sia_host.proofs.Writable.{same_contract}

outside_by : (h : Host) (request : PaidRoots) (c contract : Kept) (out : Bool) → is_outside c request ≡ out → unrefused (roots_fault h request) (Ok c) ≡ Ok contract → is_outside contract request ≡ false
outside_by h request c contract false at is =
    let same : c ≡ contract = same_contract (roots_fault h request c) c contract is in
    ap (λ k. is_outside k request) (sym same) ∙ at
outside_by h request c contract true at is =
    let code : roots_fault h request c ≡ Some 8 = rw at refl in
    let other : unrefused (roots_fault h request) (Ok c) ≡ Err 8 = rw code refl in
    absurd (cc)

inside : (h : Host) (request : PaidRoots) (opened : Result Kept ℕ) (contract : Kept) → unrefused (roots_fault h request) opened ≡ Ok contract → is_outside contract request ≡ false
inside h request (Err code) contract is = (cc)
inside h request (Ok c) contract is = outside_by h request c contract (is_outside c request) refl is

in_range : (all first count : ℕ) (a b : Bool) → nat_lt all (first + count) ≡ a → (count == 0) ≡ b → (a || b || nat_lt 1024 count) ≡ false → (first + count ≤ all) × (0 < count)
in_range all first count true b past none is = (cc)
in_range all first count false true past none is = (cc)
in_range all first count false false past none is = (ltb-false all (first + count) past, omega (arith, eqb-false count 0 none))

-- the range is one of the contract's
pub is_range : (h : Host) (request : PaidRoots) (opened : Result Kept ℕ) (contract : Kept) → unrefused (roots_fault h request) opened ≡ Ok contract → (request.first + request.count ≤ length contract.sectors) × (0 < request.count)
is_range h request opened contract is =
    in_range (length contract.sectors) request.first request.count (nat_lt (length contract.sectors) (request.first + request.count)) (request.count == 0) refl refl (inside h request opened contract is)

-- one root more is told
pub one_more_told : (all told now : List (List ℕ)) (first end i : ℕ) (root : List ℕ) → end ≤ length all → i < end - first → told ≡ take i (drop first all) → root ≡ get_or all (first + i) [] → now ≡ told ++ root ∷ [] → now ≡ take (i + 1) (drop first all)
one_more_told all told now first end i root within below are is grown =
    let short : i < length (drop first all) = omega (arith, length-drop first all) in
    let here : root ≡ get_or (drop first all) i [] = is ∙ sym (get_or-drop first all i []) in
    grown ∙ ap (λ xs. xs ++ root ∷ []) are ∙ ap (λ r. take i (drop first all) ++ r ∷ []) here ∙ sym (take_more (drop first all) i [] short)
