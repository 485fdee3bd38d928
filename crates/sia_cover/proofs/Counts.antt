-- How many places of a set there are below a place, and in a row.
use Rattle.std.proofs.Common.{◌≡◌, ℕ, zero, suc, ◌+◌, ◌-◌, ◌^◌, ◌<◌, ◌≤◌, true, false, refl, ◌∙◌, ap, arith, zero-add}
use Rattle.std.proofs.Math.Path.{fun_ext}
use Rattle.std.specs.Prelude.{Bool, not, count_by, nat_eq, nat_le}
use Rattle.std.specs.List.{range_with_len, list_all}
use Rattle.std.proofs.lemmas.Bool.Decides.{nat_tests}
use Rattle.sia_merkle.specs.Segments.{is_covered, others}
use Rattle.sia_cover.specs.Joined.{count_below}
use Rattle.sia_cover.proofs.Joins.{count_cons, count_rows}

-- a place is in the set or outside
others_by : (chosen : ℕ → Bool) (low width : ℕ) → count_by chosen (range_with_len (low + 1) width) + count_by (others chosen) (range_with_len (low + 1) width) ≡ width
    → (here : Bool) → chosen low ≡ here → count_by chosen (range_with_len low (suc width)) + count_by (others chosen) (range_with_len low (suc width)) ≡ suc width
others_by chosen low width rest true e =
    rw (count_cons chosen low (range_with_len (low + 1) width), count_cons (others chosen) low (range_with_len (low + 1) width), e) (omega (arith, rest))
others_by chosen low width rest false e =
    rw (count_cons chosen low (range_with_len (low + 1) width), count_cons (others chosen) low (range_with_len (low + 1) width), e) (omega (arith, rest))

pub count_others : (chosen : ℕ → Bool) (low width : ℕ) → count_by chosen (range_with_len low width) + count_by (others chosen) (range_with_len low width) ≡ width
count_others chosen low zero = refl
count_others chosen low (suc width) = others_by chosen low width (count_others chosen (low + 1) width) (chosen low) refl

-- a row in terms of two numbers below
pub below_parts : (chosen : ℕ → Bool) (low width : ℕ) → count_below chosen (low + width) ≡ count_below chosen low + count_by chosen (range_with_len low width)
below_parts chosen low width =
    count_rows chosen 0 low width ∙ ap (λ n. count_below chosen low + count_by chosen (range_with_len n width)) (zero-add low)

pub below_fits : (chosen : ℕ → Bool) (place : ℕ) → count_below chosen place ≤ place
below_fits chosen place = omega (arith, count_others chosen 0 place)

pub count_all : (chosen : ℕ → Bool) (low width : ℕ) → ((place : ℕ) → low ≤ place → place < low + width → chosen place ≡ true) → count_by chosen (range_with_len low width) ≡ width
count_all chosen low zero each = refl
count_all chosen low (suc width) each =
    count_cons chosen low (range_with_len (low + 1) width) ∙ rw (each low (omega arith) (omega arith)) (omega (arith, count_all chosen (low + 1) width (λ place from to. each place (omega arith) (omega arith))))

-- where none of a row is in the set, or all are
none_by : (chosen : ℕ → Bool) (low width : ℕ) → nat_eq (count_by chosen (range_with_len (low + 1) width)) 0 ≡ list_all (others chosen) (range_with_len (low + 1) width)
    → (here : Bool) → chosen low ≡ here → nat_eq (count_by chosen (range_with_len low (suc width))) 0 ≡ list_all (others chosen) (range_with_len low (suc width))
none_by chosen low width rest true e = ap (λ n. nat_eq n 0) (count_cons chosen low (range_with_len (low + 1) width)) ∙ rw e (grind (arith, nat_tests))
none_by chosen low width rest false e =
    let same : 0 + count_by chosen (range_with_len (low + 1) width) ≡ count_by chosen (range_with_len (low + 1) width) = zero-add _ in
    ap (λ n. nat_eq n 0) (count_cons chosen low (range_with_len (low + 1) width)) ∙ rw e (ap (λ n. nat_eq n 0) same ∙ rest)

pub none_chosen : (chosen : ℕ → Bool) (low width : ℕ) → nat_eq (count_by chosen (range_with_len low width)) 0 ≡ list_all (others chosen) (range_with_len low width)
none_chosen chosen low zero = refl
none_chosen chosen low (suc width) = none_by chosen low width (none_chosen chosen (low + 1) width) (chosen low) refl

not_not : (b : Bool) → not (not b) ≡ b
not_not true = refl
not_not false = refl

rest_none : (all few more : ℕ) → few + more ≡ all → nat_eq few all ≡ nat_eq more 0
rest_none all few more is = grind (arith, nat_tests)

pub all_chosen : (chosen : ℕ → Bool) (low width : ℕ) → nat_eq (count_by chosen (range_with_len low width)) width ≡ list_all chosen (range_with_len low width)
all_chosen chosen low width =
    let twice : others (others chosen) ≡ chosen = fun_ext (λ place. not_not (chosen place)) in
    rest_none width (count_by chosen (range_with_len low width)) (count_by (others chosen) (range_with_len low width)) (count_others chosen low width)
    ∙ none_chosen (others chosen) low width ∙ ap (λ (test : ℕ → Bool). list_all test (range_with_len low width)) twice

-- the places of a subtree that are in the tree
eq_more : (before more : ℕ) → nat_eq (before + more) before ≡ nat_eq more 0
eq_more before more = grind (arith, nat_tests)

less_before : (before more : ℕ) → before + more - before ≡ more
less_before before more = omega arith

pub full_told : (chosen : ℕ → Bool) (count height low width before now : ℕ) → nat_le (low + 2 ^ height) count ≡ true → width ≡ 2 ^ height → before ≡ count_below chosen low → now ≡ count_below chosen (low + width)
    → nat_eq (now - before) width ≡ is_covered chosen count height low
full_told chosen count height low width before now fits wide first second =
    rw (second, first, below_parts chosen low width, less_before (count_below chosen low) (count_by chosen (range_with_len low width)), all_chosen chosen low width, wide, fits) refl

pub clear_told : (chosen : ℕ → Bool) (count height low width before now : ℕ) → nat_le (low + 2 ^ height) count ≡ true → width ≡ 2 ^ height → before ≡ count_below chosen low → now ≡ count_below chosen (low + width)
    → nat_eq now before ≡ is_covered (others chosen) count height low
clear_told chosen count height low width before now fits wide first second =
    rw (second, first, below_parts chosen low width, eq_more (count_below chosen low) (count_by chosen (range_with_len low width)), none_chosen chosen low width, wide, fits) refl
