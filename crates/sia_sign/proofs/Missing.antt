-- The first need that isn't met, list by list.
use Rattle.std.proofs.Common.{◌≡◌, ℕ, ◌+◌, ◌-◌, ◌^◌, min, List, [], ◌∷◌, ◌++◌, length, map, drop, get_or, suc, ◌<◌, true, false, add-one, Option, Some, None, Ok, Err, refl, sym, ap, ◌∙◌, nat_lt, arith}
use Rattle.sia_encoding.specs.Answer.{unless}
use Rattle.sia_encoding.specs.Firsts.{broken, ◌or_else◌, first_at}
use Rattle.sia_types.specs.declared.signature.Signature.{Signature}
use Rattle.sia_types.specs.declared.sig_fault.SigFault.{SigFault}
use Rattle.sia_types.specs.declared.sig_fault.SigFault.TheVariants as sig_fault
use Rattle.sia_sign.specs.Needs.{Need, count_for}
use Rattle.sia_sign.specs.Faults.{lacks, missing_fault}
use Rattle.std.proofs.Math.Seq.{drop-cons}
use Rattle.sia_sign.proofs.FirstFault.{first_at_append, first_decides, second_decides}

-- indices that are told as one
told_as_one : (signatures : List Signature) (n m : ℕ) (need : Need) → min n (2 ^ 64 - 1) ≡ min m (2 ^ 64 - 1) → missing_fault signatures n need ≡ missing_fault signatures m need
unfolding missing_fault
told_as_one signatures n m need same = ap (λ i. broken (lacks signatures need) (sig_fault.MissingSig i)) same

pub first_told : (signatures : List Signature) (n m : ℕ) (needs : List Need) → min n (2 ^ 64 - 1) ≡ min m (2 ^ 64 - 1) → first_at (missing_fault signatures) n needs ≡ first_at (missing_fault signatures) m needs
first_told signatures n m [] same = refl
first_told signatures n m (need ∷ needs) same =
    let later : min (n + 1) (2 ^ 64 - 1) ≡ min (m + 1) (2 ^ 64 - 1) = omega (arith, same) in
    ap (λ fault. fault or_else first_at (missing_fault signatures) (n + 1) needs) (told_as_one signatures n m need same)
    ∙ ap (λ rest. missing_fault signatures m need or_else rest) (first_told signatures (n + 1) (m + 1) needs later)

-- the first list's fault is the first
pub missing_first : (signatures : List Signature) (xs ys : List Need) (n : ℕ) (fault : SigFault) → unless (first_at (missing_fault signatures) n xs) ≡ Err fault → unless (first_at (missing_fault signatures) n (xs ++ ys)) ≡ Err fault
missing_first signatures xs ys n fault is =
    ap unless (first_at_append (missing_fault signatures) n xs ys ∙ first_decides (first_at (missing_fault signatures) n xs) (first_at (missing_fault signatures) (n + length xs) ys) fault is)

-- where it has none the second's is
pub missing_second : (signatures : List Signature) (xs ys : List Need) (n : ℕ) → unless (first_at (missing_fault signatures) n xs) ≡ Ok tt → first_at (missing_fault signatures) n (xs ++ ys) ≡ first_at (missing_fault signatures) (n + length xs) ys
missing_second signatures xs ys n is =
    first_at_append (missing_fault signatures) n xs ys ∙ second_decides (first_at (missing_fault signatures) n xs) (first_at (missing_fault signatures) (n + length xs) ys) is

-- a need that lacks signatures is the first of those from it on
pub missing_here : {X : Type 0} (need : X → Need) (signatures : List Signature) (xs : List X) (n i : ℕ) (x : X) → i < length xs → x ≡ get_or xs i x → lacks signatures (need x) ≡ true → first_at (missing_fault signatures) (n + i) (map need (drop i xs)) ≡ Some (sig_fault.MissingSig (min (n + i) (2 ^ 64 - 1)))
unfolding missing_fault
missing_here need signatures xs n i x within is lacking =
    ap (λ ys. first_at (missing_fault signatures) (n + i) (map need ys)) (drop-cons xs i x within)
    ∙ ap (λ y. missing_fault signatures (n + i) (need y) or_else first_at (missing_fault signatures) (n + i + 1) (map need (drop (suc i) xs))) (sym is)
    ∙ ap (λ test. broken test (sig_fault.MissingSig (min (n + i) (2 ^ 64 - 1))) or_else first_at (missing_fault signatures) (n + i + 1) (map need (drop (suc i) xs))) lacking

-- one that doesn't is passed over
pub missing_passed : {X : Type 0} (need : X → Need) (signatures : List Signature) (xs : List X) (n i : ℕ) (x : X) → i < length xs → x ≡ get_or xs i x → lacks signatures (need x) ≡ false → first_at (missing_fault signatures) (n + i) (map need (drop i xs)) ≡ first_at (missing_fault signatures) (n + (i + 1)) (map need (drop (i + 1) xs))
unfolding missing_fault
missing_passed need signatures xs n i x within is lacking =
    let place : n + i + 1 ≡ n + (i + 1) = omega arith in
    ap (λ ys. first_at (missing_fault signatures) (n + i) (map need ys)) (drop-cons xs i x within)
    ∙ ap (λ y. missing_fault signatures (n + i) (need y) or_else first_at (missing_fault signatures) (n + i + 1) (map need (drop (suc i) xs))) (sym is)
    ∙ ap (λ test. broken test (sig_fault.MissingSig (min (n + i) (2 ^ 64 - 1))) or_else first_at (missing_fault signatures) (n + i + 1) (map need (drop (suc i) xs))) lacking
    ∙ ap (λ m. first_at (missing_fault signatures) m (map need (drop (suc i) xs))) place
    ∙ ap (λ m. first_at (missing_fault signatures) (n + (i + 1)) (map need (drop m xs))) (sym (add-one i))

-- the first fault is in the second of three lists
pub missing_in_second : (signatures : List Signature) (xs ys zs : List Need) (n : ℕ) (fault : SigFault) → n ≡ length xs → unless (first_at (missing_fault signatures) 0 xs) ≡ Ok tt → unless (first_at (missing_fault signatures) n ys) ≡ Err fault → unless (first_at (missing_fault signatures) 0 (xs ++ (ys ++ zs))) ≡ Err fault
missing_in_second signatures xs ys zs n fault at first second =
    let place : 0 + length xs ≡ n = omega (arith, at) in
    ap unless (missing_second signatures xs (ys ++ zs) 0 first ∙ ap (λ m. first_at (missing_fault signatures) m (ys ++ zs)) place)
    ∙ missing_first signatures ys zs n fault second

-- where the first two have none the third's is
pub missing_in_third : (signatures : List Signature) (xs ys zs : List Need) (n m : ℕ) → n ≡ length xs → m ≡ min (n + length ys) (2 ^ 64 - 1) → unless (first_at (missing_fault signatures) 0 xs) ≡ Ok tt → unless (first_at (missing_fault signatures) n ys) ≡ Ok tt → first_at (missing_fault signatures) 0 (xs ++ (ys ++ zs)) ≡ first_at (missing_fault signatures) m zs
missing_in_third signatures xs ys zs n m at behind first second =
    let place : 0 + length xs ≡ n = omega (arith, at) in
    let told : min (n + length ys) (2 ^ 64 - 1) ≡ min m (2 ^ 64 - 1) = omega (arith, behind) in
    missing_second signatures xs (ys ++ zs) 0 first
    ∙ ap (λ k. first_at (missing_fault signatures) k (ys ++ zs)) place
    ∙ missing_second signatures ys zs n second
    ∙ first_told signatures (n + length ys) m zs told
