-- The first fault of the needs of a transaction, list by list, where a rule tells an index that no integer of 64 bits holds as the
-- greatest.
use Rattle.std.proofs.Common.{◌≡◌, ℕ, suc, ◌+◌, ◌-◌, ◌^◌, ◌<◌, min, List, [], ◌∷◌, ◌++◌, length, map, drop, get_or, add-one, Option, Some, None, Ok, Err, refl, sym, ap, ◌∙◌, arith}
use Rattle.std.proofs.Math.Seq.{drop-cons}
use Rattle.sia_encoding.specs.Answer.{unless}
use Rattle.sia_encoding.specs.Firsts.{broken, ◌or_else◌, first_at}
use Rattle.std.specs.Prelude.{nat_lt, not}
use Rattle.std.specs.Str.{bytes_eq}
use Rattle.sia_ids.specs.Conditions.{unlock_hash}
use Rattle.sia_sign.specs.Needs.{Need}
use Rattle.sia_rules.specs.declared.fault.BlockFault.TheVariants as block_fault
use Rattle.sia_ledger.specs.declared.fact.Fact.{Fact}
use Rattle.sia_ledger.specs.Facts.{last_deed}
use Rattle.sia_ledger.specs.Rules.{address_in, locked, wrong_conditions}
use Rattle.sia_sign.proofs.FirstFault.{first_at_append, first_decides, second_decides}

-- a rule tells indices as one that are one in 64 bits
abbrev pub TellsAsOne : {F : Type 0} → (ℕ → Need → Option F) → Type 0
TellsAsOne f = (n m : ℕ) (need : Need) → min n (2 ^ 64 - 1) ≡ min m (2 ^ 64 - 1) → f n need ≡ f m need

first_told : {F : Type 0} (f : ℕ → Need → Option F) → TellsAsOne f → (n m : ℕ) (needs : List Need) → min n (2 ^ 64 - 1) ≡ min m (2 ^ 64 - 1) → first_at f n needs ≡ first_at f m needs
first_told f one n m [] same = refl
first_told f one n m (need ∷ needs) same =
    let later : min (n + 1) (2 ^ 64 - 1) ≡ min (m + 1) (2 ^ 64 - 1) = omega (arith, same) in
    ap (λ fault. fault or_else first_at f (n + 1) needs) (one n m need same)
    ∙ ap (λ rest. f m need or_else rest) (first_told f one (n + 1) (m + 1) needs later)

-- the entry at an index is the first of those from it on
split : {X F : Type 0} (f : ℕ → Need → Option F) → TellsAsOne f → (need : X → Need) (xs : List X) (n i k : ℕ) (x : X) → i < length xs → x ≡ get_or xs i x → k ≡ min (n + i) (2 ^ 64 - 1) → first_at f (n + i) (map need (drop i xs)) ≡ (f k (need x) or_else first_at f (n + i + 1) (map need (drop (suc i) xs)))
split f one need xs n i k x within is told =
    let same : min (n + i) (2 ^ 64 - 1) ≡ min k (2 ^ 64 - 1) = omega (arith, told) in
    ap (λ ys. first_at f (n + i) (map need ys)) (drop-cons xs i x within)
    ∙ ap (λ y. f (n + i) (need y) or_else first_at f (n + i + 1) (map need (drop (suc i) xs))) (sym is)
    ∙ ap (λ fault. fault or_else first_at f (n + i + 1) (map need (drop (suc i) xs))) (one (n + i) k (need x) same)

-- an entry without a fault is passed over
pub entry_passed : {X F : Type 0} (f : ℕ → Need → Option F) → TellsAsOne f → (need : X → Need) (xs : List X) (n i k : ℕ) (x : X) → i < length xs → x ≡ get_or xs i x → k ≡ min (n + i) (2 ^ 64 - 1) → unless (f k (need x)) ≡ Ok tt → first_at f (n + i) (map need (drop i xs)) ≡ first_at f (n + (i + 1)) (map need (drop (i + 1) xs))
entry_passed f one need xs n i k x within is told none =
    let place : n + i + 1 ≡ n + (i + 1) = omega arith in
    split f one need xs n i k x within is told
    ∙ second_decides (f k (need x)) (first_at f (n + i + 1) (map need (drop (suc i) xs))) none
    ∙ ap (λ m. first_at f m (map need (drop (suc i) xs))) place
    ∙ ap (λ m. first_at f (n + (i + 1)) (map need (drop m xs))) (sym (add-one i))

-- an entry with a fault is the first
pub entry_found : {X F : Type 0} (f : ℕ → Need → Option F) → TellsAsOne f → (need : X → Need) (xs : List X) (n i k : ℕ) (x : X) (fault : F) → i < length xs → x ≡ get_or xs i x → k ≡ min (n + i) (2 ^ 64 - 1) → unless (f k (need x)) ≡ Err fault → first_at f (n + i) (map need (drop i xs)) ≡ Some fault
entry_found f one need xs n i k x fault within is told found =
    split f one need xs n i k x within is told ∙ first_decides (f k (need x)) (first_at f (n + i + 1) (map need (drop (suc i) xs))) fault found

-- the first list's fault is the first
pub fault_in_first : {F : Type 0} (f : ℕ → Need → Option F) (xs ys : List Need) (n : ℕ) (fault : F) → unless (first_at f n xs) ≡ Err fault → unless (first_at f n (xs ++ ys)) ≡ Err fault
fault_in_first f xs ys n fault is =
    ap unless (first_at_append f n xs ys ∙ first_decides (first_at f n xs) (first_at f (n + length xs) ys) fault is)

-- where it has none the second's is
none_in_first : {F : Type 0} (f : ℕ → Need → Option F) (xs ys : List Need) (n : ℕ) → unless (first_at f n xs) ≡ Ok tt → first_at f n (xs ++ ys) ≡ first_at f (n + length xs) ys
none_in_first f xs ys n is = first_at_append f n xs ys ∙ second_decides (first_at f n xs) (first_at f (n + length xs) ys) is

-- the first fault is in the second of three lists
pub fault_in_second : {F : Type 0} (f : ℕ → Need → Option F) (xs ys zs : List Need) (n : ℕ) (fault : F) → n ≡ length xs → unless (first_at f 0 xs) ≡ Ok tt → unless (first_at f n ys) ≡ Err fault → unless (first_at f 0 (xs ++ (ys ++ zs))) ≡ Err fault
fault_in_second f xs ys zs n fault at first second =
    let place : 0 + length xs ≡ n = omega (arith, at) in
    ap unless (none_in_first f xs (ys ++ zs) 0 first ∙ ap (λ m. first_at f m (ys ++ zs)) place)
    ∙ fault_in_first f ys zs n fault second

-- where the first two have none the third's is
pub none_in_two : {F : Type 0} (f : ℕ → Need → Option F) → TellsAsOne f → (xs ys zs : List Need) (n m : ℕ) → n ≡ length xs → m ≡ min (n + length ys) (2 ^ 64 - 1) → unless (first_at f 0 xs) ≡ Ok tt → unless (first_at f n ys) ≡ Ok tt → first_at f 0 (xs ++ (ys ++ zs)) ≡ first_at f m zs
none_in_two f one xs ys zs n m at behind first second =
    let place : 0 + length xs ≡ n = omega (arith, at) in
    let told : min (n + length ys) (2 ^ 64 - 1) ≡ min m (2 ^ 64 - 1) = omega (arith, behind) in
    none_in_first f xs (ys ++ zs) 0 first
    ∙ ap (λ k. first_at f k (ys ++ zs)) place
    ∙ none_in_first f ys zs n second
    ∙ first_told f one (n + length ys) m zs told

-- the rules of conditions and of timelocks do so
pub conditions_as_one : (facts : List Fact) (t : ℕ) → TellsAsOne (wrong_conditions facts t)
conditions_as_one facts t n m need same =
    ap (λ k. broken (not (bytes_eq (unlock_hash need.conditions) (address_in (last_deed facts need.parent)))) (block_fault.Conditions t k)) same

pub timelocks_as_one : (height t : ℕ) → TellsAsOne (locked height t)
timelocks_as_one height t n m need same = ap (λ k. broken (nat_lt height need.conditions.timelock) (block_fault.Locked t k)) same
