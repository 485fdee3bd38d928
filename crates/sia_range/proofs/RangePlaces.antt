-- The places of a range.
use Rattle.std.proofs.Common.{◌≡◌, ℕ, zero, suc, ◌+◌, ◌-◌, ◌<◌, ◌≤◌, true, false, List, [], ◌∷◌, ◌++◌, length, map, take, drop, get_or, refl, sym, ◌∙◌, ap, arith, min, append-nil}
use Rattle.std.specs.Prelude.{Bool, nat_le, nat_lt, count_by}
use Rattle.std.specs.List.{range_with_len, filter}
use Rattle.std.proofs.Math.Bool.{and-false}
use Rattle.std.proofs.lemmas.Bool.{le-leb, lt-leb, le-ltb, lt-ltb, leb-true, leb-false, ltb-true, ltb-false}
use Rattle.sia_merkle.specs.Computations.{hash_of}
use Rattle.sia_merkle.specs.Computations.Tree.{Given}
use Rattle.sia_merkle.specs.Roots.{node_root_of}
use Rattle.sia_merkle.specs.Segments.{places_between, joined_within}
use Rattle.sia_cover.proofs.Joins.{count_cons, range_parts}
use Rattle.sia_cover.proofs.OwnJoins.{filter_append}
use Rattle.sia_cover.proofs.OwnWholes.{neighbours, own_hashes, own_roots, own_whole}

between_by : (a b low width : ℕ) → count_by (places_between a b) (range_with_len (low + 1) width) ≡ (min (low + 1 + width) b - (low + 1)) - (a - (low + 1))
    → (from before : Bool) → nat_le a low ≡ from → nat_lt low b ≡ before
    → count_by (places_between a b) (range_with_len low (suc width)) ≡ (min (low + suc width) b - low) - (a - low)
between_by a b low width rest true true e f = let from : a ≤ low = leb-true _ _ e in let to : low < b = ltb-true _ _ f in count_cons (places_between a b) low (range_with_len (low + 1) width) ∙ rw (e, f) (omega arith)
between_by a b low width rest true false e f = let from : a ≤ low = leb-true _ _ e in let to : b ≤ low = ltb-false _ _ f in count_cons (places_between a b) low (range_with_len (low + 1) width) ∙ rw (e, f) (omega arith)
between_by a b low width rest false before e f = let from : low < a = leb-false _ _ e in count_cons (places_between a b) low (range_with_len (low + 1) width) ∙ rw e (omega arith)

-- the places of a range among a row
pub count_between : (a b low width : ℕ) → count_by (places_between a b) (range_with_len low width) ≡ (min (low + width) b - low) - (a - low)
count_between a b low zero = omega arith
count_between a b low (suc width) = between_by a b low width (count_between a b (low + 1) width) (nat_le a low) (nat_lt low b) refl refl

-- the places of a range among all
filter_none : (chosen : ℕ → Bool) (from count : ℕ) → ((place : ℕ) → from ≤ place → place < from + count → chosen place ≡ false) → filter chosen (range_with_len from count) ≡ []
filter_none chosen from zero each = refl
filter_none chosen from (suc count) each = rw (each from (omega arith) (omega arith)) (filter_none chosen (from + 1) count (λ place first last. each place (omega arith) (omega arith)))

filter_all : (chosen : ℕ → Bool) (from count : ℕ) → ((place : ℕ) → from ≤ place → place < from + count → chosen place ≡ true) → filter chosen (range_with_len from count) ≡ range_with_len from count
filter_all chosen from zero each = refl
filter_all chosen from (suc count) each =
    rw (each from (omega arith) (omega arith)) (ap (λ places. from ∷ places) (filter_all chosen (from + 1) count (λ place first last. each place (omega arith) (omega arith))))

range_places : (a b count : ℕ) → a ≤ b → b ≤ count → filter (places_between a b) (range_with_len 0 count) ≡ range_with_len a (b - a)
range_places a b count some within =
    let chosen = places_between a b in
    let split : count ≡ a + ((b - a) + (count - b)) = omega arith in
    let last : a + (b - a) ≡ b = omega arith in
    ap (λ n. filter chosen (range_with_len 0 n)) split ∙ ap (filter chosen) (range_parts 0 a ((b - a) + (count - b))) ∙ filter_append chosen (range_with_len 0 a) (range_with_len (0 + a) ((b - a) + (count - b)))
    ∙ ap (λ places. places ++ filter chosen (range_with_len (0 + a) ((b - a) + (count - b)))) (filter_none chosen 0 a (λ place from to. rw (lt-leb a place (omega arith)) refl))
    ∙ ap (λ n. filter chosen (range_with_len n ((b - a) + (count - b)))) (let same : 0 + a ≡ a = omega arith in same)
    ∙ ap (filter chosen) (range_parts a (b - a) (count - b)) ∙ filter_append chosen (range_with_len a (b - a)) (range_with_len (a + (b - a)) (count - b))
    ∙ ap (λ places. filter chosen (range_with_len a (b - a)) ++ places) (filter_none chosen (a + (b - a)) (count - b) (λ place from to. rw (le-ltb place b (omega arith)) (and-false _)))
    ∙ append-nil (filter chosen (range_with_len a (b - a)))
    ∙ filter_all chosen a (b - a) (λ place from to. rw (le-leb a place (omega arith), lt-ltb place b (omega arith)) refl)

pub own_range : (a b : ℕ) (hashes : List (List ℕ)) → a ≤ b → b ≤ length hashes → own_hashes (places_between a b) hashes ≡ take (b - a) (drop a hashes)
own_range a b hashes some within =
    ap (map (λ place. get_or hashes place [])) (range_places a b (length hashes) some within) ∙ neighbours hashes a (b - a) (omega arith)

-- the same of a range
pub own_range_joins : (a b : ℕ) (hashes : List (List ℕ)) → a ≤ b → b ≤ length hashes
    → hash_of (joined_within (places_between a b) (length hashes) (length hashes) 0 (map Given (take (b - a) (drop a hashes))) (own_roots (places_between a b) hashes)) ≡ node_root_of hashes
own_range_joins a b hashes some within =
    ap (λ own. hash_of (joined_within (places_between a b) (length hashes) (length hashes) 0 (map Given own) (own_roots (places_between a b) hashes))) (sym (own_range a b hashes some within))
    ∙ own_whole (places_between a b) hashes

-- how many places a range has
pub places_count : (a b count : ℕ) → b ≤ count → count_by (places_between a b) (range_with_len 0 count) ≡ b - a
places_count a b count within = count_between a b 0 count ∙ (omega arith)
