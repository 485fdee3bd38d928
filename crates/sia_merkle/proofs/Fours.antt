-- Four digests at a time, and the groups of leaves or hashes whose roots are made so.
use Rattle.std.proofs.Common.{◌≡◌, ℕ, ◌+◌, ◌*◌, ◌^◌, ◌<◌, ◌≤◌, List, [], ◌∷◌, ◌++◌, length, map, take, drop, get_or, refl, sym, ◌∙◌, ap, ap₂, arith, length-append}
use Rattle.std.specs.Prelude.{Bool, true, false, nat_lt}
use Rattle.std.proofs.lemmas.Bool.{ltb-true, ltb-false}
use Rattle.std.proofs.lemmas.List.{take-append-drop, length-take-le, drop-drop, drop_at, take_at, take_all}
use Rattle.sia_blake.proofs.FourLanes.{below_four}
use Rattle.sia_merkle.specs.Levels.{pairs, levels_up}
use Rattle.sia_merkle.specs.Roots.{leaf_at, leaf_count, leaf_digest, leaves_of, node_digest, tree_root, node_root_of}
use Rattle.sia_merkle.proofs.Cuts.{hashes-take, hashes-drop, length-leaf_hashes}
use Rattle.sia_merkle.proofs.Raises.{pairs-append, node_root_of-up, up-append, length-up, up_more, up_all}

-- what holds of each list of four elements
pub of_four : {X : Type 0} (P : List X → Type 0) → ((a b c d : X) → P (a ∷ b ∷ c ∷ d ∷ [])) → (xs : List X) → length xs ≡ 4 → P xs
of_four P p (a ∷ b ∷ c ∷ d ∷ []) h = p a b c d
of_four P p [] h = absurd (omega arith)
of_four P p (a ∷ []) h = absurd (omega arith)
of_four P p (a ∷ b ∷ []) h = absurd (omega arith)
of_four P p (a ∷ b ∷ c ∷ []) h = absurd (omega arith)
of_four P p (a ∷ b ∷ c ∷ d ∷ e ∷ xs) h = absurd (omega arith)

-- four pieces of 64 bytes behind each other
pub pieces_of : (p q r s : List ℕ) → length p ≡ 64 → length q ≡ 64 → length r ≡ 64 → length s ≡ 64
    → (j : ℕ) → j < 4 → take 64 (drop (64 * j) (p ++ (q ++ (r ++ s)))) ≡ get_or (p ∷ q ∷ r ∷ s ∷ []) j []
pieces_of p q r s p64 q64 r64 s64 =
    let one : drop 64 (p ++ (q ++ (r ++ s))) ≡ q ++ (r ++ s) = drop_at p (q ++ (r ++ s)) 64 p64 in
    let two : drop 128 (p ++ (q ++ (r ++ s))) ≡ r ++ s = sym (drop-drop 64 64 (p ++ (q ++ (r ++ s)))) ∙ ap (drop 64) one ∙ drop_at q (r ++ s) 64 q64 in
    let three : drop 192 (p ++ (q ++ (r ++ s))) ≡ s = sym (drop-drop 64 128 (p ++ (q ++ (r ++ s)))) ∙ ap (drop 64) two ∙ drop_at r s 64 r64 in
    below_four (λ j. take 64 (drop (64 * j) (p ++ (q ++ (r ++ s)))) ≡ get_or (p ∷ q ∷ r ∷ s ∷ []) j [])
    (take_at p (q ++ (r ++ s)) 64 p64)
    (ap (take 64) one ∙ take_at q (r ++ s) 64 q64)
    (ap (take 64) two ∙ take_at r s 64 r64)
    (ap (take 64) three ∙ take_all 64 s (omega arith))

-- the texts of the four nodes over eight hashes, behind each other
abbrev pub AreTexts : (left right : List (List ℕ)) (p q r s : List ℕ) → Type 0
AreTexts left right p q r s =
    p ≡ get_or left 0 [] ++ get_or left 1 [] → q ≡ get_or left 2 [] ++ get_or left 3 [] → r ≡ get_or right 0 [] ++ get_or right 1 [] → s ≡ get_or right 2 [] ++ get_or right 3 []
    → (j : ℕ) → j < 4 → take 64 (drop (64 * j) (p ++ (q ++ (r ++ s)))) ≡ get_or (left ++ right) (2 * j) [] ++ get_or (left ++ right) (2 * j + 1) []

pub texts_of : (left right : List (List ℕ)) (p q r s : List ℕ) → length left ≡ 4 → length right ≡ 4
    → length p ≡ 64 → length q ≡ 64 → length r ≡ 64 → length s ≡ 64 → AreTexts left right p q r s
texts_of left right p q r s four_left four_right p64 q64 r64 s64 =
    of_four (λ left. AreTexts left right p q r s) (λ a b c d.
    of_four (λ right. AreTexts (a ∷ b ∷ c ∷ d ∷ []) right p q r s) (λ e f g h. λ first second third fourth.
    below_four (λ j. take 64 (drop (64 * j) (p ++ (q ++ (r ++ s)))) ≡ get_or (a ∷ b ∷ c ∷ d ∷ e ∷ f ∷ g ∷ h ∷ []) (2 * j) [] ++ get_or (a ∷ b ∷ c ∷ d ∷ e ∷ f ∷ g ∷ h ∷ []) (2 * j + 1) [])
    (pieces_of p q r s p64 q64 r64 s64 0 (omega arith) ∙ first)
    (pieces_of p q r s p64 q64 r64 s64 1 (omega arith) ∙ second)
    (pieces_of p q r s p64 q64 r64 s64 2 (omega arith) ∙ third)
    (pieces_of p q r s p64 q64 r64 s64 3 (omega arith) ∙ fourth)) right four_right) left four_left

-- the nodes over eight hashes
abbrev pub AreNodes : List (List ℕ) → List (List ℕ) → Type 0
AreNodes nodes hashes = (j : ℕ) → j < 4 → get_or nodes j [] ≡ node_digest (get_or hashes (2 * j) []) (get_or hashes (2 * j + 1) [])

pub four_pairs : (left right nodes : List (List ℕ)) → length left ≡ 4 → length right ≡ 4 → length nodes ≡ 4 → AreNodes nodes (left ++ right) → nodes ≡ pairs (left ++ right)
unfolding pairs
four_pairs left right nodes four_left four_right four_nodes =
    of_four (λ left. AreNodes nodes (left ++ right) → nodes ≡ pairs (left ++ right)) (λ a b c d.
    of_four (λ right. AreNodes nodes (a ∷ b ∷ c ∷ d ∷ right) → nodes ≡ pairs (a ∷ b ∷ c ∷ d ∷ right)) (λ e f g h.
    of_four (λ nodes. AreNodes nodes (a ∷ b ∷ c ∷ d ∷ e ∷ f ∷ g ∷ h ∷ []) → nodes ≡ pairs (a ∷ b ∷ c ∷ d ∷ e ∷ f ∷ g ∷ h ∷ [])) (λ w x y z are.
    let first : w ≡ node_digest a b = are 0 (omega arith) in
    let second : x ≡ node_digest c d = are 1 (omega arith) in
    let third : y ≡ node_digest e f = are 2 (omega arith) in
    let fourth : z ≡ node_digest g h = are 3 (omega arith) in
    rw (first, second, third, fourth) refl) nodes four_nodes) right four_right) left four_left

-- the leaves of 256 bytes
pub four_digests : (bytes : List ℕ) (hashes : List (List ℕ)) → length bytes ≡ 256 → length hashes ≡ 4
    → ((j : ℕ) → j < 4 → get_or hashes j [] ≡ leaf_digest (take 64 (drop (64 * j) bytes))) → hashes ≡ map leaf_digest (leaves_of bytes)
unfolding leaves_of
four_digests bytes hashes long four =
    of_four (λ hashes. ((j : ℕ) → j < 4 → get_or hashes j [] ≡ leaf_digest (take 64 (drop (64 * j) bytes))) → hashes ≡ map leaf_digest (leaves_of bytes)) (λ w x y z are.
    let first : w ≡ leaf_digest (leaf_at bytes 0) = are 0 (omega arith) in
    let second : x ≡ leaf_digest (leaf_at bytes 1) = are 1 (omega arith) in
    let third : y ≡ leaf_digest (leaf_at bytes 2) = are 2 (omega arith) in
    let fourth : z ≡ leaf_digest (leaf_at bytes 3) = are 3 (omega arith) in
    rw (first, second, third, fourth, long) refl) hashes four

-- two levels above four quarters of whole subtrees
pub quarters : (a b c d : List (List ℕ)) → length a ≡ 4 → length b ≡ 4 → length c ≡ 4 → length d ≡ 4
    → pairs (pairs (a ++ b) ++ pairs (c ++ d)) ≡ levels_up 2 ((a ++ b) ++ (c ++ d))
unfolding levels_up
quarters a b c d a4 b4 c4 d4 = ap pairs (sym (pairs-append 4 (a ++ b) (c ++ d) (length-append a b ∙ (omega arith))))

-- the root over four hashes
pub root_of_four : (hashes : List (List ℕ)) → length hashes ≡ 4
    → node_digest (node_digest (get_or hashes 0 []) (get_or hashes 1 [])) (node_digest (get_or hashes 2 []) (get_or hashes 3 [])) ≡ node_root_of hashes
unfolding node_root_of tree_root
root_of_four = of_four (λ hashes. node_digest (node_digest (get_or hashes 0 []) (get_or hashes 1 [])) (node_digest (get_or hashes 2 []) (get_or hashes 3 [])) ≡ node_root_of hashes) (λ a b c d. refl)

-- levels above the digests of a byte string's two parts
pub leaves_apart : (height count size : ℕ) (bytes : List ℕ) → size ≡ 64 * (count * 2 ^ height) → size < length bytes
    → levels_up height (map leaf_digest (leaves_of (take size bytes))) ++ levels_up height (map leaf_digest (leaves_of (drop size bytes))) ≡ levels_up height (map leaf_digest (leaves_of bytes))
leaves_apart height count size bytes is within =
    let inside : count * 2 ^ height < leaf_count (length bytes) = omega arith in
    let front : map leaf_digest (leaves_of (take size bytes)) ≡ take (count * 2 ^ height) (map leaf_digest (leaves_of bytes)) = ap (λ n. map leaf_digest (leaves_of (take n bytes))) is ∙ hashes-take bytes (count * 2 ^ height) inside in
    let back : map leaf_digest (leaves_of (drop size bytes)) ≡ drop (count * 2 ^ height) (map leaf_digest (leaves_of bytes)) = ap (λ n. map leaf_digest (leaves_of (drop n bytes))) is ∙ hashes-drop bytes (count * 2 ^ height) inside in
    let whole : length (take (count * 2 ^ height) (map leaf_digest (leaves_of bytes))) ≡ count * 2 ^ height = length-take-le (count * 2 ^ height) (map leaf_digest (leaves_of bytes)) (omega (arith, length-leaf_hashes bytes)) in
    ap₂ (λ xs ys. levels_up height xs ++ levels_up height ys) front back
    ∙ sym (up-append height count (take (count * 2 ^ height) (map leaf_digest (leaves_of bytes))) (drop (count * 2 ^ height) (map leaf_digest (leaves_of bytes))) whole)
    ∙ ap (levels_up height) (take-append-drop (count * 2 ^ height) (map leaf_digest (leaves_of bytes)))

-- the levels above two parts, of which the first has whole subtrees
pub halves_of_hashes : (height count size : ℕ) (hashes front back up_front up_back : List (List ℕ))
    → size ≡ count * 2 ^ height → size ≤ length hashes → front ≡ take size hashes → back ≡ drop size hashes
    → up_front ≡ levels_up height front → up_back ≡ levels_up height back → up_front ++ up_back ≡ levels_up height hashes
halves_of_hashes height count size hashes front back up_front up_back is within front_is back_is up_front_is up_back_is =
    ap₂ (λ xs ys. xs ++ ys) (up_front_is ∙ ap (levels_up height) front_is) (up_back_is ∙ ap (levels_up height) back_is)
    ∙ sym (up-append height count (take size hashes) (drop size hashes) (length-take-le size hashes within ∙ is))
    ∙ ap (levels_up height) (take-append-drop size hashes)

pub halves_of_leaves : (height count size : ℕ) (bytes front back : List ℕ) (up_front up_back : List (List ℕ))
    → size ≡ 64 * (count * 2 ^ height) → size < length bytes → front ≡ take size bytes → back ≡ drop size bytes
    → up_front ≡ levels_up height (map leaf_digest (leaves_of front)) → up_back ≡ levels_up height (map leaf_digest (leaves_of back))
    → up_front ++ up_back ≡ levels_up height (map leaf_digest (leaves_of bytes))
halves_of_leaves height count size bytes front back up_front up_back is within front_is back_is up_front_is up_back_is =
    ap₂ (λ xs ys. xs ++ ys) (up_front_is ∙ ap (λ part. levels_up height (map leaf_digest (leaves_of part))) front_is) (up_back_is ∙ ap (λ part. levels_up height (map leaf_digest (leaves_of part))) back_is)
    ∙ leaves_apart height count size bytes is within

-- the root two levels up, and two more
pub root_from_up : (height : ℕ) (hashes above top : List (List ℕ)) → above ≡ levels_up height hashes → top ≡ levels_up 2 above → node_root_of top ≡ node_root_of hashes
root_from_up height hashes above top above_is top_is =
    ap node_root_of top_is ∙ node_root_of-up 2 above ∙ ap node_root_of above_is ∙ node_root_of-up height hashes

pub groups_before : (hashes : List (List ℕ)) (place : ℕ) → place * 64 ≤ length hashes → length (levels_up 6 (take (place * 64) hashes)) ≡ place
groups_before hashes place within = length-up 6 place (take (place * 64) hashes) (length-take-le (place * 64) hashes within)

pub hashes_pushed : (hashes : List (List ℕ)) (place : ℕ) → 64 * place < length hashes
    → levels_up 6 (take ((place + 1) * 64) hashes) ≡ levels_up 6 (take (place * 64) hashes) ++ node_root_of (take 64 (drop (64 * place) hashes)) ∷ []
hashes_pushed hashes place within =
    let at : place * 64 ≡ 64 * place = omega arith in
    let inside : place * 64 < length hashes = omega arith in
    up_more 6 place hashes inside ∙ ap (λ n. levels_up 6 (take (place * 64) hashes) ++ node_root_of (take 64 (drop n hashes)) ∷ []) at

front_by : (bytes : List ℕ) (count : ℕ) (within : Bool) → nat_lt count (leaf_count (length bytes)) ≡ within → map leaf_digest (leaves_of (take (64 * count) bytes)) ≡ take count (map leaf_digest (leaves_of bytes))
front_by bytes count true e = hashes-take bytes count (ltb-true count (leaf_count (length bytes)) e)
front_by bytes count false e =
    let all : leaf_count (length bytes) ≤ count = ltb-false count (leaf_count (length bytes)) e in
    ap (λ part. map leaf_digest (leaves_of part)) (take_all (64 * count) bytes (omega arith)) ∙ sym (take_all count (map leaf_digest (leaves_of bytes)) (omega (arith, length-leaf_hashes bytes)))

-- the digests of the leaves in a group of 64
pub group_hashes : (bytes : List ℕ) (place : ℕ) → 4096 * place < length bytes
    → map leaf_digest (leaves_of (take 4096 (drop (4096 * place) bytes))) ≡ take 64 (drop (place * 64) (map leaf_digest (leaves_of bytes)))
group_hashes bytes place within =
    let at : 4096 * place ≡ 64 * (place * 64) = omega arith in
    let inside : place * 64 < leaf_count (length bytes) = omega arith in
    front_by (drop (4096 * place) bytes) 64 (nat_lt 64 (leaf_count (length (drop (4096 * place) bytes)))) refl
    ∙ ap (take 64) (ap (λ n. map leaf_digest (leaves_of (drop n bytes))) at ∙ hashes-drop bytes (place * 64) inside)

-- one more group, and all of them
pub group_pushed : (bytes : List ℕ) (place : ℕ) → 4096 * place < length bytes
    → levels_up 6 (take ((place + 1) * 64) (map leaf_digest (leaves_of bytes)))
    ≡ levels_up 6 (take (place * 64) (map leaf_digest (leaves_of bytes))) ++ node_root_of (map leaf_digest (leaves_of (take 4096 (drop (4096 * place) bytes)))) ∷ []
group_pushed bytes place within =
    let inside : place * 64 < length (map leaf_digest (leaves_of bytes)) = omega (arith, length-leaf_hashes bytes) in
    up_more 6 place (map leaf_digest (leaves_of bytes)) inside
    ∙ ap (λ part. levels_up 6 (take (place * 64) (map leaf_digest (leaves_of bytes))) ++ node_root_of part ∷ []) (sym (group_hashes bytes place within))

pub all_groups : (bytes : List ℕ) (count : ℕ) → length bytes ≤ 4096 * count → node_root_of (levels_up 6 (take (count * 64) (map leaf_digest (leaves_of bytes)))) ≡ node_root_of (map leaf_digest (leaves_of bytes))
all_groups bytes count fits = up_all 6 count (map leaf_digest (leaves_of bytes)) (omega (arith, length-leaf_hashes bytes))
