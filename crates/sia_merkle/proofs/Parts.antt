-- A tree over the roots of whole parts, of 2 ^ level hashes each, and the tree over all their hashes.
use Rattle.std.proofs.Common.{◌≡◌, ℕ, zero, suc, ◌+◌, ◌-◌, ◌*◌, ◌^◌, ◌<◌, ◌≤◌, true, false, List, [], ◌∷◌, ◌++◌, length, map, take, drop, get_or, refl, sym, ◌∙◌, ap, arith, length-append, length-drop, append_assoc, append-nil, suc-add}
use native.Mathlib.Nat.{pow-suc}
use Rattle.std.specs.Prelude.{Bool, nat_le, nat_lt}
use Rattle.std.specs.List.{All, concat, flat_map, range_with_len}
use Rattle.std.proofs.lemmas.Bool.{leb-true, leb-false, ltb-true, ltb-false}
use Rattle.std.proofs.lemmas.Grind.{flat_map-append}
use Rattle.std.proofs.lemmas.List.{length-map, length-take-le, map-append, take-append-drop, take_at, drop_at, take_all, take-map, drop-map, get_or-take, get_or-drop}
use Rattle.std.proofs.lemmas.List.Elements.{All-take, All-drop}
use Rattle.std.proofs.Math.Nat.{mul-le-mul_right}
use Rattle.std.proofs.lemmas.Nat.{pow-add}
use Rattle.std.proofs.lemmas.Simd.{map-map}
use Rattle.sia_merkle.specs.Levels.{levels_up, pairs}
use Rattle.sia_merkle.specs.Paths.{sides, path_of, hashes_beside, leaf_proof}
use Rattle.sia_merkle.specs.Paths.Side.{Left, Right}
use Rattle.sia_merkle.specs.Roots.{leaf_at, leaf_count, leaf_digest, leaves_of, node_root_of, root_of, tree_root}
use Rattle.sia_merkle.proofs.Beside.{beside-low, beside-left, beside-right, leaf_proof-at}
use Rattle.sia_merkle.proofs.Climbs.{sides-low, sides-left, sides-right, path_of-at}
use Rattle.sia_merkle.proofs.Cuts.{leaves-take, leaves-drop, length-leaf_hashes}
use Rattle.sia_merkle.proofs.Raises.{up-append, one_up, node_root_of-up}
use Rattle.sia_merkle.proofs.Trees.{lt_pow, node_root_of-at}

-- one leaf alone
pub one_leaf : (bytes : List ℕ) → 0 < length bytes → length bytes ≤ 64 → root_of (leaves_of bytes) ≡ leaf_digest bytes
unfolding leaves_of tree_root
one_leaf bytes some short =
    let one : leaf_count (length bytes) ≡ 1 = omega arith in
    let whole : take 64 bytes ≡ bytes = take_all 64 bytes short in
    let is : leaves_of bytes ≡ bytes ∷ [] = ap (λ n. map (leaf_at bytes) (range_with_len 0 n)) one ∙ ap (λ leaf. leaf ∷ []) whole in
    ap (λ leaves. node_root_of (map leaf_digest leaves)) is ∙ node_root_of-at 0 (leaf_digest bytes ∷ []) (omega arith)

-- parts of 2 ^ level hashes each
abbrev pub AreWhole : ℕ → List (List (List ℕ)) → Type 0
AreWhole level parts = All (λ part. length part ≡ 2 ^ level) parts

abbrev pub joined : List (List (List ℕ)) → List (List ℕ)
joined parts = flat_map (λ part. part) parts

first_whole : (level : ℕ) (part : List (List ℕ)) (parts : List (List (List ℕ))) → AreWhole level (part ∷ parts) → length part ≡ 2 ^ level
first_whole level part parts whole = whole 0 [] (omega arith)

rest_whole : (level : ℕ) (part : List (List ℕ)) (parts : List (List (List ℕ))) → AreWhole level (part ∷ parts) → AreWhole level parts
rest_whole level part parts whole = λ k d within. whole (suc k) d (omega arith)

pub joined-length : (level : ℕ) (parts : List (List (List ℕ))) → AreWhole level parts → length (joined parts) ≡ length parts * 2 ^ level
joined-length level [] whole = let none : 0 ≡ 0 * 2 ^ level = omega arith in none
joined-length level (part ∷ parts) whole =
    let more : (length parts + 1) * 2 ^ level ≡ length parts * 2 ^ level + 2 ^ level = omega arith in
    length-append part (joined parts) ∙ (omega (arith, first_whole level part parts whole, joined-length level parts (rest_whole level part parts whole)))

none_up : (height : ℕ) → levels_up height [] ≡ []
unfolding levels_up pairs
none_up zero = refl
none_up (suc height) = none_up height

up_parts : (level : ℕ) (parts : List (List (List ℕ))) → AreWhole level parts → levels_up level (joined parts) ≡ map node_root_of parts
up_parts level [] whole = none_up level
up_parts level (part ∷ parts) whole =
    let full : length part ≡ 2 ^ level = first_whole level part parts whole in
    let one : length part ≡ 1 * 2 ^ level = omega arith in
    let some : 0 < length part = omega (arith, lt_pow level) in
    let fits : length part ≤ 2 ^ level = omega arith in
    up-append level 1 part (joined parts) one ∙ ap (λ front. front ++ levels_up level (joined parts)) (one_up level part some fits)
    ∙ ap (λ roots. node_root_of part ∷ roots) (up_parts level parts (rest_whole level part parts whole))

-- the root over the parts' roots is the root over all
pub root_of_parts : (level : ℕ) (parts : List (List (List ℕ))) → AreWhole level parts → node_root_of (map node_root_of parts) ≡ node_root_of (joined parts)
root_of_parts level parts whole = ap node_root_of (sym (up_parts level parts whole)) ∙ node_root_of-up level (joined parts)

top_of_parts : (level height : ℕ) (parts : List (List (List ℕ))) → AreWhole level parts → length parts ≤ 2 ^ height → tree_root (height + level) (joined parts) ≡ tree_root height (map node_root_of parts)
top_of_parts level height parts whole fits =
    let product : length parts * 2 ^ level ≤ 2 ^ height * 2 ^ level = mul-le-mul_right (2 ^ level) fits in
    let all : length (joined parts) ≤ 2 ^ (height + level) = omega (arith, joined-length level parts whole, pow-add 2 height level) in
    let few : length (map node_root_of parts) ≤ 2 ^ height = omega (arith, length-map parts node_root_of) in
    sym (node_root_of-at (height + level) (joined parts) all) ∙ sym (root_of_parts level parts whole) ∙ node_root_of-at height (map node_root_of parts) few

-- the first parts, and those behind them
joined_cut : (count : ℕ) (parts : List (List (List ℕ))) → joined parts ≡ joined (take count parts) ++ joined (drop count parts)
joined_cut count parts = ap joined (sym (take-append-drop count parts)) ∙ flat_map-append (λ part. part) (take count parts) (drop count parts)

first_length : (level count : ℕ) (parts : List (List (List ℕ))) → AreWhole level parts → count ≤ length parts → length (joined (take count parts)) ≡ count * 2 ^ level
first_length level count parts whole within =
    joined-length level (take count parts) (All-take (λ part. length part ≡ 2 ^ level) count parts whole) ∙ ap (λ n. n * 2 ^ level) (length-take-le count parts within)

joined-take : (level count : ℕ) (parts : List (List (List ℕ))) → AreWhole level parts → count ≤ length parts → take (count * 2 ^ level) (joined parts) ≡ joined (take count parts)
joined-take level count parts whole within =
    ap (take (count * 2 ^ level)) (joined_cut count parts) ∙ take_at (joined (take count parts)) (joined (drop count parts)) (count * 2 ^ level) (first_length level count parts whole within)

joined-drop : (level count : ℕ) (parts : List (List (List ℕ))) → AreWhole level parts → count ≤ length parts → drop (count * 2 ^ level) (joined parts) ≡ joined (drop count parts)
joined-drop level count parts whole within =
    ap (drop (count * 2 ^ level)) (joined_cut count parts) ∙ drop_at (joined (take count parts)) (joined (drop count parts)) (count * 2 ^ level) (first_length level count parts whole within)

-- how a place of a part stands to a split between parts
wide : (level height : ℕ) → 2 ^ (height + level) ≡ 2 ^ height * 2 ^ level
wide level height = pow-add 2 height level

before_split : (level height index place : ℕ) → index < 2 ^ height → place < 2 ^ level → index * 2 ^ level + place < 2 ^ (height + level)
before_split level height index place at within =
    let product : (index + 1) * 2 ^ level ≤ 2 ^ height * 2 ^ level = mul-le-mul_right (2 ^ level) (let next : index + 1 ≤ 2 ^ height = omega arith in next) in
    let more : (index + 1) * 2 ^ level ≡ index * 2 ^ level + 2 ^ level = omega arith in
    omega (arith, wide level height)

behind_split : (level height index place : ℕ) → 2 ^ height ≤ index → 2 ^ (height + level) ≤ index * 2 ^ level + place
behind_split level height index place at =
    let product : 2 ^ height * 2 ^ level ≤ index * 2 ^ level = mul-le-mul_right (2 ^ level) at in
    omega (arith, wide level height)

less_split : (level height index place : ℕ) → 2 ^ height ≤ index → index * 2 ^ level + place - 2 ^ (height + level) ≡ (index - 2 ^ height) * 2 ^ level + place
less_split level height index place at =
    let split : index ≡ (index - 2 ^ height) + 2 ^ height = omega arith in
    let product : index * 2 ^ level ≡ ((index - 2 ^ height) + 2 ^ height) * 2 ^ level = ap (λ n. n * 2 ^ level) split in
    let apart : ((index - 2 ^ height) + 2 ^ height) * 2 ^ level ≡ (index - 2 ^ height) * 2 ^ level + 2 ^ height * 2 ^ level = omega arith in
    omega (arith, wide level height)

many_split : (level height count : ℕ) → 2 ^ height < count → 2 ^ (height + level) < count * 2 ^ level
many_split level height count above =
    let product : (2 ^ height + 1) * 2 ^ level ≤ count * 2 ^ level = mul-le-mul_right (2 ^ level) (let next : 2 ^ height + 1 ≤ count = omega arith in next) in
    let more : (2 ^ height + 1) * 2 ^ level ≡ 2 ^ height * 2 ^ level + 2 ^ level = omega arith in
    omega (arith, wide level height, lt_pow level)

few_split : (level height count : ℕ) → count ≤ 2 ^ height → count * 2 ^ level ≤ 2 ^ (height + level)
few_split level height count fits =
    let product : count * 2 ^ level ≤ 2 ^ height * 2 ^ level = mul-le-mul_right (2 ^ level) fits in
    omega (arith, wide level height)

rest_split : (level height count : ℕ) → 2 ^ height ≤ count → count * 2 ^ level - 2 ^ (height + level) ≡ (count - 2 ^ height) * 2 ^ level
rest_split level height count above =
    let split : count ≡ (count - 2 ^ height) + 2 ^ height = omega arith in
    let product : count * 2 ^ level ≡ ((count - 2 ^ height) + 2 ^ height) * 2 ^ level = ap (λ n. n * 2 ^ level) split in
    let apart : ((count - 2 ^ height) + 2 ^ height) * 2 ^ level ≡ (count - 2 ^ height) * 2 ^ level + 2 ^ height * 2 ^ level = omega arith in
    omega (arith, wide level height)

-- a path through a part
sides_one : (level index count place : ℕ) → index < count → count ≤ 1 → sides (0 + level) (count * 2 ^ level) (index * 2 ^ level + place) ≡ sides level (2 ^ level) place ++ sides 0 count index
unfolding sides
sides_one level index count place within fits =
    let lone : count ≡ 1 = omega arith in
    let first : index ≡ 0 = omega arith in
    let height : 0 + level ≡ level = omega arith in
    let one : 1 * 2 ^ level ≡ 2 ^ level = omega arith in
    let at : 0 * 2 ^ level + place ≡ place = omega arith in
    rw (lone, first, height, one, at) (sym (append-nil (sides level (2 ^ level) place)))

sides_by : (level height count index place : ℕ) → index < count → place < 2 ^ level
    → ((n at : ℕ) → at < n → n ≤ 2 ^ height → sides (height + level) (n * 2 ^ level) (at * 2 ^ level + place) ≡ sides level (2 ^ level) place ++ sides height n at)
    → count ≤ 2 ^ suc height → (low left : Bool) → nat_le count (2 ^ height) ≡ low → nat_lt index (2 ^ height) ≡ left
    → sides (suc (height + level)) (count * 2 ^ level) (index * 2 ^ level + place) ≡ sides level (2 ^ level) place ++ sides (suc height) count index
sides_by level height count index place at within below fits true left e f =
    let few : count ≤ 2 ^ height = leb-true _ _ e in
    sides-low (height + level) (count * 2 ^ level) (index * 2 ^ level + place) (few_split level height count few) ∙ below count index at few
    ∙ ap (λ path. sides level (2 ^ level) place ++ path) (sym (sides-low height count index few))
sides_by level height count index place at within below fits false true e f =
    let many : 2 ^ height < count = leb-false _ _ e in
    let before : index < 2 ^ height = ltb-true _ _ f in
    sides-left (height + level) (count * 2 ^ level) (index * 2 ^ level + place) (many_split level height count many) (before_split level height index place before within)
    ∙ ap (λ n. sides (height + level) n (index * 2 ^ level + place) ++ Right ∷ []) (wide level height)
    ∙ ap (λ path. path ++ Right ∷ []) (below (2 ^ height) index before (omega arith))
    ∙ append_assoc (sides level (2 ^ level) place) (sides height (2 ^ height) index) (Right ∷ [])
    ∙ ap (λ path. sides level (2 ^ level) place ++ path) (sym (sides-left height count index many before))
sides_by level height count index place at within below fits false false e f =
    let many : 2 ^ height < count = leb-false _ _ e in
    let behind : 2 ^ height ≤ index = ltb-false _ _ f in
    let rest : count - 2 ^ height ≤ 2 ^ height = omega (arith, pow-suc 2 height) in
    sides-right (height + level) (count * 2 ^ level) (index * 2 ^ level + place) (many_split level height count many) (behind_split level height index place behind)
    ∙ ap (λ n. sides (height + level) n (index * 2 ^ level + place - 2 ^ (height + level)) ++ Left ∷ []) (rest_split level height count (omega arith))
    ∙ ap (λ n. sides (height + level) ((count - 2 ^ height) * 2 ^ level) n ++ Left ∷ []) (less_split level height index place behind)
    ∙ ap (λ path. path ++ Left ∷ []) (below (count - 2 ^ height) (index - 2 ^ height) (omega arith) rest)
    ∙ append_assoc (sides level (2 ^ level) place) (sides height (count - 2 ^ height) (index - 2 ^ height)) (Left ∷ [])
    ∙ ap (λ path. sides level (2 ^ level) place ++ path) (sym (sides-right height count index many behind))

sides_through : (level height count index place : ℕ) → index < count → place < 2 ^ level → count ≤ 2 ^ height
    → sides (height + level) (count * 2 ^ level) (index * 2 ^ level + place) ≡ sides level (2 ^ level) place ++ sides height count index
sides_through level zero count index place at within fits = sides_one level index count place at fits
sides_through level (suc height) count index place at within fits =
    rw suc-add (sides_by level height count index place at within (λ n i here short. sides_through level height n i place here within short) fits (nat_le count (2 ^ height)) (nat_lt index (2 ^ height)) refl refl)

pub path_through : (level count index place : ℕ) → index < count → place < 2 ^ level → path_of (count * 2 ^ level) (index * 2 ^ level + place) ≡ path_of (2 ^ level) place ++ path_of count index
path_through level count index place at within =
    let fits : count ≤ 2 ^ count = omega (arith, lt_pow count) in
    path_of-at (count + level) (count * 2 ^ level) (index * 2 ^ level + place) (few_split level count count fits)
    ∙ sides_through level count count index place at within fits
    ∙ ap (λ path. path ++ sides count count index) (sym (path_of-at level (2 ^ level) place (omega arith)))
    ∙ ap (λ path. path_of (2 ^ level) place ++ path) (sym (path_of-at count count index fits))

-- the hashes beside it
beside_one : (level index place : ℕ) (parts : List (List (List ℕ))) → index < length parts → length parts ≤ 1
    → hashes_beside (0 + level) (joined parts) (index * 2 ^ level + place) ≡ hashes_beside level (get_or parts index []) place ++ hashes_beside 0 (map node_root_of parts) index
unfolding hashes_beside
beside_one level index place [] within fits = absurd (let none : index < 0 = within in omega arith)
beside_one level zero place (part ∷ []) within fits =
    let height : 0 + level ≡ level = omega arith in
    let at : 0 * 2 ^ level + place ≡ place = omega arith in
    rw (height, at, append-nil part) (sym (append-nil (hashes_beside level part place)))
beside_one level (suc index) place (part ∷ []) within fits = absurd (let none : suc index < 1 = within in omega arith)
beside_one level index place (part ∷ other ∷ parts) within fits = absurd (let more : suc (suc (length parts)) ≤ 1 = fits in omega arith)

beside_by : (level height index place : ℕ) (parts : List (List (List ℕ))) → AreWhole level parts → index < length parts → place < 2 ^ level
    → ((some : List (List (List ℕ))) (at : ℕ) → AreWhole level some → at < length some → length some ≤ 2 ^ height
    → hashes_beside (height + level) (joined some) (at * 2 ^ level + place) ≡ hashes_beside level (get_or some at []) place ++ hashes_beside height (map node_root_of some) at)
    → length parts ≤ 2 ^ suc height → (low left : Bool) → nat_le (length parts) (2 ^ height) ≡ low → nat_lt index (2 ^ height) ≡ left
    → hashes_beside (suc (height + level)) (joined parts) (index * 2 ^ level + place) ≡ hashes_beside level (get_or parts index []) place ++ hashes_beside (suc height) (map node_root_of parts) index
beside_by level height index place parts whole at within below fits true left e f =
    let few : length parts ≤ 2 ^ height = leb-true _ _ e in
    let all : length (joined parts) ≤ 2 ^ (height + level) = omega (arith, joined-length level parts whole, few_split level height (length parts) few) in
    let roots : length (map node_root_of parts) ≤ 2 ^ height = omega (arith, length-map parts node_root_of) in
    beside-low (height + level) (joined parts) (index * 2 ^ level + place) all ∙ below parts index whole at few
    ∙ ap (λ hashes. hashes_beside level (get_or parts index []) place ++ hashes) (sym (beside-low height (map node_root_of parts) index roots))
beside_by level height index place parts whole at within below fits false true e f =
    let many : 2 ^ height < length parts = leb-false _ _ e in
    let before : index < 2 ^ height = ltb-true _ _ f in
    let all : 2 ^ (height + level) < length (joined parts) = omega (arith, joined-length level parts whole, many_split level height (length parts) many) in
    let roots : 2 ^ height < length (map node_root_of parts) = omega (arith, length-map parts node_root_of) in
    let first = take (2 ^ height) parts in
    let rest = drop (2 ^ height) parts in
    let firsts_whole : AreWhole level first = All-take (λ part. length part ≡ 2 ^ level) (2 ^ height) parts whole in
    let rests_whole : AreWhole level rest = All-drop (λ part. length part ≡ 2 ^ level) (2 ^ height) parts whole in
    let firsts : length first ≡ 2 ^ height = length-take-le (2 ^ height) parts (omega arith) in
    let rests : length rest ≤ 2 ^ height = omega (arith, length-drop (2 ^ height) parts, pow-suc 2 height) in
    let front : take (2 ^ (height + level)) (joined parts) ≡ joined first = ap (λ n. take n (joined parts)) (wide level height) ∙ joined-take level (2 ^ height) parts whole (omega arith) in
    let back : drop (2 ^ (height + level)) (joined parts) ≡ joined rest = ap (λ n. drop n (joined parts)) (wide level height) ∙ joined-drop level (2 ^ height) parts whole (omega arith) in
    let top : tree_root (height + level) (drop (2 ^ (height + level)) (joined parts)) ≡ tree_root height (drop (2 ^ height) (map node_root_of parts)) =
    ap (tree_root (height + level)) back ∙ top_of_parts level height rest rests_whole rests ∙ ap (tree_root height) (sym (drop-map node_root_of (2 ^ height) parts)) in
    beside-left (height + level) (joined parts) (index * 2 ^ level + place) all (before_split level height index place before within)
    ∙ ap (λ hashes. hashes_beside (height + level) hashes (index * 2 ^ level + place) ++ tree_root (height + level) (drop (2 ^ (height + level)) (joined parts)) ∷ []) front
    ∙ ap (λ hash. hashes_beside (height + level) (joined first) (index * 2 ^ level + place) ++ hash ∷ []) top
    ∙ ap (λ hashes. hashes ++ tree_root height (drop (2 ^ height) (map node_root_of parts)) ∷ []) (below first index firsts_whole (omega arith) (omega arith))
    ∙ append_assoc (hashes_beside level (get_or first index []) place) (hashes_beside height (map node_root_of first) index) (tree_root height (drop (2 ^ height) (map node_root_of parts)) ∷ [])
    ∙ ap (λ part. hashes_beside level part place ++ (hashes_beside height (map node_root_of first) index ++ tree_root height (drop (2 ^ height) (map node_root_of parts)) ∷ [])) (get_or-take (2 ^ height) parts index [] before)
    ∙ ap (λ hashes. hashes_beside level (get_or parts index []) place ++ (hashes_beside height hashes index ++ tree_root height (drop (2 ^ height) (map node_root_of parts)) ∷ [])) (sym (take-map node_root_of (2 ^ height) parts))
    ∙ ap (λ hashes. hashes_beside level (get_or parts index []) place ++ hashes) (sym (beside-left height (map node_root_of parts) index roots before))
beside_by level height index place parts whole at within below fits false false e f =
    let many : 2 ^ height < length parts = leb-false _ _ e in
    let behind : 2 ^ height ≤ index = ltb-false _ _ f in
    let all : 2 ^ (height + level) < length (joined parts) = omega (arith, joined-length level parts whole, many_split level height (length parts) many) in
    let roots : 2 ^ height < length (map node_root_of parts) = omega (arith, length-map parts node_root_of) in
    let first = take (2 ^ height) parts in
    let rest = drop (2 ^ height) parts in
    let firsts_whole : AreWhole level first = All-take (λ part. length part ≡ 2 ^ level) (2 ^ height) parts whole in
    let rests_whole : AreWhole level rest = All-drop (λ part. length part ≡ 2 ^ level) (2 ^ height) parts whole in
    let firsts : length first ≤ 2 ^ height = omega (arith, length-take-le (2 ^ height) parts (omega arith)) in
    let rests : length rest ≤ 2 ^ height = omega (arith, length-drop (2 ^ height) parts, pow-suc 2 height) in
    let front : take (2 ^ (height + level)) (joined parts) ≡ joined first = ap (λ n. take n (joined parts)) (wide level height) ∙ joined-take level (2 ^ height) parts whole (omega arith) in
    let back : drop (2 ^ (height + level)) (joined parts) ≡ joined rest = ap (λ n. drop n (joined parts)) (wide level height) ∙ joined-drop level (2 ^ height) parts whole (omega arith) in
    let top : tree_root (height + level) (take (2 ^ (height + level)) (joined parts)) ≡ tree_root height (take (2 ^ height) (map node_root_of parts)) =
    ap (tree_root (height + level)) front ∙ top_of_parts level height first firsts_whole firsts ∙ ap (tree_root height) (sym (take-map node_root_of (2 ^ height) parts)) in
    let moved : get_or rest (index - 2 ^ height) [] ≡ get_or parts index [] =
    get_or-drop (2 ^ height) parts (index - 2 ^ height) [] ∙ ap (λ n. get_or parts n []) (let back_again : 2 ^ height + (index - 2 ^ height) ≡ index = omega arith in back_again) in
    beside-right (height + level) (joined parts) (index * 2 ^ level + place) all (behind_split level height index place behind)
    ∙ ap (λ hashes. hashes_beside (height + level) hashes (index * 2 ^ level + place - 2 ^ (height + level)) ++ tree_root (height + level) (take (2 ^ (height + level)) (joined parts)) ∷ []) back
    ∙ ap (λ n. hashes_beside (height + level) (joined rest) n ++ tree_root (height + level) (take (2 ^ (height + level)) (joined parts)) ∷ []) (less_split level height index place behind)
    ∙ ap (λ hash. hashes_beside (height + level) (joined rest) ((index - 2 ^ height) * 2 ^ level + place) ++ hash ∷ []) top
    ∙ ap (λ hashes. hashes ++ tree_root height (take (2 ^ height) (map node_root_of parts)) ∷ []) (below rest (index - 2 ^ height) rests_whole (omega (arith, length-drop (2 ^ height) parts)) rests)
    ∙ append_assoc (hashes_beside level (get_or rest (index - 2 ^ height) []) place) (hashes_beside height (map node_root_of rest) (index - 2 ^ height)) (tree_root height (take (2 ^ height) (map node_root_of parts)) ∷ [])
    ∙ ap (λ part. hashes_beside level part place ++ (hashes_beside height (map node_root_of rest) (index - 2 ^ height) ++ tree_root height (take (2 ^ height) (map node_root_of parts)) ∷ [])) moved
    ∙ ap (λ hashes. hashes_beside level (get_or parts index []) place ++ (hashes_beside height hashes (index - 2 ^ height) ++ tree_root height (take (2 ^ height) (map node_root_of parts)) ∷ [])) (sym (drop-map node_root_of (2 ^ height) parts))
    ∙ ap (λ hashes. hashes_beside level (get_or parts index []) place ++ hashes) (sym (beside-right height (map node_root_of parts) index roots behind))

beside_through : (level height index place : ℕ) (parts : List (List (List ℕ))) → AreWhole level parts → index < length parts → place < 2 ^ level → length parts ≤ 2 ^ height
    → hashes_beside (height + level) (joined parts) (index * 2 ^ level + place) ≡ hashes_beside level (get_or parts index []) place ++ hashes_beside height (map node_root_of parts) index
beside_through level zero index place parts whole at within fits = beside_one level index place parts at fits
beside_through level (suc height) index place parts whole at within fits =
    rw suc-add (beside_by level height index place parts whole at within (λ some i all here short. beside_through level height i place some all here within short) fits
    (nat_le (length parts) (2 ^ height)) (nat_lt index (2 ^ height)) refl refl)

pub proof_through : (level : ℕ) (parts : List (List (List ℕ))) (index place : ℕ) → AreWhole level parts → index < length parts → place < 2 ^ level
    → leaf_proof (joined parts) (index * 2 ^ level + place) ≡ leaf_proof (get_or parts index []) place ++ leaf_proof (map node_root_of parts) index
proof_through level parts index place whole at within =
    let fits : length parts ≤ 2 ^ length parts = omega (arith, lt_pow (length parts)) in
    let all : length (joined parts) ≤ 2 ^ (length parts + level) = omega (arith, joined-length level parts whole, few_split level (length parts) (length parts) fits) in
    let part : length (get_or parts index []) ≤ 2 ^ level = omega (arith, whole index [] at) in
    let roots : length (map node_root_of parts) ≤ 2 ^ length parts = omega (arith, length-map parts node_root_of) in
    leaf_proof-at (length parts + level) (joined parts) (index * 2 ^ level + place) all
    ∙ beside_through level (length parts) index place parts whole at within fits
    ∙ ap (λ hashes. hashes ++ hashes_beside (length parts) (map node_root_of parts) index) (sym (leaf_proof-at level (get_or parts index []) place part))
    ∙ ap (λ hashes. leaf_proof (get_or parts index []) place ++ hashes) (sym (leaf_proof-at (length parts) (map node_root_of parts) index roots))

-- parts that are given by the bytes of their leaves
leaves_by : (count : ℕ) (front back : List ℕ) → length front ≡ 64 * count → 0 < length back → leaves_of (front ++ back) ≡ leaves_of front ++ leaves_of back
leaves_by count front back is some =
    let within : count < leaf_count (length (front ++ back)) = omega (arith, length-append front back) in
    let first : leaves_of front ≡ take count (leaves_of (front ++ back)) = ap leaves_of (sym (take_at front back (64 * count) is)) ∙ leaves-take (front ++ back) count within in
    let rest : leaves_of back ≡ drop count (leaves_of (front ++ back)) = ap leaves_of (sym (drop_at front back (64 * count) is)) ∙ leaves-drop (front ++ back) count within in
    sym (ap (λ leaves. leaves ++ leaves_of back) first ∙ ap (λ leaves. take count (leaves_of (front ++ back)) ++ leaves) rest ∙ take-append-drop count (leaves_of (front ++ back)))

no_leaves : leaves_of [] ≡ []
unfolding leaves_of
no_leaves = refl

leaves_joined : (count : ℕ) (front back : List ℕ) → length front ≡ 64 * count → leaves_of (front ++ back) ≡ leaves_of front ++ leaves_of back
leaves_joined count front [] is = ap leaves_of (append-nil front) ∙ sym (ap (λ leaves. leaves_of front ++ leaves) no_leaves ∙ append-nil (leaves_of front))
leaves_joined count front (byte ∷ back) is = leaves_by count front (byte ∷ back) is (omega arith)

abbrev leaf_hashes : List ℕ → List (List ℕ)
leaf_hashes bytes = map leaf_digest (leaves_of bytes)

sectors_joined : (level : ℕ) (sectors : List (List ℕ)) → All (λ sector. length sector ≡ 64 * 2 ^ level) sectors → joined (map leaf_hashes sectors) ≡ leaf_hashes (concat sectors)
sectors_joined level [] whole = sym (ap (map leaf_digest) no_leaves)
sectors_joined level (sector ∷ sectors) whole =
    ap (λ hashes. leaf_hashes sector ++ hashes) (sectors_joined level sectors (λ k d within. whole (suc k) d (omega arith)))
    ∙ sym (ap (map leaf_digest) (leaves_joined (2 ^ level) sector (concat sectors) (whole 0 [] (omega arith))) ∙ map-append leaf_digest (leaves_of sector) (leaves_of (concat sectors)))

whole_by : (level : ℕ) (sector : List ℕ) (sectors : List (List ℕ)) → length sector ≡ 64 * 2 ^ level → AreWhole level (map leaf_hashes sectors)
    → (k : ℕ) (d : List (List ℕ)) → k < length (map leaf_hashes (sector ∷ sectors)) → length (get_or (map leaf_hashes (sector ∷ sectors)) k d) ≡ 2 ^ level
whole_by level sector sectors is rest zero d within = length-leaf_hashes sector ∙ (omega arith)
whole_by level sector sectors is rest (suc k) d within = rest k d (omega arith)

sectors_whole : (level : ℕ) (sectors : List (List ℕ)) → All (λ sector. length sector ≡ 64 * 2 ^ level) sectors → AreWhole level (map leaf_hashes sectors)
sectors_whole level [] whole = λ k d within. absurd (let none : k < 0 = within in omega arith)
sectors_whole level (sector ∷ sectors) whole = λ k d within. whole_by level sector sectors (whole 0 [] (omega arith)) (sectors_whole level sectors (λ i e below. whole (suc i) e (omega arith))) k d within

pub root_of_sectors : (level : ℕ) (sectors : List (List ℕ)) → All (λ sector. length sector ≡ 64 * 2 ^ level) sectors
    → node_root_of (map (λ sector. root_of (leaves_of sector)) sectors) ≡ root_of (leaves_of (concat sectors))
root_of_sectors level sectors whole =
    ap node_root_of (sym (map-map node_root_of leaf_hashes sectors)) ∙ root_of_parts level (map leaf_hashes sectors) (sectors_whole level sectors whole) ∙ ap node_root_of (sectors_joined level sectors whole)
