-- Who has a leaf accepted that is not a list's own shows a collision.
use Rattle.std.proofs.Common.{◌≡◌, ◌≢◌, ℕ, zero, suc, ◌+◌, ◌-◌, ◌*◌, ◌^◌, ◌<◌, ◌≤◌, true, false, List, [], ◌∷◌, ◌++◌, length, map, take, drop, get_or, refl, sym, ◌∙◌, ap, arith, length-append, length-drop}
use Rattle.std.specs.Prelude.{Bool, nat_eq, nat_lt, nat_le, ◌&&◌}
use Rattle.std.specs.Cmp.Lexicographic.{pointwise, same_text}
use Rattle.std.proofs.lemmas.Bool.{leb-true, leb-false, ltb-true, ltb-false}
use Rattle.std.proofs.lemmas.List.{get_or-take, get_or-drop, length-take-le}
use Rattle.std.proofs.Math.Bool.{and-false, false-and}
use native.Mathlib.Nat.{pow-suc}
use Rattle.sia_merkle.specs.Computations.{Tree, hash_of, same_tree, AreHashes, Collides, HaveOneShape, IsSized}
use Rattle.sia_merkle.specs.Computations.Tree.{Given, Leaf, Node}
use Rattle.sia_merkle.specs.Paths.{Side, sides, path_of, beside, climbed, cut_leaf, leaf_tree, own_leaf_tree, IsCorrect, hashes_beside, leaf_proof}
use Rattle.sia_merkle.specs.Paths.Side.{Left, Right}
use Rattle.sia_merkle.specs.Roots.{leaf_at, leaf_count, leaf_digest, leaves_of, node_digest, node_root_of, root_of, tree_root}
use Rattle.sia_merkle.proofs.Beside.{beside-low, beside-left, beside-right}
use Rattle.sia_merkle.proofs.Clashes.{leaf_digest-length, node_digest-length, clash_collides}
use Rattle.sia_merkle.proofs.Climbs.{sides-low, sides-left, sides-right, climbed-last}
use Rattle.sia_merkle.proofs.Trees.{lt_pow, tree_root-low, tree_root-split}
use Rattle.sia_merkle.proofs.Cuts.{leaf_hash_at, length-leaf_hashes}

count_none : (hashes : List (List ℕ)) (place : ℕ) → length (hashes_beside zero hashes place) ≡ length (sides zero (length hashes) place)
unfolding hashes_beside sides
count_none hashes place = refl

count_by : (height : ℕ) (hashes : List (List ℕ)) (place : ℕ) → ((part : List (List ℕ)) (at : ℕ) → length (hashes_beside height part at) ≡ length (sides height (length part) at))
    → (low left : Bool) → nat_le (length hashes) (2 ^ height) ≡ low → nat_lt place (2 ^ height) ≡ left
    → length (hashes_beside (suc height) hashes place) ≡ length (sides (suc height) (length hashes) place)
count_by height hashes place below true left e f =
    let fits : length hashes ≤ 2 ^ height = leb-true _ _ e in
    ap length (beside-low height hashes place fits) ∙ below hashes place ∙ ap length (sym (sides-low height (length hashes) place fits))
count_by height hashes place below false true e f =
    let above : 2 ^ height < length hashes = leb-false _ _ e in
    let at : place < 2 ^ height = ltb-true _ _ f in
    let full : length (take (2 ^ height) hashes) ≡ 2 ^ height = length-take-le (2 ^ height) hashes (omega arith) in
    ap length (beside-left height hashes place above at) ∙ length-append (hashes_beside height (take (2 ^ height) hashes) place) (tree_root height (drop (2 ^ height) hashes) ∷ [])
    ∙ ap (λ n. n + 1) (below (take (2 ^ height) hashes) place ∙ ap (λ n. length (sides height n place)) full)
    ∙ sym (ap length (sides-left height (length hashes) place above at) ∙ length-append (sides height (2 ^ height) place) (Right ∷ []))
count_by height hashes place below false false e f =
    let above : 2 ^ height < length hashes = leb-false _ _ e in
    let at : 2 ^ height ≤ place = ltb-false _ _ f in
    ap length (beside-right height hashes place above at) ∙ length-append (hashes_beside height (drop (2 ^ height) hashes) (place - 2 ^ height)) (tree_root height (take (2 ^ height) hashes) ∷ [])
    ∙ ap (λ n. n + 1) (below (drop (2 ^ height) hashes) (place - 2 ^ height) ∙ ap (λ n. length (sides height n (place - 2 ^ height))) (length-drop (2 ^ height) hashes))
    ∙ sym (ap length (sides-right height (length hashes) place above at) ∙ length-append (sides height (length hashes - 2 ^ height) (place - 2 ^ height)) (Left ∷ []))

-- as many hashes as sides
pub beside-count : (height : ℕ) (hashes : List (List ℕ)) (place : ℕ) → length (hashes_beside height hashes place) ≡ length (sides height (length hashes) place)
beside-count zero hashes place = count_none hashes place
beside-count (suc height) hashes place = count_by height hashes place (λ part at. beside-count height part at) (nat_le (length hashes) (2 ^ height)) (nat_lt place (2 ^ height)) refl refl

-- what a list's own proof joins is its root
top_only : (below : Tree) (hashes : List (List ℕ)) (place : ℕ) → length hashes ≤ 1 → place < length hashes → hash_of below ≡ get_or hashes place []
    → hash_of (climbed below (sides zero (length hashes) place) (hashes_beside zero hashes place)) ≡ tree_root zero hashes
unfolding climbed sides hashes_beside tree_root
top_only below [] place fits within is = absurd (let none : place < 0 = within in omega arith)
top_only below (hash ∷ []) zero fits within is = is
top_only below (hash ∷ []) (suc place) fits within is = absurd (let none : suc place < 1 = within in omega arith)
top_only below (hash ∷ other ∷ hashes) place fits within is = absurd (let more : suc (suc (length hashes)) ≤ 1 = fits in omega arith)

node_right : (tree : Tree) (hash : List ℕ) → hash_of (beside tree Right hash) ≡ node_digest (hash_of tree) hash
unfolding hash_of
node_right tree hash = refl

node_left : (tree : Tree) (hash : List ℕ) → hash_of (beside tree Left hash) ≡ node_digest hash (hash_of tree)
unfolding hash_of
node_left tree hash = refl

whole_by : (below : Tree) (height : ℕ) (hashes : List (List ℕ)) (place : ℕ) → length hashes ≤ 2 ^ suc height → place < length hashes → hash_of below ≡ get_or hashes place []
    → ((part : List (List ℕ)) (at : ℕ) → length part ≤ 2 ^ height → at < length part → hash_of below ≡ get_or part at []
    → hash_of (climbed below (sides height (length part) at) (hashes_beside height part at)) ≡ tree_root height part)
    → (low left : Bool) → nat_le (length hashes) (2 ^ height) ≡ low → nat_lt place (2 ^ height) ≡ left
    → hash_of (climbed below (sides (suc height) (length hashes) place) (hashes_beside (suc height) hashes place)) ≡ tree_root (suc height) hashes
whole_by below height hashes place fits within is parts true left e f =
    let short : length hashes ≤ 2 ^ height = leb-true _ _ e in
    ap (λ p. hash_of (climbed below p (hashes_beside (suc height) hashes place))) (sides-low height (length hashes) place short)
    ∙ ap (λ hs. hash_of (climbed below (sides height (length hashes) place) hs)) (beside-low height hashes place short)
    ∙ parts hashes place short within is ∙ sym (tree_root-low height hashes short)
whole_by below height hashes place fits within is parts false true e f =
    let above : 2 ^ height < length hashes = leb-false _ _ e in
    let at : place < 2 ^ height = ltb-true _ _ f in
    let full : length (take (2 ^ height) hashes) ≡ 2 ^ height = length-take-le (2 ^ height) hashes (omega arith) in
    let counts : length (hashes_beside height (take (2 ^ height) hashes) place) ≡ length (sides height (2 ^ height) place) = beside-count height (take (2 ^ height) hashes) place ∙ ap (λ n. length (sides height n place)) full in
    let part : hash_of (climbed below (sides height (2 ^ height) place) (hashes_beside height (take (2 ^ height) hashes) place)) ≡ tree_root height (take (2 ^ height) hashes) =
    ap (λ n. hash_of (climbed below (sides height n place) (hashes_beside height (take (2 ^ height) hashes) place))) (sym full)
    ∙ parts (take (2 ^ height) hashes) place (omega arith) (omega arith) (is ∙ sym (get_or-take (2 ^ height) hashes place [] at)) in
    ap (λ p. hash_of (climbed below p (hashes_beside (suc height) hashes place))) (sides-left height (length hashes) place above at)
    ∙ ap (λ hs. hash_of (climbed below (sides height (2 ^ height) place ++ Right ∷ []) hs)) (beside-left height hashes place above at)
    ∙ ap hash_of (climbed-last below (sides height (2 ^ height) place) Right (hashes_beside height (take (2 ^ height) hashes) place) (tree_root height (drop (2 ^ height) hashes)) counts)
    ∙ node_right (climbed below (sides height (2 ^ height) place) (hashes_beside height (take (2 ^ height) hashes) place)) (tree_root height (drop (2 ^ height) hashes))
    ∙ ap (λ x. node_digest x (tree_root height (drop (2 ^ height) hashes))) part ∙ sym (tree_root-split height hashes above)
whole_by below height hashes place fits within is parts false false e f =
    let above : 2 ^ height < length hashes = leb-false _ _ e in
    let at : 2 ^ height ≤ place = ltb-false _ _ f in
    let rest : length (drop (2 ^ height) hashes) ≡ length hashes - 2 ^ height = length-drop (2 ^ height) hashes in
    let counts : length (hashes_beside height (drop (2 ^ height) hashes) (place - 2 ^ height)) ≡ length (sides height (length hashes - 2 ^ height) (place - 2 ^ height)) =
    beside-count height (drop (2 ^ height) hashes) (place - 2 ^ height) ∙ ap (λ n. length (sides height n (place - 2 ^ height))) rest in
    let back : 2 ^ height + (place - 2 ^ height) ≡ place = omega arith in
    let twice : 2 ^ suc height ≡ 2 ^ height * 2 = pow-suc 2 height in
    let part : hash_of (climbed below (sides height (length hashes - 2 ^ height) (place - 2 ^ height)) (hashes_beside height (drop (2 ^ height) hashes) (place - 2 ^ height))) ≡ tree_root height (drop (2 ^ height) hashes) =
    ap (λ n. hash_of (climbed below (sides height n (place - 2 ^ height)) (hashes_beside height (drop (2 ^ height) hashes) (place - 2 ^ height)))) (sym rest)
    ∙ parts (drop (2 ^ height) hashes) (place - 2 ^ height) (omega arith) (omega arith) (is ∙ sym (get_or-drop (2 ^ height) hashes (place - 2 ^ height) [] ∙ ap (λ i. get_or hashes i []) back)) in
    ap (λ p. hash_of (climbed below p (hashes_beside (suc height) hashes place))) (sides-right height (length hashes) place above at)
    ∙ ap (λ hs. hash_of (climbed below (sides height (length hashes - 2 ^ height) (place - 2 ^ height) ++ Left ∷ []) hs)) (beside-right height hashes place above at)
    ∙ ap hash_of (climbed-last below (sides height (length hashes - 2 ^ height) (place - 2 ^ height)) Left (hashes_beside height (drop (2 ^ height) hashes) (place - 2 ^ height)) (tree_root height (take (2 ^ height) hashes)) counts)
    ∙ node_left (climbed below (sides height (length hashes - 2 ^ height) (place - 2 ^ height)) (hashes_beside height (drop (2 ^ height) hashes) (place - 2 ^ height))) (tree_root height (take (2 ^ height) hashes))
    ∙ ap (λ y. node_digest (tree_root height (take (2 ^ height) hashes)) y) part ∙ sym (tree_root-split height hashes above)

pub own_root : (below : Tree) (height : ℕ) (hashes : List (List ℕ)) (place : ℕ) → length hashes ≤ 2 ^ height → place < length hashes → hash_of below ≡ get_or hashes place []
    → hash_of (climbed below (sides height (length hashes) place) (hashes_beside height hashes place)) ≡ tree_root height hashes
own_root below zero hashes place fits within is = top_only below hashes place fits within is
own_root below (suc height) hashes place fits within is =
    whole_by below height hashes place fits within is (λ part at short inside same. own_root below height part at short inside same) (nat_le (length hashes) (2 ^ height)) (nat_lt place (2 ^ height)) refl refl

-- what is known of each hash of a slice
pub sized_told : (hashes : List (List ℕ)) → ((i : ℕ) → i < length hashes → length (get_or hashes i []) ≡ 32) → AreHashes hashes
sized_told [] told = tt
sized_told (hash ∷ hashes) told = (told 0 (omega arith), sized_told hashes (λ i within. told (suc i) (omega arith)))

pub sized_at : (hashes : List (List ℕ)) → AreHashes hashes → (i : ℕ) → i < length hashes → length (get_or hashes i []) ≡ 32
sized_at [] sized i within = absurd (let none : i < 0 = within in omega arith)
sized_at (hash ∷ hashes) sized zero within = sized.0
sized_at (hash ∷ hashes) sized (suc i) within = sized_at hashes sized.1 i (omega arith)

sized_digests : (leaves : List (List ℕ)) → AreHashes (map leaf_digest leaves)
sized_digests [] = tt
sized_digests (leaf ∷ leaves) = (leaf_digest-length leaf, sized_digests leaves)

sized_take : (count : ℕ) (hashes : List (List ℕ)) → AreHashes hashes → AreHashes (take count hashes)
sized_take zero hashes sized = tt
sized_take (suc count) [] sized = tt
sized_take (suc count) (hash ∷ hashes) sized = (sized.0, sized_take count hashes sized.1)

sized_drop : (count : ℕ) (hashes : List (List ℕ)) → AreHashes hashes → AreHashes (drop count hashes)
sized_drop zero hashes sized = sized
sized_drop (suc count) [] sized = tt
sized_drop (suc count) (hash ∷ hashes) sized = sized_drop count hashes sized.1

sized_push : (hashes : List (List ℕ)) (hash : List ℕ) → AreHashes hashes → length hash ≡ 32 → AreHashes (hashes ++ hash ∷ [])
sized_push [] hash sized long = (long, tt)
sized_push (first ∷ hashes) hash sized long = (sized.0, sized_push hashes hash sized.1 long)

first_sized : (hashes : List (List ℕ)) → AreHashes hashes → length (tree_root zero hashes) ≡ 32
unfolding tree_root
first_sized [] sized = refl
first_sized (hash ∷ hashes) sized = sized.0

root_by : (height : ℕ) (hashes : List (List ℕ)) → length (tree_root height hashes) ≡ 32 → (low : Bool) → nat_le (length hashes) (2 ^ height) ≡ low → length (tree_root (suc height) hashes) ≡ 32
root_by height hashes below true e = ap length (tree_root-low height hashes (leb-true _ _ e)) ∙ below
root_by height hashes below false e = ap length (tree_root-split height hashes (leb-false _ _ e)) ∙ node_digest-length _ _

pub tree_root-length : (height : ℕ) (hashes : List (List ℕ)) → AreHashes hashes → length (tree_root height hashes) ≡ 32
tree_root-length zero hashes sized = first_sized hashes sized
tree_root-length (suc height) hashes sized = root_by height hashes (tree_root-length height hashes sized) (nat_le (length hashes) (2 ^ height)) refl

no_beside : (hashes : List (List ℕ)) (place : ℕ) → AreHashes (hashes_beside zero hashes place)
unfolding hashes_beside
no_beside hashes place = tt

beside_by : (height : ℕ) (hashes : List (List ℕ)) (place : ℕ) → AreHashes hashes → ((part : List (List ℕ)) (at : ℕ) → AreHashes part → AreHashes (hashes_beside height part at))
    → (low left : Bool) → nat_le (length hashes) (2 ^ height) ≡ low → nat_lt place (2 ^ height) ≡ left → AreHashes (hashes_beside (suc height) hashes place)
beside_by height hashes place sized parts true left e f = rw (beside-low height hashes place (leb-true _ _ e)) (parts hashes place sized)
beside_by height hashes place sized parts false true e f =
    rw (beside-left height hashes place (leb-false _ _ e) (ltb-true _ _ f))
    (sized_push _ _ (parts (take (2 ^ height) hashes) place (sized_take (2 ^ height) hashes sized)) (tree_root-length height (drop (2 ^ height) hashes) (sized_drop (2 ^ height) hashes sized)))
beside_by height hashes place sized parts false false e f =
    rw (beside-right height hashes place (leb-false _ _ e) (ltb-false _ _ f))
    (sized_push _ _ (parts (drop (2 ^ height) hashes) (place - 2 ^ height) (sized_drop (2 ^ height) hashes sized)) (tree_root-length height (take (2 ^ height) hashes) (sized_take (2 ^ height) hashes sized)))

beside_sized : (height : ℕ) (hashes : List (List ℕ)) (place : ℕ) → AreHashes hashes → AreHashes (hashes_beside height hashes place)
beside_sized zero hashes place sized = no_beside hashes place
beside_sized (suc height) hashes place sized =
    beside_by height hashes place sized (λ part at all. beside_sized height part at all) (nat_le (length hashes) (2 ^ height)) (nat_lt place (2 ^ height)) refl refl

-- what is joined along one path has one shape, and differs where it differed below
climbed_sized : (tree : Tree) (path : List Side) (hashes : List (List ℕ)) → IsSized tree → AreHashes hashes → IsSized (climbed tree path hashes)
unfolding climbed IsSized
climbed_sized tree [] hashes sized all = sized
climbed_sized tree (side ∷ path) [] sized all = sized
climbed_sized tree (Left ∷ path) (hash ∷ hashes) sized all = climbed_sized (Node (Given hash) tree) path hashes (all.0, sized) all.1
climbed_sized tree (Right ∷ path) (hash ∷ hashes) sized all = climbed_sized (Node tree (Given hash)) path hashes (sized, all.0) all.1

climbed_shape : (tree other : Tree) (path : List Side) (hashes hashes' : List (List ℕ)) → length hashes ≡ length hashes' → HaveOneShape tree other
    → HaveOneShape (climbed tree path hashes) (climbed other path hashes')
unfolding climbed HaveOneShape
climbed_shape tree other [] hashes hashes' same shape = shape
climbed_shape tree other (side ∷ path) [] [] same shape = shape
climbed_shape tree other (side ∷ path) [] (hash' ∷ hashes') same shape = absurd (let none : 0 ≡ suc (length hashes') = same in omega arith)
climbed_shape tree other (side ∷ path) (hash ∷ hashes) [] same shape = absurd (let none : suc (length hashes) ≡ 0 = same in omega arith)
climbed_shape tree other (Left ∷ path) (hash ∷ hashes) (hash' ∷ hashes') same shape =
    climbed_shape (Node (Given hash) tree) (Node (Given hash') other) path hashes hashes' (let both : suc (length hashes) ≡ suc (length hashes') = same in omega arith) (tt, shape)
climbed_shape tree other (Right ∷ path) (hash ∷ hashes) (hash' ∷ hashes') same shape =
    climbed_shape (Node tree (Given hash)) (Node other (Given hash')) path hashes hashes' (let both : suc (length hashes) ≡ suc (length hashes') = same in omega arith) (shape, tt)

climbed_apart : (tree other : Tree) (path : List Side) (hashes hashes' : List (List ℕ)) → length hashes ≡ length hashes' → same_tree tree other ≡ false
    → same_tree (climbed tree path hashes) (climbed other path hashes') ≡ false
unfolding climbed same_tree
climbed_apart tree other [] hashes hashes' same apart = apart
climbed_apart tree other (side ∷ path) [] [] same apart = apart
climbed_apart tree other (side ∷ path) [] (hash' ∷ hashes') same apart = absurd (let none : 0 ≡ suc (length hashes') = same in omega arith)
climbed_apart tree other (side ∷ path) (hash ∷ hashes) [] same apart = absurd (let none : suc (length hashes) ≡ 0 = same in omega arith)
climbed_apart tree other (Left ∷ path) (hash ∷ hashes) (hash' ∷ hashes') same apart =
    climbed_apart (Node (Given hash) tree) (Node (Given hash') other) path hashes hashes' (let both : suc (length hashes) ≡ suc (length hashes') = same in omega arith)
    (ap (λ b. pointwise nat_eq hash hash' && b) apart ∙ and-false (pointwise nat_eq hash hash'))
climbed_apart tree other (Right ∷ path) (hash ∷ hashes) (hash' ∷ hashes') same apart =
    climbed_apart (Node tree (Given hash)) (Node other (Given hash')) path hashes hashes' (let both : suc (length hashes) ≡ suc (length hashes') = same in omega arith)
    (ap (λ b. b && pointwise nat_eq hash hash') apart ∙ false-and (pointwise nat_eq hash hash'))

other_leaves : (bytes bytes' : List ℕ) → bytes ≢ bytes' → (equal : Bool) → pointwise nat_eq bytes bytes' ≡ equal → same_tree (Leaf bytes) (Leaf bytes') ≡ false
unfolding same_tree
other_leaves bytes bytes' apart true e = absurd (apart (same_text bytes bytes' (sym e)))
other_leaves bytes bytes' apart false e = e

sized_leaf : (bytes : List ℕ) → IsSized (Leaf bytes)
unfolding IsSized
sized_leaf bytes = tt

leaf_shape : (bytes bytes' : List ℕ) → HaveOneShape (Leaf bytes) (Leaf bytes')
unfolding HaveOneShape
leaf_shape bytes bytes' = tt

own_hash : (bytes : List ℕ) (place : ℕ) → place < leaf_count (length bytes) → hash_of (Leaf (leaf_at bytes place)) ≡ get_or (map leaf_digest (leaves_of bytes)) place []
unfolding hash_of
own_hash bytes place within = sym (leaf_hash_at bytes place within)

-- the list's own computation gives its root
pub own_leaf_root : (bytes : List ℕ) (place : ℕ) → place < leaf_count (length bytes) → hash_of (own_leaf_tree bytes place) ≡ root_of (leaves_of bytes)
unfolding path_of leaf_proof node_root_of
own_leaf_root bytes place within =
    let count : length (map leaf_digest (leaves_of bytes)) ≡ leaf_count (length bytes) = length-leaf_hashes bytes in
    ap (λ n. hash_of (climbed (Leaf (leaf_at bytes place)) (sides n n place) (hashes_beside (length (map leaf_digest (leaves_of bytes))) (map leaf_digest (leaves_of bytes)) place))) (sym count)
    ∙ own_root (Leaf (leaf_at bytes place)) (length (map leaf_digest (leaves_of bytes))) (map leaf_digest (leaves_of bytes)) place
    (omega (arith, lt_pow (length (map leaf_digest (leaves_of bytes))))) (omega arith) (own_hash bytes place within)

own_count : (bytes : List ℕ) (place : ℕ) → length (leaf_proof (map leaf_digest (leaves_of bytes)) place) ≡ length (path_of (leaf_count (length bytes)) place)
unfolding path_of leaf_proof
own_count bytes place =
    beside-count (length (map leaf_digest (leaves_of bytes))) (map leaf_digest (leaves_of bytes)) place ∙ ap (λ n. length (sides n n place)) (length-leaf_hashes bytes)

own_sized : (bytes : List ℕ) (place : ℕ) → AreHashes (leaf_proof (map leaf_digest (leaves_of bytes)) place)
unfolding leaf_proof
own_sized bytes place = beside_sized (length (map leaf_digest (leaves_of bytes))) (map leaf_digest (leaves_of bytes)) place (sized_digests (leaves_of bytes))

pub another_leaf : (bytes root leaf : List ℕ) (place : ℕ) (hashes : List (List ℕ)) → place < leaf_count (length bytes) → root_of (leaves_of bytes) ≡ root
    → AreHashes hashes → IsCorrect root (length bytes) place leaf hashes → cut_leaf (length bytes) place leaf ≢ leaf_at bytes place
    → Collides (own_leaf_tree bytes place) (leaf_tree (length bytes) place leaf hashes)
another_leaf bytes root leaf place hashes within is sized correct other =
    let counts : length (leaf_proof (map leaf_digest (leaves_of bytes)) place) ≡ length hashes = own_count bytes place ∙ sym correct.used in
    clash_collides (own_leaf_tree bytes place) (leaf_tree (length bytes) place leaf hashes)
    (climbed_sized (Leaf (leaf_at bytes place)) (path_of (leaf_count (length bytes)) place) (leaf_proof (map leaf_digest (leaves_of bytes)) place) (sized_leaf (leaf_at bytes place)) (own_sized bytes place))
    (climbed_sized (Leaf (cut_leaf (length bytes) place leaf)) (path_of (leaf_count (length bytes)) place) hashes (sized_leaf (cut_leaf (length bytes) place leaf)) sized)
    (climbed_shape (Leaf (leaf_at bytes place)) (Leaf (cut_leaf (length bytes) place leaf)) (path_of (leaf_count (length bytes)) place) (leaf_proof (map leaf_digest (leaves_of bytes)) place) hashes counts (leaf_shape (leaf_at bytes place) (cut_leaf (length bytes) place leaf)))
    (own_leaf_root bytes place within ∙ is ∙ sym correct.joined)
    (climbed_apart (Leaf (leaf_at bytes place)) (Leaf (cut_leaf (length bytes) place leaf)) (path_of (leaf_count (length bytes)) place) (leaf_proof (map leaf_digest (leaves_of bytes)) place) hashes counts
    (other_leaves (leaf_at bytes place) (cut_leaf (length bytes) place leaf) (λ e. other (sym e)) (pointwise nat_eq (leaf_at bytes place) (cut_leaf (length bytes) place leaf)) refl))
