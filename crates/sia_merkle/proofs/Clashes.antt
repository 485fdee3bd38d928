-- Two computations of one shape and one root, which differ, show a collision.
use Rattle.std.proofs.Common.{◌≡◌, ◌≢◌, ℕ, true, false, List, ◌∷◌, ◌++◌, length, take, drop, Option, Some, None, refl, sym, ◌∙◌, ap}
use Rattle.std.specs.Prelude.{Bool, nat_eq, ◌&&◌}
use Rattle.std.specs.Option.{option_or}
use Rattle.std.specs.Cmp.Lexicographic.{pointwise, same_text, other_text}
use Rattle.std.proofs.Math.Bool.{true-and}
use Rattle.std.proofs.lemmas.List.{take_at, drop_at}
use Rattle.sia_blake.proofs.Bytes.{blake2b_256-length}
use Rattle.sia_merkle.specs.Collision.{Collision}
use Rattle.sia_merkle.specs.Computations.{Tree, hash_of, text_of, same_tree, at_tops, clash, Collides, HaveOneShape, IsCollision, IsSized}
use Rattle.sia_merkle.specs.Computations.Tree.{Given, Leaf, Node}
use Rattle.sia_merkle.specs.Roots.{leaf_digest, node_digest}

pub leaf_digest-length : (leaf : List ℕ) → length (leaf_digest leaf) ≡ 32
unfolding leaf_digest
leaf_digest-length leaf = blake2b_256-length (0 ∷ leaf)

pub node_digest-length : (left right : List ℕ) → length (node_digest left right) ≡ 32
unfolding node_digest
node_digest-length left right = blake2b_256-length (1 ∷ left ++ right)

pub hash_of-length : (tree : Tree) → IsSized tree → length (hash_of tree) ≡ 32
unfolding hash_of IsSized
hash_of-length (Given hash) sized = sized
hash_of-length (Leaf bytes) sized = leaf_digest-length bytes
hash_of-length (Node left right) sized = node_digest-length (hash_of left) (hash_of right)

-- hashes of one length that are joined are equal part by part
left_of_text : (a b x y : List ℕ) → length a ≡ 32 → length b ≡ 32 → 1 ∷ a ++ x ≡ 1 ∷ b ++ y → a ≡ b
left_of_text a b x y la lb e =
    let tails : a ++ x ≡ b ++ y = ap (drop 1) e in
    sym (take_at a x 32 la) ∙ ap (take 32) tails ∙ take_at b y 32 lb

right_of_text : (a b x y : List ℕ) → length a ≡ 32 → length b ≡ 32 → 1 ∷ a ++ x ≡ 1 ∷ b ++ y → x ≡ y
right_of_text a b x y la lb e =
    let tails : a ++ x ≡ b ++ y = ap (drop 1) e in
    sym (drop_at a x 32 la) ∙ ap (drop 32) tails ∙ drop_at b y 32 lb

-- two nodes of one hash whose parts differ
node_collides : (left right left' right' : Tree) → hash_of (Node left right) ≡ hash_of (Node left' right') → text_of (Node left right) ≢ text_of (Node left' right')
    → Collision (text_of (Node left right)) (text_of (Node left' right'))
unfolding hash_of text_of node_digest
node_collides left right left' right' one apart = record { differ = apart; one_digest = one }

leaf_collides : (bytes bytes' : List ℕ) → hash_of (Leaf bytes) ≡ hash_of (Leaf bytes') → bytes ≢ bytes' → Collision (text_of (Leaf bytes)) (text_of (Leaf bytes'))
unfolding hash_of text_of leaf_digest
leaf_collides bytes bytes' one apart = record { differ = λ e. apart (ap (drop 1) e); one_digest = one }

texts_left : (left right left' right' : Tree) → IsSized left → IsSized left' → text_of (Node left right) ≡ text_of (Node left' right') → hash_of left ≡ hash_of left'
unfolding text_of
texts_left left right left' right' sized sized' e = left_of_text (hash_of left) (hash_of left') (hash_of right) (hash_of right') (hash_of-length left sized) (hash_of-length left' sized') e

texts_right : (left right left' right' : Tree) → IsSized left → IsSized left' → text_of (Node left right) ≡ text_of (Node left' right') → hash_of right ≡ hash_of right'
unfolding text_of
texts_right left right left' right' sized sized' e = right_of_text (hash_of left) (hash_of left') (hash_of right) (hash_of right') (hash_of-length left sized) (hash_of-length left' sized') e

-- what a clash says of two computations that differ: it is a collision, and there is one where they have one hash
abbrev IsClash : Tree → Tree → Option (List ℕ × List ℕ) → Type 0
IsClash tree other None = hash_of tree ≢ hash_of other
IsClash tree other (Some (text, text')) = Collision text text'

tops_by : (tree other : Tree) → (hash_of tree ≡ hash_of other → Collision (text_of tree) (text_of other)) → (equal : Bool) → pointwise nat_eq (hash_of tree) (hash_of other) ≡ equal
    → IsClash tree other (at_tops tree other)
tops_by tree other when true e = rw e (when (same_text _ _ (sym e)))
tops_by tree other when false e = rw e (other_text _ _ (sym e))

at_tops_clash : (tree other : Tree) → (hash_of tree ≡ hash_of other → Collision (text_of tree) (text_of other)) → IsClash tree other (at_tops tree other)
at_tops_clash tree other when = tops_by tree other when (pointwise nat_eq (hash_of tree) (hash_of other)) refl

given_agree : (hash hash' : List ℕ) → hash_of (Given hash) ≡ hash_of (Given hash') → pointwise nat_eq hash hash' ≡ false → ⊥
unfolding hash_of
given_agree hash hash' one differ = other_text hash hash' (sym differ) one

clash_given : (hash hash' : List ℕ) → clash (Given hash) (Given hash') ≡ at_tops (Given hash) (Given hash')
unfolding clash
clash_given hash hash' = refl

clash_leaves : (bytes bytes' : List ℕ) → clash (Leaf bytes) (Leaf bytes') ≡ at_tops (Leaf bytes) (Leaf bytes')
unfolding clash
clash_leaves bytes bytes' = refl

clash_left : (left right left' right' : Tree) → same_tree left left' ≡ false
    → clash (Node left right) (Node left' right') ≡ option_or (clash left left') (at_tops (Node left right) (Node left' right'))
unfolding clash
clash_left left right left' right' differ = rw differ refl

clash_right : (left right left' right' : Tree) → same_tree left left' ≡ true
    → clash (Node left right) (Node left' right') ≡ option_or (clash right right') (at_tops (Node left right) (Node left' right'))
unfolding clash
clash_right left right left' right' same = rw same refl

above_left : (left right left' right' : Tree) → IsSized left → IsSized left' → (below : Option (List ℕ × List ℕ)) → IsClash left left' below
    → IsClash (Node left right) (Node left' right') (option_or below (at_tops (Node left right) (Node left' right')))
above_left left right left' right' sized sized' None apart =
    at_tops_clash (Node left right) (Node left' right') (λ one. node_collides left right left' right' one (λ texts. apart (texts_left left right left' right' sized sized' texts)))
above_left left right left' right' sized sized' (Some (text, text')) collision = collision

above_right : (left right left' right' : Tree) → IsSized left → IsSized left' → (below : Option (List ℕ × List ℕ)) → IsClash right right' below
    → IsClash (Node left right) (Node left' right') (option_or below (at_tops (Node left right) (Node left' right')))
above_right left right left' right' sized sized' None apart =
    at_tops_clash (Node left right) (Node left' right') (λ one. node_collides left right left' right' one (λ texts. apart (texts_right left right left' right' sized sized' texts)))
above_right left right left' right' sized sized' (Some (text, text')) collision = collision

when_node : (left right left' right' : Tree) → IsSized left → IsSized left'
    → (same_tree left left' ≡ false → IsClash left left' (clash left left')) → (same_tree right right' ≡ false → IsClash right right' (clash right right'))
    → (same_tree left left' && same_tree right right') ≡ false → (same : Bool) → same_tree left left' ≡ same
    → IsClash (Node left right) (Node left' right') (clash (Node left right) (Node left' right'))
when_node left right left' right' sized sized' lefts rights differ true e =
    let right_differs : same_tree right right' ≡ false = sym (ap (λ b. b && same_tree right right') e ∙ true-and (same_tree right right')) ∙ differ in
    rw (clash_right left right left' right' e) (above_right left right left' right' sized sized' (clash right right') (rights right_differs))
when_node left right left' right' sized sized' lefts rights differ false e =
    rw (clash_left left right left' right' e) (above_left left right left' right' sized sized' (clash left left') (lefts e))

-- two computations of one shape that differ
clash_of_differing : (tree other : Tree) → IsSized tree → IsSized other → HaveOneShape tree other → same_tree tree other ≡ false → IsClash tree other (clash tree other)
unfolding IsSized HaveOneShape same_tree
clash_of_differing (Given hash) (Given hash') sized sized' shape differ =
    rw (clash_given hash hash') (at_tops_clash (Given hash) (Given hash') (λ one. absurd (given_agree hash hash' one differ)))
clash_of_differing (Given hash) (Leaf bytes') sized sized' shape differ = absurd shape
clash_of_differing (Given hash) (Node left' right') sized sized' shape differ = absurd shape
clash_of_differing (Leaf bytes) (Given hash') sized sized' shape differ = absurd shape
clash_of_differing (Leaf bytes) (Leaf bytes') sized sized' shape differ =
    rw (clash_leaves bytes bytes') (at_tops_clash (Leaf bytes) (Leaf bytes') (λ one. leaf_collides bytes bytes' one (other_text bytes bytes' (sym differ))))
clash_of_differing (Leaf bytes) (Node left' right') sized sized' shape differ = absurd shape
clash_of_differing (Node left right) (Given hash') sized sized' shape differ = absurd shape
clash_of_differing (Node left right) (Leaf bytes') sized sized' shape differ = absurd shape
clash_of_differing (Node left right) (Node left' right') sized sized' shape differ =
    when_node left right left' right' sized.0 sized'.0 (λ apart. clash_of_differing left left' sized.0 sized'.0 shape.0 apart) (λ apart. clash_of_differing right right' sized.1 sized'.1 shape.1 apart) differ (same_tree left left') refl

collided : (tree other : Tree) (found : Option (List ℕ × List ℕ)) → hash_of tree ≡ hash_of other → IsClash tree other found → IsCollision found
collided tree other None one apart = absurd (apart one)
collided tree other (Some (text, text')) one collision = collision

-- two computations of one shape and one root that differ
pub clash_collides : (tree other : Tree) → IsSized tree → IsSized other → HaveOneShape tree other → hash_of tree ≡ hash_of other → same_tree tree other ≡ false
    → Collides tree other
clash_collides tree other sized sized' shape one differ = collided tree other (clash tree other) one (clash_of_differing tree other sized sized' shape differ)
