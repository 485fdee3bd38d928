-- A list's own proof of a diff is accepted and gives the root of the list after the steps, and who has another one
-- accepted shows a collision.
use Rattle.std.proofs.Common.{◌≡◌, ℕ, suc, ◌<◌, ◌≤◌, true, false, List, [], ◌∷◌, length, map, get_or, refl, sym, ◌∙◌, ap, subst, arith, inl, inr, zero-add}
use Rattle.std.specs.Prelude.{Bool, ◌||◌, ◌⊎◌, nat_le, nat_lt, if◌then◌else◌}
use Rattle.std.specs.List.{range_with_len, list_all, filter}
use Rattle.std.proofs.lemmas.Bool.{lt-leb, lt-ltb, ltb-true, ltb-false}
use Rattle.std.proofs.lemmas.List.{length-map, get_or_past}
use Rattle.std.proofs.lemmas.List.FromFn.{length-range_with_len, get_or-map-range_with_len}
use Rattle.sia_merkle.specs.Computations.{AreHashes, Tree, hash_of, Collides}
use Rattle.sia_merkle.specs.Computations.Tree.{Given}
use Rattle.sia_merkle.specs.Roots.{first_hash, node_root_of}
use Rattle.sia_merkle.specs.Segments.{cover, others, joined_within, Joins}
use Rattle.sia_merkle.proofs.LeafSoundness.{sized_at}
use Rattle.sia_cover.proofs.Joins.{hash_given}
use Rattle.sia_cover.proofs.OwnWholes.{own_joins, own_whole, own_roots}
use Rattle.sia_cover.proofs.SameCovers.{AgreeAt, AreWithin, cover_roots_same}
use Rattle.sia_cover.proofs.Soundness.{roots_sized, given_sized, given_shapes, joins_collide}
use Rattle.sia_diff.specs.declared.steps.DiffStep.{DiffStep}
use Rattle.sia_diff.specs.Diffs.{touched_or_new, hashes_at, old_tree, spread, moved_hashes, new_tree, IsDiffOf, own_leaves, own_nodes, IsOwnDiff}
use Rattle.sia_diff.specs.DiffSteps.{counted_steps, after, count_after, is_touched, is_fit, step_fits, touch_count, touched_places}
use Rattle.sia_diff.proofs.Agreement.{AgreeOn, agree_after, keep_after}
use Rattle.sia_diff.proofs.Counts.{filter_row}
use Rattle.sia_diff.proofs.Fit.{fit_done}
use Rattle.sia_diff.proofs.Listed.{touched_below}
use Rattle.sia_diff.proofs.Moves.{length_after, length_spread}
use Rattle.sia_diff.proofs.Verdicts.{untouched_at, within_before, within_after}

-- the list's own hashes at the touched places are those at the touched and new ones
own_is : (hashes : List (List ℕ)) (steps : List DiffStep) → hashes_at (touched_or_new (length hashes) steps) hashes (length hashes) ≡ own_leaves hashes steps
unfolding touched_places
own_is hashes steps =
    ap (map (λ place. get_or hashes place [])) (filter_row (touched_or_new (length hashes) steps) (is_touched (length hashes) steps) 0 (length hashes)
    (λ place from to. ap (λ b. b || is_touched (length hashes) steps place) (lt-leb (length hashes) place (omega arith))))

-- the list's own proof joins to its root
pub own_diff : (hashes : List (List ℕ)) (steps : List DiffStep) → IsDiffOf (node_root_of hashes) (length hashes) steps (own_leaves hashes steps) (own_nodes hashes steps)
unfolding old_tree
own_diff hashes steps =
    let count = length hashes in
    let chosen = touched_or_new (length hashes) steps in
    let nodes = own_nodes hashes steps in record {
      joins = subst (λ (leaves : List (List ℕ)). Joins (touched_or_new (length hashes) steps) (length hashes) (map Given leaves) (own_nodes hashes steps) (joined_within (touched_or_new (length hashes) steps) (length hashes) (length hashes) 0 (map Given leaves) (own_nodes hashes steps)))
          (own_is hashes steps) (own_joins (touched_or_new (length hashes) steps) hashes);
      gives = ap (λ leaves. hash_of (joined_within (touched_or_new (length hashes) steps) (length hashes) (length hashes) 0 (map Given leaves) (own_nodes hashes steps))) (sym (own_is hashes steps))
          ∙ own_whole (touched_or_new (length hashes) steps) hashes;
    }

-- its hashes at chosen places, put where they stand
spread_by : (chosen : ℕ → Bool) (get : ℕ → List ℕ) (place : ℕ) (places : List ℕ) → spread chosen places (map get (filter chosen places)) ≡ map (λ other. if chosen other then get other else first_hash []) places
    → (here : Bool) → chosen place ≡ here → spread chosen (place ∷ places) (map get (filter chosen (place ∷ places))) ≡ map (λ other. if chosen other then get other else first_hash []) (place ∷ places)
unfolding spread
spread_by chosen get place places rest true e = rw e (ap (λ hs. get place ∷ hs) rest)
spread_by chosen get place places rest false e = rw e (ap (λ hs. first_hash [] ∷ hs) rest)

spread_own : (chosen : ℕ → Bool) (get : ℕ → List ℕ) (places : List ℕ) → spread chosen places (map get (filter chosen places)) ≡ map (λ other. if chosen other then get other else first_hash []) places
unfolding spread
spread_own chosen get [] = refl
spread_own chosen get (place ∷ places) = spread_by chosen get place places (spread_own chosen get places) (chosen place) refl

start_by : (chosen : ℕ → Bool) (hashes : List (List ℕ)) (place : ℕ) → chosen place ≡ true → (old : Bool) → nat_lt place (length hashes) ≡ old
    → get_or hashes place [] ≡ get_or (spread chosen (range_with_len 0 (length hashes)) (hashes_at chosen hashes (length hashes))) place []
start_by chosen hashes place here true e =
    sym (ap (λ hs. get_or hs place []) (spread_own chosen (λ other. get_or hashes other []) (range_with_len 0 (length hashes)))
    ∙ get_or-map-range_with_len (λ other. if chosen other then get_or hashes other [] else first_hash []) 0 (length hashes) place place [] (ltb-true _ _ e) (zero-add place)
    ∙ ap (λ b. if b then get_or hashes place [] else first_hash []) here)
start_by chosen hashes place here false e =
    let past : length hashes ≤ place = ltb-false _ _ e in
    get_or_past hashes place [] past
    ∙ sym (get_or_past (spread chosen (range_with_len 0 (length hashes)) (hashes_at chosen hashes (length hashes))) place []
    (omega (arith, length_spread chosen (range_with_len 0 (length hashes)) (hashes_at chosen hashes (length hashes)), length-range_with_len 0 (length hashes))))

or_true : (new touched : Bool) → touched ≡ true → (new || touched) ≡ true
or_true true touched e = refl
or_true false touched e = e

touches_chosen : (count : ℕ) (steps : List DiffStep) (place : ℕ) → 0 < touch_count count steps place → touched_or_new count steps place ≡ true
unfolding is_touched
touches_chosen count steps place more = or_true (nat_le count place) (nat_lt 0 (touch_count count steps place)) (lt-ltb _ _ more)

-- after the steps, the moved hashes are those of the list
pub moved_agree : (hashes : List (List ℕ)) (steps : List DiffStep) → list_all (λ counted. step_fits counted.count counted.step) (counted_steps (length hashes) steps) ≡ true
    → AgreeOn (touched_or_new (length hashes) steps) (after hashes steps) (moved_hashes (length hashes) steps (own_leaves hashes steps))
unfolding moved_hashes
moved_agree hashes steps fits =
    let chosen = touched_or_new (length hashes) steps in
    let start : AgreeOn (touched_or_new (length hashes) steps) hashes (spread (touched_or_new (length hashes) steps) (range_with_len 0 (length hashes)) (own_leaves hashes steps)) =
    λ place here. start_by (touched_or_new (length hashes) steps) hashes place here (nat_lt place (length hashes)) refl
    ∙ ap (λ leaves. get_or (spread (touched_or_new (length hashes) steps) (range_with_len 0 (length hashes)) leaves) place []) (own_is hashes steps) in
    agree_after (touched_or_new (length hashes) steps) steps (length hashes) hashes (spread (touched_or_new (length hashes) steps) (range_with_len 0 (length hashes)) (own_leaves hashes steps)) refl
    (length_spread (touched_or_new (length hashes) steps) (range_with_len 0 (length hashes)) (own_leaves hashes steps) ∙ length-range_with_len 0 (length hashes)) fits (touches_chosen (length hashes) steps) start

map_by : (chosen : ℕ → Bool) (first second : ℕ → List ℕ) (place : ℕ) (places : List ℕ) → map first (filter chosen places) ≡ map second (filter chosen places) → (chosen place ≡ true → first place ≡ second place)
    → (here : Bool) → chosen place ≡ here → map first (filter chosen (place ∷ places)) ≡ map second (filter chosen (place ∷ places))
map_by chosen first second place places rest same true e = rw e (ap (λ hash. hash ∷ map first (filter chosen places)) (same e) ∙ ap (λ hs. second place ∷ hs) rest)
map_by chosen first second place places rest same false e = rw e rest

map_agree : (chosen : ℕ → Bool) (first second : ℕ → List ℕ) (places : List ℕ) → ((place : ℕ) → chosen place ≡ true → first place ≡ second place) → map first (filter chosen places) ≡ map second (filter chosen places)
map_agree chosen first second [] each = refl
map_agree chosen first second (place ∷ places) each = map_by chosen first second place places (map_agree chosen first second places each) (each place) (chosen place) refl

-- the cover of the untouched places keeps its roots
kept_nodes : (hashes : List (List ℕ)) (steps : List DiffStep) → list_all (λ counted. step_fits counted.count counted.step) (counted_steps (length hashes) steps) ≡ true
    → own_nodes hashes steps ≡ own_roots (touched_or_new (length hashes) steps) (after hashes steps)
kept_nodes hashes steps fits =
    let len : length (after hashes steps) ≡ count_after (length hashes) steps = length_after hashes steps (length hashes) refl fits in
    let later : AreWithin (others (touched_or_new (length hashes) steps)) (length (after hashes steps)) = λ place e. (let below : place < count_after (length hashes) steps = within_after (length hashes) steps place e in omega arith) in
    let agree : AgreeAt (others (touched_or_new (length hashes) steps)) (length hashes) hashes (after hashes steps) =
    λ place within e. sym (keep_after steps (length hashes) place hashes refl within fits ((untouched_at (length hashes) steps place e).1)) in
    cover_roots_same (others (touched_or_new (length hashes) steps)) hashes (after hashes steps) (within_before (length hashes) steps) later agree

pub own_new : (hashes : List (List ℕ)) (steps : List DiffStep) → list_all (λ counted. step_fits counted.count counted.step) (counted_steps (length hashes) steps) ≡ true
    → hash_of (new_tree (length hashes) steps (own_leaves hashes steps) (own_nodes hashes steps)) ≡ node_root_of (after hashes steps)
unfolding new_tree
own_new hashes steps fits =
    let len : count_after (length hashes) steps ≡ length (after hashes steps) = sym (length_after hashes steps (length hashes) refl fits) in
    let leaves : hashes_at (touched_or_new (length hashes) steps) (moved_hashes (length hashes) steps (own_leaves hashes steps)) (count_after (length hashes) steps)
    ≡ hashes_at (touched_or_new (length hashes) steps) (after hashes steps) (count_after (length hashes) steps) =
    map_agree (touched_or_new (length hashes) steps) (λ place. get_or (moved_hashes (length hashes) steps (own_leaves hashes steps)) place []) (λ place. get_or (after hashes steps) place []) (range_with_len 0 (count_after (length hashes) steps))
    (λ place here. sym (moved_agree hashes steps fits place here)) in
    ap (λ hs. hash_of (joined_within (touched_or_new (length hashes) steps) (count_after (length hashes) steps) (count_after (length hashes) steps) 0 (map Given hs) (own_nodes hashes steps))) leaves
    ∙ ap (λ roots. hash_of (joined_within (touched_or_new (length hashes) steps) (count_after (length hashes) steps) (count_after (length hashes) steps) 0
    (map Given (hashes_at (touched_or_new (length hashes) steps) (after hashes steps) (count_after (length hashes) steps))) roots)) (kept_nodes hashes steps fits)
    ∙ ap (λ n. hash_of (joined_within (touched_or_new (length hashes) steps) n n 0 (map Given (hashes_at (touched_or_new (length hashes) steps) (after hashes steps) n)) (own_roots (touched_or_new (length hashes) steps) (after hashes steps)))) len
    ∙ own_whole (touched_or_new (length hashes) steps) (after hashes steps)

-- each hash has 32 bytes
map_sized : (get : ℕ → List ℕ) (places : List ℕ) → ((k : ℕ) → k < length places → length (get (get_or places k 0)) ≡ 32) → AreHashes (map get places)
map_sized get [] each = tt
map_sized get (place ∷ places) each = (each 0 (omega arith), map_sized get places (λ k within. each (suc k) (omega arith)))

own_sized : (hashes : List (List ℕ)) (steps : List DiffStep) → ((i : ℕ) → i < length hashes → length (get_or hashes i []) ≡ 32) → AreHashes (own_leaves hashes steps)
own_sized hashes steps told =
    map_sized (λ place. get_or hashes place []) (touched_places (length hashes) steps) (λ k within. told (get_or (touched_places (length hashes) steps) k 0) (touched_below (length hashes) steps k 0 within))

given_back : (hashes : List (List ℕ)) → map hash_of (map Given hashes) ≡ hashes
given_back [] = refl
given_back (hash ∷ hashes) = ap (λ h. h ∷ map hash_of (map Given hashes)) (hash_given hash) ∙ ap (λ hs. hash ∷ hs) (given_back hashes)

same_given : (first second : List (List ℕ)) → map Given first ≡ map Given second → first ≡ second
same_given first second same = sym (given_back first) ∙ ap (map hash_of) same ∙ given_back second

another_by : (hashes : List (List ℕ)) (steps : List DiffStep) (leaves nodes : List (List ℕ)) → list_all (λ counted. step_fits counted.count counted.step) (counted_steps (length hashes) steps) ≡ true → (tree other : Tree)
    → ((map Given (own_leaves hashes steps) ≡ map Given leaves) × (own_nodes hashes steps ≡ nodes)) ⊎ Collides tree other → IsOwnDiff hashes steps leaves nodes ⊎ Collides tree other
another_by hashes steps leaves nodes fits tree other (inl same) =
    let first : leaves ≡ own_leaves hashes steps = sym (same_given (own_leaves hashes steps) leaves same.0) in
    let second : nodes ≡ own_nodes hashes steps = sym same.1 in
    inl (record {
      own_hashes = first;
      own_roots = second;
      gives = ap (λ hs. hash_of (new_tree (length hashes) steps hs nodes)) first ∙ ap (λ hs. hash_of (new_tree (length hashes) steps (own_leaves hashes steps) hs)) second ∙ own_new hashes steps fits;
    })
another_by hashes steps leaves nodes fits tree other (inr clash) = inr clash

pub another_diff : (hashes : List (List ℕ)) (root : List ℕ) (leaves nodes : List (List ℕ)) (steps : List DiffStep) → is_fit (length hashes) steps ≡ true → node_root_of hashes ≡ root
    → AreHashes hashes → AreHashes leaves → AreHashes nodes → IsDiffOf root (length hashes) steps leaves nodes
    → IsOwnDiff hashes steps leaves nodes ⊎ Collides (old_tree (length hashes) steps (own_leaves hashes steps) (own_nodes hashes steps)) (old_tree (length hashes) steps leaves nodes)
another_diff hashes root leaves nodes steps fit is sized leaves_sized nodes_sized diff =
    let own = own_diff hashes steps in
    let counts : length (own_leaves hashes steps) ≡ length leaves = sym (length-map (own_leaves hashes steps) Given) ∙ own.joins.places ∙ sym diff.joins.places ∙ length-map leaves Given in
    another_by hashes steps leaves nodes (fit_done (length hashes) steps fit) (old_tree (length hashes) steps (own_leaves hashes steps) (own_nodes hashes steps)) (old_tree (length hashes) steps leaves nodes)
    (joins_collide (touched_or_new (length hashes) steps) (length hashes) (map Given (own_leaves hashes steps)) (map Given leaves) (own_nodes hashes steps) nodes
    (old_tree (length hashes) steps (own_leaves hashes steps) (own_nodes hashes steps)) (old_tree (length hashes) steps leaves nodes) own.joins diff.joins
    (given_sized (own_leaves hashes steps) (own_sized hashes steps (sized_at hashes sized))) (roots_sized hashes (cover (others (touched_or_new (length hashes) steps)) (length hashes)) sized)
    (given_sized leaves leaves_sized) nodes_sized (given_shapes (own_leaves hashes steps) leaves counts) (own.gives ∙ is ∙ sym diff.gives))
