-- What the check of a diff answers.
use Rattle.std.proofs.Common.{◌≡◌, ℕ, ◌<◌, ◌≤◌, true, false, List, length, map, refl, sym, ◌∙◌, ap, subst, arith}
use Rattle.std.specs.Prelude.{Bool, not, ◌||◌, nat_le, nat_lt}
use Rattle.std.specs.List.{range_with_len, list_all}
use Rattle.std.proofs.lemmas.Bool.{leb-false, ltb-false}
use Rattle.std.proofs.lemmas.List.FromFn.{length-range_with_len}
use Rattle.sia_merkle.specs.Computations.{hash_of}
use Rattle.sia_merkle.specs.Computations.Tree.{Given}
use Rattle.sia_merkle.specs.Segments.{cover, others, joined_within}
use Rattle.sia_cover.proofs.SameCovers.{AreWithin, cover_same}
use Rattle.sia_diff.specs.declared.steps.DiffStep.{DiffStep}
use Rattle.sia_cover.specs.Joined.{JoinTo}
use Rattle.sia_diff.specs.Diffs.{touched_or_new, hashes_at, old_tree, spread, moved_hashes, new_tree, IsDiffOf}
use Rattle.sia_diff.specs.DiffSteps.{counted_steps, after, count_after, is_touched, step_fits, touch_count}
use Rattle.sia_diff.proofs.Moves.{keeps_within, length_after, length_spread}

-- what joins at the chosen places is a diff of its definition
diff_of : (count : ℕ) (steps : List DiffStep) (leaves nodes : List (List ℕ)) (root : List ℕ) → JoinTo (touched_or_new count steps) count (map Given leaves) nodes root → IsDiffOf root count steps leaves nodes
unfolding old_tree
diff_of count steps leaves nodes root join = record { joins = join.0; gives = join.1 }

of_diff : (count : ℕ) (steps : List DiffStep) (leaves nodes : List (List ℕ)) (root : List ℕ) → IsDiffOf root count steps leaves nodes → JoinTo (touched_or_new count steps) count (map Given leaves) nodes root
unfolding old_tree
of_diff count steps leaves nodes root diff = (diff.joins, diff.gives)

pub to_diff : (chosen : ℕ → Bool) (count : ℕ) (steps : List DiffStep) (inner leaves outer nodes : List (List ℕ)) (root : List ℕ) → chosen ≡ touched_or_new count steps → inner ≡ leaves → outer ≡ nodes
    → JoinTo chosen count (map Given inner) outer root → IsDiffOf root count steps leaves nodes
to_diff chosen count steps inner leaves outer nodes root is first second join =
    let here : JoinTo (touched_or_new count steps) count (map Given inner) outer root = subst (λ (c : ℕ → Bool). JoinTo c count (map Given inner) outer root) is join in
    let with_leaves : JoinTo (touched_or_new count steps) count (map Given leaves) outer root = subst (λ (hs : List (List ℕ)). JoinTo (touched_or_new count steps) count (map Given hs) outer root) first here in
    diff_of count steps leaves nodes root (subst (λ (hs : List (List ℕ)). JoinTo (touched_or_new count steps) count (map Given leaves) hs root) second with_leaves)

pub from_diff : (chosen : ℕ → Bool) (count : ℕ) (steps : List DiffStep) (inner leaves outer nodes : List (List ℕ)) (root : List ℕ) → chosen ≡ touched_or_new count steps → inner ≡ leaves → outer ≡ nodes
    → IsDiffOf root count steps leaves nodes → JoinTo chosen count (map Given inner) outer root
from_diff chosen count steps inner leaves outer nodes root is first second diff =
    let here : JoinTo chosen count (map Given leaves) nodes root = subst (λ (c : ℕ → Bool). JoinTo c count (map Given leaves) nodes root) (sym is) (of_diff count steps leaves nodes root diff) in
    let with_inner : JoinTo chosen count (map Given inner) nodes root = subst (λ (hs : List (List ℕ)). JoinTo chosen count (map Given hs) nodes root) (sym first) here in
    subst (λ (hs : List (List ℕ)). JoinTo chosen count (map Given inner) hs root) (sym second) with_inner

-- the untouched places are there before and after
untouched_by : (count : ℕ) (steps : List DiffStep) (place : ℕ) → (new touched : Bool) → nat_le count place ≡ new → nat_lt 0 (touch_count count steps place) ≡ touched → not (new || touched) ≡ true
    → (place < count) × (touch_count count steps place ≡ 0)
untouched_by count steps place true touched e f none = absurd (let no : false ≡ true = none in cc)
untouched_by count steps place false true e f none = absurd (let no : false ≡ true = none in cc)
untouched_by count steps place false false e f none = (leb-false _ _ e, let few : touch_count count steps place ≤ 0 = ltb-false _ _ f in omega arith)

pub untouched_at : (count : ℕ) (steps : List DiffStep) (place : ℕ) → others (touched_or_new count steps) place ≡ true → (place < count) × (touch_count count steps place ≡ 0)
unfolding is_touched
untouched_at count steps place e = untouched_by count steps place (nat_le count place) (nat_lt 0 (touch_count count steps place)) refl refl e

pub within_before : (count : ℕ) (steps : List DiffStep) → AreWithin (others (touched_or_new count steps)) count
within_before count steps = λ place e. (untouched_at count steps place e).0

pub within_after : (count : ℕ) (steps : List DiffStep) → AreWithin (others (touched_or_new count steps)) (count_after count steps)
within_after count steps = λ place e. (let at = untouched_at count steps place e in keeps_within count steps place at.0 at.1)

pub new_cover : (first second : ℕ → Bool) (count len : ℕ) (steps : List DiffStep) → first ≡ touched_or_new count steps → second ≡ touched_or_new count steps → len ≡ count_after count steps
    → length (cover (others first) count) ≡ length (cover (others second) len)
new_cover first second count len steps first_is second_is is =
    ap (λ (c : ℕ → Bool). length (cover (others c) count)) first_is
    ∙ ap length (cover_same (others (touched_or_new count steps)) count (count_after count steps) (within_before count steps) (within_after count steps))
    ∙ sym (ap (λ (c : ℕ → Bool). length (cover (others c) len)) second_is ∙ ap (λ n. length (cover (others (touched_or_new count steps)) n)) is)

-- how many hashes there are after the steps
pub moved_count : (chosen : ℕ → Bool) (count : ℕ) (steps : List DiffStep) (leaves hashes : List (List ℕ)) → list_all (λ counted. step_fits counted.count counted.step) (counted_steps count steps) ≡ true
    → hashes ≡ after (spread chosen (range_with_len 0 count) leaves) steps → length hashes ≡ count_after count steps
moved_count chosen count steps leaves hashes fits is =
    ap length is ∙ length_after (spread chosen (range_with_len 0 count) leaves) steps count (length_spread chosen (range_with_len 0 count) leaves ∙ length-range_with_len 0 count) fits

pub new_root : (first second : ℕ → Bool) (count len : ℕ) (steps : List DiffStep) (inner leaves outer nodes hashes chosen : List (List ℕ)) → first ≡ touched_or_new count steps → second ≡ touched_or_new count steps
    → len ≡ count_after count steps → inner ≡ leaves → outer ≡ nodes → hashes ≡ after (spread first (range_with_len 0 count) inner) steps → chosen ≡ hashes_at second hashes len
    → hash_of (joined_within second len len 0 (map Given chosen) outer) ≡ hash_of (new_tree count steps leaves nodes)
unfolding new_tree moved_hashes
new_root first second count len steps inner leaves outer nodes hashes chosen first_is second_is len_is leaves_is nodes_is hashes_is chosen_is =
    let all : hashes ≡ after (spread (touched_or_new count steps) (range_with_len 0 count) leaves) steps =
    hashes_is ∙ ap (λ (c : ℕ → Bool). after (spread c (range_with_len 0 count) inner) steps) first_is ∙ ap (λ hs. after (spread (touched_or_new count steps) (range_with_len 0 count) hs) steps) leaves_is in
    let own : chosen ≡ hashes_at (touched_or_new count steps) (after (spread (touched_or_new count steps) (range_with_len 0 count) leaves) steps) (count_after count steps) =
    chosen_is ∙ ap (λ (c : ℕ → Bool). hashes_at c hashes len) second_is ∙ ap (λ hs. hashes_at (touched_or_new count steps) hs len) all
    ∙ ap (hashes_at (touched_or_new count steps) (after (spread (touched_or_new count steps) (range_with_len 0 count) leaves) steps)) len_is in
    ap (λ (c : ℕ → Bool). hash_of (joined_within c len len 0 (map Given chosen) outer)) second_is
    ∙ ap (λ n. hash_of (joined_within (touched_or_new count steps) n n 0 (map Given chosen) outer)) len_is
    ∙ ap (λ hs. hash_of (joined_within (touched_or_new count steps) (count_after count steps) (count_after count steps) 0 (map Given hs) outer)) own
    ∙ ap (λ hs. hash_of (joined_within (touched_or_new count steps) (count_after count steps) (count_after count steps) 0
    (map Given (hashes_at (touched_or_new count steps) (after (spread (touched_or_new count steps) (range_with_len 0 count) leaves) steps) (count_after count steps))) hs)) nodes_is
