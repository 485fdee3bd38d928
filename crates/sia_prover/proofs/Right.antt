-- A proof through a sector and the list of roots is right in the tree over all leaves.
use Rattle.std.proofs.Common.{◌≡◌, ℕ, suc, ◌+◌, ◌-◌, ◌*◌, ◌/◌, ◌^◌, ◌<◌, ◌≤◌, List, [], ◌∷◌, ◌++◌, length, map, take, drop, get_or, refl, sym, ◌∙◌, ap, ap₂, arith, length-append, length-take}
use Rattle.std.proofs.lemmas.List.{take_all}
use Rattle.std.proofs.Math.Nat.{mul-le-mul_right}
use Rattle.std.proofs.lemmas.Nat.{mod_below, pow_pos, shr_split}
use Rattle.std.specs.Prelude.{◌%◌}
use Rattle.sia_merkle.specs.Computations.{Tree, hash_of}
use Rattle.sia_merkle.specs.Computations.Tree.{Leaf}
use Rattle.sia_merkle.specs.Paths.{Side, beside, climbed, cut_leaf, leaf_proof, leaf_tree, path_of, sides, hashes_beside, IsCorrect}
use Rattle.sia_merkle.specs.Roots.{leaf_at, leaf_count, leaf_digest, leaves_of, node_root_of, root_of}
use Rattle.sia_merkle.proofs.Cuts.{length-leaf_hashes}
use Rattle.sia_merkle.proofs.LeafSoundness.{beside-count, own_leaf_root, own_root}
use Rattle.sia_merkle.proofs.Parts.{path_through}
use Rattle.sia_merkle.proofs.Trees.{lt_pow}
use Rattle.sia_types.specs.declared.file_contracts.StorageProof.{StorageProof}
use Rattle.sia_prover.specs.Proofs.{chosen_leaf, sector_proof}

-- a path in two parts
climbed_parts : (below : Tree) (path more : List Side) (hashes rest : List (List ℕ)) → length hashes ≡ length path → climbed below (path ++ more) (hashes ++ rest) ≡ climbed (climbed below path hashes) more rest
unfolding climbed
climbed_parts below [] more [] rest fits = refl
climbed_parts below [] more (hash ∷ hashes) rest fits = absurd (let none : suc (length hashes) ≡ 0 = fits in omega arith)
climbed_parts below (side ∷ path) more [] rest fits = absurd (let none : 0 ≡ suc (length path) = fits in omega arith)
climbed_parts below (side ∷ path) more (hash ∷ hashes) rest fits =
    let less : length hashes ≡ length path = let more : suc (length hashes) ≡ suc (length path) = fits in omega arith in
    climbed_parts (beside below side hash) path more hashes rest less

proof_count : (hashes : List (List ℕ)) (place : ℕ) → length (leaf_proof hashes place) ≡ length (path_of (length hashes) place)
unfolding path_of leaf_proof
proof_count hashes place = beside-count (length hashes) hashes place

-- the hashes beside the path of a hash, joined to what computes it
list_root : (below : Tree) (hashes : List (List ℕ)) (place : ℕ) → place < length hashes → hash_of below ≡ get_or hashes place [] → hash_of (climbed below (path_of (length hashes) place) (leaf_proof hashes place)) ≡ node_root_of hashes
unfolding path_of leaf_proof node_root_of
list_root below hashes place within is = own_root below (length hashes) hashes place (omega (arith, lt_pow (length hashes))) within is

all_leaves : (roots : List (List ℕ)) (sector : List ℕ) (level : ℕ) → length sector ≡ 64 * 2 ^ level → length roots * length sector ≡ 64 * (length roots * 2 ^ level)
all_leaves roots sector level whole = ap (λ n. length roots * n) whole ∙ (omega arith)

-- where a sector's root stands in the list, the proof of one of its leaves is right among all
pub right_proof : (roots : List (List ℕ)) (sector : List ℕ) (level place within index : ℕ) → length sector ≡ 64 * 2 ^ level → place < length roots → within < 2 ^ level → index ≡ place * 2 ^ level + within
    → get_or roots place [] ≡ root_of (leaves_of sector)
    → IsCorrect (node_root_of roots) (length roots * length sector) index (leaf_at sector within) (leaf_proof (map leaf_digest (leaves_of sector)) within ++ leaf_proof roots place)
right_proof roots sector level place within index whole inside below at is =
    let hashes = map leaf_digest (leaves_of sector) in
    let size : length roots * length sector ≡ 64 * (length roots * 2 ^ level) = all_leaves roots sector level whole in
    let count : leaf_count (length roots * length sector) ≡ length roots * 2 ^ level = ap leaf_count size ∙ (omega arith) in
    let in_sector : leaf_count (length sector) ≡ 2 ^ level = ap leaf_count whole ∙ (omega arith) in
    let through : path_of (leaf_count (length roots * length sector)) index ≡ path_of (2 ^ level) within ++ path_of (length roots) place =
    ap₂ path_of count at ∙ path_through level (length roots) place within inside below in
    let first_count : length (leaf_proof hashes within) ≡ length (path_of (2 ^ level) within) = proof_count hashes within ∙ ap (λ n. length (path_of n within)) (length-leaf_hashes sector ∙ in_sector) in
    let product : (place + 1) * 2 ^ level ≤ length roots * 2 ^ level = mul-le-mul_right (2 ^ level) (let next : place + 1 ≤ length roots = omega arith in next) in
    let apart : (place + 1) * 2 ^ level ≡ place * 2 ^ level + 2 ^ level = omega arith in
    let cut : cut_leaf (length roots * length sector) index (leaf_at sector within) ≡ leaf_at sector within =
    take_all (length roots * length sector - 64 * index) (leaf_at sector within) (omega (arith, length-take 64 (drop (64 * within) sector))) in
    let sector_tree = climbed (Leaf (leaf_at sector within)) (path_of (2 ^ level) within) (leaf_proof hashes within) in
    let sector_root : hash_of sector_tree ≡ get_or roots place [] =
    ap (λ n. hash_of (climbed (Leaf (leaf_at sector within)) (path_of n within) (leaf_proof hashes within))) (sym in_sector) ∙ own_leaf_root sector within (omega arith) ∙ sym is in
    record {
      used = length-append (leaf_proof hashes within) (leaf_proof roots place) ∙ ap₂ (λ m n. m + n) first_count (proof_count roots place)
          ∙ sym (ap length through ∙ length-append (path_of (2 ^ level) within) (path_of (length roots) place));
      joined = ap (λ leaf. hash_of (climbed (Leaf leaf) (path_of (leaf_count (length roots * length sector)) index) (leaf_proof hashes within ++ leaf_proof roots place))) cut
          ∙ ap (λ path. hash_of (climbed (Leaf (leaf_at sector within)) path (leaf_proof hashes within ++ leaf_proof roots place))) through
          ∙ ap hash_of (climbed_parts (Leaf (leaf_at sector within)) (path_of (2 ^ level) within) (path_of (length roots) place) (leaf_proof hashes within) (leaf_proof roots place) first_count)
          ∙ list_root sector_tree roots place inside sector_root;
    }

-- where a leaf stands in its sector
pub placed : (index place level leaves : ℕ) → leaves ≡ 2 ^ level → index / leaves ≡ place → (place * leaves ≤ index) × (index - place * leaves < leaves) × (index ≡ place * 2 ^ level + (index - place * leaves))
placed index place level leaves wide at =
    let whole : index / 2 ^ level * 2 ^ level + index % 2 ^ level ≡ index = shr_split index level in
    let below : index % 2 ^ level < 2 ^ level = mod_below index (2 ^ level) (pow_pos level) in
    let there : place * 2 ^ level ≡ index / 2 ^ level * 2 ^ level = ap (λ p. p * 2 ^ level) (sym at ∙ ap (λ w. index / w) wide) in
    let same : place * leaves ≡ place * 2 ^ level = ap (λ w. place * w) wide in
    (omega arith, omega arith, omega arith)

-- the proof, by its parts
pub proof_is : (sector trigger contract leaf : List ℕ) (roots hashes : List (List ℕ)) (place within : ℕ) → within ≡ chosen_leaf trigger contract (length roots) (length sector) - place * leaf_count (length sector)
    → leaf ≡ leaf_at sector within → hashes ≡ leaf_proof (map leaf_digest (leaves_of sector)) within ++ leaf_proof roots place
    → ◌≡◌ {A = StorageProof} (record { parent = contract; leaf = leaf; hashes = hashes }) (sector_proof sector place roots trigger contract)
unfolding sector_proof
proof_is sector trigger contract leaf roots hashes place within is leaf_is hashes_are = rw (leaf_is, hashes_are, is) refl

pub right_made : (roots hashes : List (List ℕ)) (sector leaf : List ℕ) (level place within index chosen : ℕ) → length sector ≡ 64 * 2 ^ level → place < length roots → within < 2 ^ level → index ≡ place * 2 ^ level + within
    → index ≡ chosen → leaf ≡ leaf_at sector within → hashes ≡ leaf_proof (map leaf_digest (leaves_of sector)) within ++ leaf_proof roots place
    → get_or roots place [] ≡ root_of (leaves_of sector) → IsCorrect (node_root_of roots) (length roots * length sector) chosen leaf hashes
right_made roots hashes sector leaf level place within index chosen whole inside below at is leaf_is hashes_are same =
    rw (leaf_is, hashes_are, ← is) (right_proof roots sector level place within index whole inside below at same)
