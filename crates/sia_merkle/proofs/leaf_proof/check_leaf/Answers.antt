use Rattle.std.proofs.Common.{◌≡◌, false, ◌-◌, ◌*◌, min, take, length, arith, ap, ◌∙◌, sym}
use Rattle.std.proofs.lemmas.List.{take_min}
use Rattle.sia_merkle.specs.Paths.{cut_leaf, joined_upwards, sides}
use Rattle.sia_merkle.specs.Roots.{leaf_digest}
use Rattle.sia_merkle.proofs.Climbs.{judged, matched}
use Rattle.sia_merkle.proofs.leaf_proof.check_leaf.Goals as goal

pub returns-in-Some : goal.returns-in-Some
returns-in-Some c =
    let short : c.min-length.result ≡ min (c.args.size - 64 * c.args.place) (length c.args.leaf.now) = omega arith in
    let cut : take c.min-length.result c.args.leaf.now ≡ cut_leaf c.args.size c.args.place c.args.leaf.now = ap (λ n. take n c.args.leaf.now) short ∙ take_min (c.args.size - 64 * c.args.place) c.args.leaf.now in
    let both = judged c.args.root.now c.leaf_hash-below.result c.args.leaf.now c.args.size c.args.place c.args.hashes.now c.climb.result (omega arith)
    (c.leaf_hash-below.ensures ∙ ap leaf_digest cut) (c.climb.ensures ∙ ap (λ n. joined_upwards c.leaf_hash-below.result (sides 64 n c.args.place) c.args.hashes.now) c.leaves.ensures) in
    let answer : matched c.climb.result c.args.root.now ≡ c.eq.result = ap (λ f. matched f c.args.root.now) c.in-Some.is ∙ sym c.eq.ensures in
    ((λ yes. both.0 (answer ∙ yes)), (λ correct. sym answer ∙ both.1 correct))

pub returns-in-None : goal.returns-in-None
returns-in-None c =
    let short : c.min-length.result ≡ min (c.args.size - 64 * c.args.place) (length c.args.leaf.now) = omega arith in
    let cut : take c.min-length.result c.args.leaf.now ≡ cut_leaf c.args.size c.args.place c.args.leaf.now = ap (λ n. take n c.args.leaf.now) short ∙ take_min (c.args.size - 64 * c.args.place) c.args.leaf.now in
    let both = judged c.args.root.now c.leaf_hash-below.result c.args.leaf.now c.args.size c.args.place c.args.hashes.now c.climb.result (omega arith)
    (c.leaf_hash-below.ensures ∙ ap leaf_digest cut) (c.climb.ensures ∙ ap (λ n. joined_upwards c.leaf_hash-below.result (sides 64 n c.args.place) c.args.hashes.now) c.leaves.ensures) in
    let answer : matched c.climb.result c.args.root.now ≡ false = ap (λ f. matched f c.args.root.now) c.in-None.is in
    ((λ yes. both.0 (answer ∙ yes)), (λ correct. sym answer ∙ both.1 correct))
