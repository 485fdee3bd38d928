use Rattle.std.proofs.Common.{◌≡◌, ◌+◌, ◌-◌, ◌*◌, ◌/◌, ◌^◌, ◌<◌, ◌≤◌, ◌++◌, length, map, ap, ap₂, sym, ◌∙◌, arith}
use Rattle.sia_ids.specs.Conditions.{segment_index}
use Rattle.sia_merkle.specs.Paths.{leaf_proof}
use Rattle.sia_merkle.specs.Roots.{leaf_count, leaf_digest, leaves_of}
use Rattle.sia_prover.specs.Proofs.{chosen_leaf}
use Rattle.sia_prover.proofs.Right.{placed, proof_is, right_made}
use Rattle.sia_prover.proofs.proof.make_proof.Goals as goal

pub overflow_sub-within : goal.overflow_sub-within
unfolding chosen_leaf
overflow_sub-within g c =
    let is : c.segment_index-index.result ≡ chosen_leaf c.args.trigger.now c.args.contract.now (length (g.N.Nodes.hashes c.args.roots.now)) (length c.args.sector.now) =
    c.segment_index-index.ensures.exact ∙ ap₂ (λ count leaves. segment_index c.args.trigger.now c.args.contract.now (count * leaves)) c.count.ensures c.leaves-sector_leaves.ensures in
    let wide : c.leaves-sector_leaves.result ≡ 2 ^ c.requires.sector.0 = c.leaves-sector_leaves.ensures ∙ ap leaf_count c.requires.sector.1 ∙ (omega arith) in
    (placed c.segment_index-index.result c.args.place c.requires.sector.0 c.leaves-sector_leaves.result wide (ap₂ (λ index leaves. index / leaves) is c.leaves-sector_leaves.ensures ∙ c.requires.chosen)).0

pub prove_leaf-requires : goal.prove_leaf-requires
unfolding chosen_leaf
prove_leaf-requires g c =
    let is : c.segment_index-index.result ≡ chosen_leaf c.args.trigger.now c.args.contract.now (length (g.N.Nodes.hashes c.args.roots.now)) (length c.args.sector.now) =
    c.segment_index-index.ensures.exact ∙ ap₂ (λ count leaves. segment_index c.args.trigger.now c.args.contract.now (count * leaves)) c.count.ensures c.leaves-sector_leaves.ensures in
    let wide : c.leaves-sector_leaves.result ≡ 2 ^ c.requires.sector.0 = c.leaves-sector_leaves.ensures ∙ ap leaf_count c.requires.sector.1 ∙ (omega arith) in
    let below = (placed c.segment_index-index.result c.args.place c.requires.sector.0 c.leaves-sector_leaves.result wide (ap₂ (λ index leaves. index / leaves) is c.leaves-sector_leaves.ensures ∙ c.requires.chosen)).1 in
    omega (arith, below, c.leaves-sector_leaves.ensures)

pub leaf_of-leaf-requires : goal.leaf_of-leaf-requires
unfolding chosen_leaf
leaf_of-leaf-requires g c =
    let is : c.segment_index-index.result ≡ chosen_leaf c.args.trigger.now c.args.contract.now (length (g.N.Nodes.hashes c.args.roots.now)) (length c.args.sector.now) =
    c.segment_index-index.ensures.exact ∙ ap₂ (λ count leaves. segment_index c.args.trigger.now c.args.contract.now (count * leaves)) c.count.ensures c.leaves-sector_leaves.ensures in
    let wide : c.leaves-sector_leaves.result ≡ 2 ^ c.requires.sector.0 = c.leaves-sector_leaves.ensures ∙ ap leaf_count c.requires.sector.1 ∙ (omega arith) in
    let below = (placed c.segment_index-index.result c.args.place c.requires.sector.0 c.leaves-sector_leaves.result wide (ap₂ (λ index leaves. index / leaves) is c.leaves-sector_leaves.ensures ∙ c.requires.chosen)).1 in
    omega (arith, below, c.requires.sector.1)

pub returns-clause-exact : goal.returns-clause-exact
unfolding chosen_leaf
returns-clause-exact g c =
    let is : c.segment_index-index.result ≡ chosen_leaf c.args.trigger.now c.args.contract.now (length (g.N.Nodes.hashes c.args.roots.now)) (length c.args.sector.now) =
    c.segment_index-index.ensures.exact ∙ ap₂ (λ count leaves. segment_index c.args.trigger.now c.args.contract.now (count * leaves)) c.count.ensures c.leaves-sector_leaves.ensures in
    proof_is c.args.sector.now c.args.trigger.now c.args.contract.now c.leaf_of-leaf.result (g.N.Nodes.hashes c.args.roots.now) c.append_path.new.hashes c.args.place (c.segment_index-index.result - c.args.place * c.leaves-sector_leaves.result)
    (ap₂ (λ index leaves. index - c.args.place * leaves) is c.leaves-sector_leaves.ensures) c.leaf_of-leaf.ensures
    (c.in_ok-append_path.ensures ∙ ap (λ first. first ++ leaf_proof (g.N.Nodes.hashes c.args.roots.now) c.args.place) c.in_ok-hashes.ensures)

pub returns-clause-right : goal.returns-clause-right
unfolding chosen_leaf
returns-clause-right g c = λ same.
    let is : c.segment_index-index.result ≡ chosen_leaf c.args.trigger.now c.args.contract.now (length (g.N.Nodes.hashes c.args.roots.now)) (length c.args.sector.now) =
    c.segment_index-index.ensures.exact ∙ ap₂ (λ count leaves. segment_index c.args.trigger.now c.args.contract.now (count * leaves)) c.count.ensures c.leaves-sector_leaves.ensures in
    let wide : c.leaves-sector_leaves.result ≡ 2 ^ c.requires.sector.0 = c.leaves-sector_leaves.ensures ∙ ap leaf_count c.requires.sector.1 ∙ (omega arith) in
    let spot = placed c.segment_index-index.result c.args.place c.requires.sector.0 c.leaves-sector_leaves.result wide (ap₂ (λ index leaves. index / leaves) is c.leaves-sector_leaves.ensures ∙ c.requires.chosen) in
    right_made (g.N.Nodes.hashes c.args.roots.now) c.append_path.new.hashes c.args.sector.now c.leaf_of-leaf.result c.requires.sector.0 c.args.place (c.segment_index-index.result - c.args.place * c.leaves-sector_leaves.result)
    c.segment_index-index.result _ c.requires.sector.1 c.requires.place (omega (arith, spot.1)) spot.2 is c.leaf_of-leaf.ensures
    (c.in_ok-append_path.ensures ∙ ap (λ first. first ++ leaf_proof (g.N.Nodes.hashes c.args.roots.now) c.args.place) c.in_ok-hashes.ensures) same
