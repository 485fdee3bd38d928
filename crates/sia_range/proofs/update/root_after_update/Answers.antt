use Rattle.std.proofs.Common.{ℕ, List, map, ap, sym, ◌∙◌, refl, subst}
use Rattle.sia_merkle.specs.Computations.{hash_of}
use Rattle.sia_merkle.specs.Computations.Tree.{Given}
use Rattle.sia_merkle.specs.Roots.{leaf_digest, leaves_of}
use Rattle.sia_merkle.specs.Segments.{joined_within, places_between}
use Rattle.sia_merkle.proofs.Cuts.{length-leaf_hashes}
use Rattle.sia_cover.specs.Joined.{SegmentsJoinTo}
use Rattle.sia_range.proofs.Judging.{joined_is, leaf_trees, of_segments}
use Rattle.sia_range.proofs.RangePlaces.{places_count}
use Rattle.sia_range.proofs.update.root_after_update.Goals as goal

pub join-requires-clause-row : goal.join-requires-clause-row
join-requires-clause-row c = length-leaf_hashes c.args.bytes.now ∙ c.requires.leaves ∙ sym (places_count c.args.a c.args.b c.args.n c.requires.within)

pub returns-clause-accepted : goal.returns-clause-accepted
returns-clause-accepted c =
    let both = of_segments c.args.old.now c.args.n c.args.a c.args.b c.args.proof.now.inner c.args.proof.now.outer in
    let found = c.segments_join_to.ensures.0 c.if-not-segments_join_to.false in
    let inner = subst (λ (roots : List (List ℕ)). SegmentsJoinTo (places_between c.args.a c.args.b) c.args.n roots c.as_slice-outer.result.now c.args.old.now) c.as_slice.ensures found in
    let joins = subst (λ (roots : List (List ℕ)). SegmentsJoinTo (places_between c.args.a c.args.b) c.args.n c.args.proof.now.inner roots c.args.old.now) c.as_slice-outer.ensures inner in
    ((λ yes. both.0 joins), (λ proof. refl))

pub returns-clause-root : goal.returns-clause-root
returns-clause-root c =
    let trees = map Given (map leaf_digest (leaves_of c.args.bytes.now)) in
    c.join.ensures ∙ ap (λ outer. hash_of (joined_within (places_between c.args.a c.args.b) c.args.n c.args.n 0 trees outer)) c.as_slice-outer.ensures
    ∙ sym (ap hash_of (joined_is c.args.n c.args.a c.args.b trees c.args.proof.now.outer))
    ∙ leaf_trees c.args.n c.args.a c.args.b (leaves_of c.args.bytes.now) c.args.proof.now.outer
