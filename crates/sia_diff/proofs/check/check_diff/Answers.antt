use Rattle.std.proofs.Common.{◌≡◌, ◌∙◌, true, false, ap, sym, refl, length}
use Rattle.std.proofs.lemmas.List.{length-map}
use Rattle.sia_merkle.specs.Computations.Tree.{Given}
use Rattle.sia_cover.specs.Joined.{count_below}
use Rattle.sia_diff.specs.Chosen.{is_chosen}
use Rattle.sia_diff.specs.Diffs.{hashes_at}
use Rattle.sia_diff.specs.DiffSteps.{count_after}
use Rattle.sia_diff.proofs.Fit.{fit_done}
use Rattle.sia_diff.proofs.Listed.{are_places, chosen_is}
use Rattle.sia_diff.proofs.Moves.{at_count}
use Rattle.sia_diff.proofs.Verdicts.{to_diff, from_diff, moved_count, new_cover, new_root}
use Rattle.sia_diff.proofs.check.check_diff.Goals as goal

pub invariant_of-chosen : goal.invariant_of-chosen
invariant_of-chosen c = record { places = are_places c.args.n c.args.steps.now c.as_slice.result.now (c.as_slice.ensures ∙ c.in_ok-touched.ensures) }

pub returns-then-not-joins_to-clause-accepted : goal.returns-then-not-joins_to-clause-accepted
returns-then-not-joins_to-clause-accepted c =
    let chosen = chosen_is c.args.n c.args.steps.now c.as_slice.result.now (c.as_slice.ensures ∙ c.in_ok-touched.ensures) in (
      (λ yes. absurd (let no : false ≡ true = yes in cc)),
      (λ diff. sym c.if-not-joins_to.true ∙ c.joins_to.ensures.1
          (from_diff (is_chosen c.args.n c.as_slice.result.now) c.args.n c.args.steps.now c.as_slice-leaves.result.now c.args.proof.now.leaves c.as_slice-nodes.result.now c.args.proof.now.nodes c.args.old.now
          chosen c.as_slice-leaves.ensures c.as_slice-nodes.ensures diff)),
    )

pub moved-requires-clause-leaves : goal.moved-requires-clause-leaves
moved-requires-clause-leaves c =
    let join = c.joins_to.ensures.0 c.if-not-joins_to.false in
    sym (length-map c.as_slice-leaves.result.now Given) ∙ join.0.places

pub moved-requires-clause-fits : goal.moved-requires-clause-fits
moved-requires-clause-fits c = fit_done c.args.n c.args.steps.now c.requires.fit

pub join-requires-clause-row : goal.join-requires-clause-row
join-requires-clause-row c =
    let same : length c.as_slice-2.result.now ≡ c.len-count.result = ap length c.as_slice-2.ensures ∙ sym c.len-count.ensures in
    ap length (c.as_slice-3.ensures ∙ c.in_ok-inner.ensures) ∙ at_count (is_chosen c.args.n c.as_slice.result.now) c.as_slice-2.result.now (length c.as_slice-2.result.now) ∙ ap (count_below (is_chosen c.args.n c.as_slice.result.now)) same

pub join-requires-clause-outer : goal.join-requires-clause-outer
join-requires-clause-outer c =
    let fits = fit_done c.args.n c.args.steps.now c.requires.fit in
    let len : c.len-count.result ≡ count_after c.args.n c.args.steps.now =
    c.len-count.ensures ∙ moved_count (is_chosen c.args.n c.as_slice.result.now) c.args.n c.args.steps.now c.as_slice-leaves.result.now c.in_ok-hashes.hashes fits c.in_ok-hashes.ensures in
    let join = c.joins_to.ensures.0 c.if-not-joins_to.false in
    let chosen = chosen_is c.args.n c.args.steps.now c.as_slice.result.now (c.as_slice.ensures ∙ c.in_ok-touched.ensures) in
    join.0.segments
    ∙ new_cover (is_chosen c.args.n c.as_slice.result.now) (is_chosen c.args.n c.as_slice.result.now) c.args.n c.len-count.result c.args.steps.now chosen chosen len

pub returns-clause-accepted : goal.returns-clause-accepted
returns-clause-accepted c =
    let chosen = chosen_is c.args.n c.args.steps.now c.as_slice.result.now (c.as_slice.ensures ∙ c.in_ok-touched.ensures) in (
      (λ yes. to_diff (is_chosen c.args.n c.as_slice.result.now) c.args.n c.args.steps.now c.as_slice-leaves.result.now c.args.proof.now.leaves c.as_slice-nodes.result.now c.args.proof.now.nodes c.args.old.now
          chosen c.as_slice-leaves.ensures c.as_slice-nodes.ensures (c.joins_to.ensures.0 c.if-not-joins_to.false)),
      (λ diff. refl),
    )

pub returns-clause-root : goal.returns-clause-root
returns-clause-root c =
    let fits = fit_done c.args.n c.args.steps.now c.requires.fit in
    let len : c.len-count.result ≡ count_after c.args.n c.args.steps.now =
    c.len-count.ensures ∙ moved_count (is_chosen c.args.n c.as_slice.result.now) c.args.n c.args.steps.now c.as_slice-leaves.result.now c.in_ok-hashes.hashes fits c.in_ok-hashes.ensures in
    let chosen = chosen_is c.args.n c.args.steps.now c.as_slice.result.now (c.as_slice.ensures ∙ c.in_ok-touched.ensures) in
    let same : length c.as_slice-2.result.now ≡ c.len-count.result = ap length c.as_slice-2.ensures ∙ sym c.len-count.ensures in
    c.join.ensures
    ∙ new_root (is_chosen c.args.n c.as_slice.result.now) (is_chosen c.args.n c.as_slice.result.now) c.args.n c.len-count.result c.args.steps.now c.as_slice-leaves.result.now c.args.proof.now.leaves
    c.as_slice-nodes.result.now c.args.proof.now.nodes c.as_slice-2.result.now c.as_slice-3.result.now chosen chosen len c.as_slice-leaves.ensures c.as_slice-nodes.ensures
    (c.as_slice-2.ensures ∙ c.in_ok-hashes.ensures) (c.as_slice-3.ensures ∙ c.in_ok-inner.ensures ∙ ap (hashes_at (is_chosen c.args.n c.as_slice.result.now) c.as_slice-2.result.now) same)
