use Rattle.std.proofs.Common.{◌≡◌, ◌∙◌, ◌+◌, ◌-◌, ◌++◌, ap, sym, drop, arith, count_by}
use Rattle.std.specs.List.{range_with_len}
use Rattle.sia_diff.specs.Chosen.{is_chosen}
use Rattle.sia_diff.specs.Diffs.{spread}
use Rattle.sia_diff.proofs.Moves.{spread_next, spread_done}
use Rattle.sia_diff.proofs.moving.spread_out.Goals as goal

pub loop-place-init : goal.loop-place-init
loop-place-init c =
    let whole : c.args.count - 0 ≡ c.args.count = omega arith in
    ap (λ front. front ++ spread (is_chosen c.args.chosen.now.old c.args.chosen.now.touched.now) (range_with_len 0 (c.args.count - 0)) c.args.leaves.now) c.new-hashes.ensures.items ∙ ap (λ n. spread (is_chosen c.args.chosen.now.old c.args.chosen.now.touched.now) (range_with_len 0 n) c.args.leaves.now) whole

pub loop-place-preserved : goal.loop-place-preserved
loop-place-preserved c =
    ap (λ front. front ++ spread (is_chosen c.args.chosen.now.old c.args.chosen.now.touched.now) (range_with_len (c.loop-place.place + 1) (c.args.count - (c.loop-place.place + 1))) (drop (count_by (is_chosen c.args.chosen.now.old c.args.chosen.now.touched.now) (range_with_len 0 (c.loop-place.place + 1))) c.args.leaves.now)) c.in_ok-push.ensures.items
    ∙ spread_next (is_chosen c.args.chosen.now.old c.args.chosen.now.touched.now) c.loop-place.place c.args.count c.args.leaves.now c.loop-place.hashes.items c.old_hash-hash.result c.loop-place-test.true c.requires c.old_hash-hash.ensures ∙ c.loop-place.invariant

pub returns : goal.returns
returns c = sym (spread_done (is_chosen c.args.chosen.now.old c.args.chosen.now.touched.now) c.loop-place.place c.args.count (drop (count_by (is_chosen c.args.chosen.now.old c.args.chosen.now.touched.now) (range_with_len 0 c.loop-place.place)) c.args.leaves.now) c.loop-place.hashes.items c.loop-place-test.false) ∙ c.loop-place.invariant
