use Rattle.std.proofs.Common.{◌≡◌, ◌&&◌, ◌||◌, ℕ, drop, arith, sym, ap, ◌∙◌}
use Rattle.std.specs.Prelude.{option_copied}
use Rattle.std.specs.List.{filter}
use Rattle.sia_host.specs.Jobs.{in_order, is_above, is_stale, next_after, stale_contracts}
use Rattle.sia_host.specs.Least.{least_by}
use Rattle.sia_kept.specs.State.{Kept}
use Rattle.sia_host.specs.Answered.{Host}
use Rattle.sia_host.proofs.Walked.{walk_begins, walk_ends, walked_fit, walked_over}
use Rattle.sia_host.proofs.host_core.Core.next_stale_contract.Goals as goal

pub loop-i-init : goal.loop-i-init
loop-i-init c = walk_begins (λ (x : Kept). x.id) (λ (x : Kept). is_stale c.args.self.now x && (c.args.first || is_above x.id c.args.id.now)) c.as_slice-contracts.result.now

pub loop-i-preserved-then-branch : goal.loop-i-preserved-then-branch
loop-i-preserved-then-branch c =
    walked_fit (λ (x : Kept). x.id) (λ (x : Kept). is_stale c.args.self.now x && (c.args.first || is_above x.id c.args.id.now)) c.as_slice-contracts.result.now c.loop-i.i c.index-contracts-i.result _ (option_copied c.loop-i.found) (option_copied c.lesser-found.result) (omega arith) (omega arith) c.index-contracts-i.is
    (sym c.in_ok-is_stale_behind.ensures ∙ c.if-branch.true)
    c.loop-i.invariant c.lesser-found.ensures

pub loop-i-preserved : goal.loop-i-preserved
loop-i-preserved c =
    walked_over (λ (x : Kept). x.id) (λ (x : Kept). is_stale c.args.self.now x && (c.args.first || is_above x.id c.args.id.now)) c.as_slice-contracts.result.now c.loop-i.i c.index-contracts-i.result _ (option_copied c.loop-i.found) (omega arith) (omega arith) c.index-contracts-i.is
    (sym c.in_ok-is_stale_behind.ensures ∙ c.if-branch.false)
    c.loop-i.invariant

pub returns : goal.returns
unfolding stale_contracts
returns c =
    walk_ends (λ (x : Kept). x.id) (λ (x : Kept). c.args.first || is_above x.id c.args.id.now) (is_stale c.args.self.now) c.as_slice-contracts.result.now (option_copied c.loop-i.found) (first c.loop-i.i (omega arith) c.loop-i.invariant)
    ∙ ap (λ xs. next_after c.args.id.now c.args.first (filter (is_stale c.args.self.now) (in_order xs))) (c.as_slice-contracts.ensures ∙ ap (λ (h : Host). h.state.contracts) c.self.view_is)
  where
    first : (i : ℕ) → i ≡ 0 → option_copied c.loop-i.found ≡ least_by (λ (x : Kept). x.id) (λ (x : Kept). is_stale c.args.self.now x && (c.args.first || is_above x.id c.args.id.now)) (drop i c.as_slice-contracts.result.now)
        → option_copied c.loop-i.found ≡ least_by (λ (x : Kept). x.id) (λ (x : Kept). is_stale c.args.self.now x && (c.args.first || is_above x.id c.args.id.now)) c.as_slice-contracts.result.now
    first i at found = found ∙ ap (λ n. least_by (λ (x : Kept). x.id) (λ (x : Kept). is_stale c.args.self.now x && (c.args.first || is_above x.id c.args.id.now)) (drop n c.as_slice-contracts.result.now)) at
