use Rattle.std.proofs.Common.{◌≡◌, ◌&&◌, ◌||◌, ℕ, Bool, List, Option, All, drop, arith, sym, subst, ap, ◌∙◌}
use Rattle.std.specs.Prelude.{option_copied}
use Rattle.std.specs.List.{filter}
use Rattle.sia_host.specs.Jobs.{in_order, is_above, is_due, next_after, due_contracts}
use Rattle.sia_host.specs.Least.{least_by}
use Rattle.sia_kept.specs.State.{IsStored, Kept}
use Rattle.sia_host.specs.Answered.{Host}
use Rattle.sia_host.proofs.Askings.{found_due}
use Rattle.sia_host.proofs.Walked.{walk_begins, walk_ends, walked_fit, walked_over}
use Rattle.sia_host.proofs.host_core.Core.next_due_contract.Goals as goal

-- what is found is the next due one
found_next : (h : Host) (id : List ℕ) (first : Bool) (contracts : List Kept) (found : Option Kept) (i : ℕ) → i ≡ 0
    → found ≡ least_by (λ (x : Kept). x.id) (λ (x : Kept). is_due h x && (first || is_above x.id id)) (drop i contracts) → contracts ≡ h.state.contracts → found ≡ next_after id first (due_contracts h)
unfolding due_contracts
found_next h id first contracts found i at is all =
    let whole = λ (n : ℕ). least_by (λ (x : Kept). x.id) (λ (x : Kept). is_due h x && (first || is_above x.id id)) (drop n contracts) in
    walk_ends (λ (x : Kept). x.id) (λ (x : Kept). first || is_above x.id id) (is_due h) contracts found (is ∙ ap whole at)
    ∙ ap (λ xs. next_after id first (filter (is_due h) (in_order xs))) all

pub loop-i-init : goal.loop-i-init
loop-i-init c = walk_begins (λ (x : Kept). x.id) (λ (x : Kept). is_due c.args.self.now x && (c.args.first || is_above x.id c.args.id.now)) c.as_slice-contracts.result.now

pub loop-i-preserved-then-branch : goal.loop-i-preserved-then-branch
loop-i-preserved-then-branch c =
    walked_fit (λ (x : Kept). x.id) (λ (x : Kept). is_due c.args.self.now x && (c.args.first || is_above x.id c.args.id.now)) c.as_slice-contracts.result.now c.loop-i.i c.index-contracts-i.result _ (option_copied c.loop-i.found) (option_copied c.lesser-found.result) (omega arith) (omega arith) c.index-contracts-i.is
    (sym c.in_ok-is_due_behind.ensures ∙ c.if-branch.true)
    c.loop-i.invariant c.lesser-found.ensures

pub loop-i-preserved : goal.loop-i-preserved
loop-i-preserved c =
    walked_over (λ (x : Kept). x.id) (λ (x : Kept). is_due c.args.self.now x && (c.args.first || is_above x.id c.args.id.now)) c.as_slice-contracts.result.now c.loop-i.i c.index-contracts-i.result _ (option_copied c.loop-i.found) (omega arith) (omega arith) c.index-contracts-i.is
    (sym c.in_ok-is_due_behind.ensures ∙ c.if-branch.false)
    c.loop-i.invariant

pub returns-clause-exact : goal.returns-clause-exact
returns-clause-exact c =
    found_next c.args.self.now c.args.id.now c.args.first c.as_slice-contracts.result.now (option_copied c.loop-i.found) c.loop-i.i (omega arith) c.loop-i.invariant (c.as_slice-contracts.ensures ∙ ap (λ (h : Host). h.state.contracts) c.self.view_is)

pub returns-clause-ready : goal.returns-clause-ready
returns-clause-ready c =
    found_due c.args.self.now c.args.id.now c.args.first (option_copied c.loop-i.found) (subst (λ (h : Host). All (IsStored h.settings.sector h.settings.host_key) h.state.contracts) c.self.view_is c.self.invariant.0.stored)
    (found_next c.args.self.now c.args.id.now c.args.first c.as_slice-contracts.result.now (option_copied c.loop-i.found) c.loop-i.i (omega arith) c.loop-i.invariant (c.as_slice-contracts.ensures ∙ ap (λ (h : Host). h.state.contracts) c.self.view_is))
