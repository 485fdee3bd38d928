use Rattle.std.proofs.Common.{◌≡◌, ◌∙◌, ◌+◌, ◌-◌, ℕ, List, ap, sym, drop}
use Rattle.std.proofs.lemmas.Bool.{ltb-true}
use Rattle.sia_ledger.specs.Chain.{Chain, height}
use Rattle.sia_ledger.specs.Holdings.{immature}
use Rattle.sia_ledger.proofs.Grown.{kept_count}
use Rattle.sia_ledger.proofs.Resting.{mark_within, rests_behind, rests_nowhere}
use Rattle.sia_ledger.proofs.Totals.{kept_facts}
use Rattle.sia_ledger.proofs.ledger.Ledger.young.Goals as goal

pub split_at-requires : goal.split_at-requires
split_at-requires c =
    let low = ltb-true _ _ (sym (rw c.as_slice.ensures at c.in-Some.ensures.lookup.0)) in
    rw c.as_slice-in-Some.ensures (mark_within _ _ _ _ c.saturating_sub-first.result c.in-Some.mark.now c.self.invariant low (rw c.as_slice.ensures at c.in-Some.ensures.lookup.1))

pub returns-in-None : goal.returns-in-None
returns-in-None c =
    let chain : Chain = record { maturity = c.self.inside.maturity; funds = c.self.inside.funds; blocks = c.self.inside.blocks } in
    let first = c.saturating_sub-first.ensures ∙ ap (λ n. n - c.self.inside.maturity) (c.len.ensures ∙ kept_count chain _ _ _ c.self.invariant) in
    rw (← c.self.view_is)
    (rests_nowhere chain _ _ _ c.saturating_sub-first.result c.self.invariant first (rw c.as_slice.ensures at c.in-None.ensures.lookup.0)
    ∙ ap (immature (height chain + 1)) (kept_facts chain _ _ _ c.self.invariant))

pub returns-in-Some : goal.returns-in-Some
returns-in-Some c =
    let chain : Chain = record { maturity = c.self.inside.maturity; funds = c.self.inside.funds; blocks = c.self.inside.blocks } in
    let first = c.saturating_sub-first.ensures ∙ ap (λ n. n - c.self.inside.maturity) (c.len.ensures ∙ kept_count chain _ _ _ c.self.invariant) in
    let low = ltb-true _ _ (sym (rw c.as_slice.ensures at c.in-Some.ensures.lookup.0)) in
    let behind = c.split_at.ensures.back ∙ ap (drop c.in-Some.mark.now) c.as_slice-in-Some.ensures in
    rw (← c.self.view_is)
    (ap (immature (height chain + 1)) behind
    ∙ rests_behind chain _ _ _ c.saturating_sub-first.result c.in-Some.mark.now c.self.invariant first low (rw c.as_slice.ensures at c.in-Some.ensures.lookup.1)
    ∙ ap (immature (height chain + 1)) (kept_facts chain _ _ _ c.self.invariant))
