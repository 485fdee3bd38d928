-- What is read off what a ledger keeps: identifiers, and sums that have no more than 128 bits.
use Rattle.std.proofs.Common.{◌≡◌, ℕ, ◌+◌, ◌-◌, ◌^◌, ◌<◌, ◌≤◌, Bool, true, false, List, [], ◌∷◌, ◌++◌, length, map, refl, ap, sym, ◌∙◌, arith, append_assoc}
use Rattle.std.specs.Prelude.{fold, nat_lt, Option, None, if◌then◌else◌}
use Rattle.sia_types.specs.declared.block.Block.{Block}
use Rattle.sia_ids.specs.Identifiers.{block_id, genesis_id}
use Rattle.sia_rules.specs.Amounts.{issued}
use Rattle.sia_rules.proofs.Issue.{issued-fits}
use Rattle.sia_ledger.specs.declared.fact.Fact.{Fact}
use Rattle.sia_ledger.specs.declared.fact.Deed.{Deed}
use Rattle.sia_ledger.specs.declared.fact.Deed.TheVariants as deed
use Rattle.sia_ledger.specs.Chain.{Chain, height}
use Rattle.sia_ledger.specs.Facts.{is_known}
use Rattle.sia_ledger.specs.State.{State}
use Rattle.sia_ledger.specs.Blocks.{after_block, genesis_state, state_of, facts}
use Rattle.sia_ledger.specs.Holdings.{ids, held, coins_of, resting_at, outputs, immature, escrow, unclaimed}
use Rattle.sia_ledger.specs.Bounded.{Totals}
use Rattle.sia_ledger.specs.Kept.{IsKept}
use Rattle.sia_ledger.specs.Paying.{total}
use Rattle.sia_ledger.proofs.Bounds.{kept_whole}
use Rattle.sia_ledger.proofs.Conserved.{genesis_ids}
use Rattle.sia_ledger.proofs.Grown.{after_is}
use Rattle.sia_ledger.proofs.Held.{held-cons, held-nil}

blocks_ids : (maturity : ℕ) (blocks : List Block) (s : State) → (fold (after_block maturity) s blocks).ids ≡ s.ids ++ map block_id blocks
blocks_ids maturity [] s = none s.ids
  where
    none : (all : List (List ℕ)) → all ≡ all ++ []
    none [] = refl
    none (id ∷ all) = ap (λ (rest : List (List ℕ)). id ∷ rest) (none all)
blocks_ids maturity (block ∷ blocks) s =
    let one : (after_block maturity s block).ids ≡ s.ids ++ block_id block ∷ [] = ap (λ (t : State). t.ids) (after_is maturity s block) in
    blocks_ids maturity blocks (after_block maturity s block) ∙ ap (λ (front : List (List ℕ)). front ++ map block_id blocks) one ∙ append_assoc s.ids (block_id block ∷ []) (map block_id blocks)

state_ids : (chain : Chain) → (state_of chain).ids ≡ ids chain
unfolding state_of
state_ids chain = blocks_ids chain.maturity chain.blocks (genesis_state chain.funds) ∙ ap (λ (front : List (List ℕ)). front ++ map block_id chain.blocks) (genesis_ids chain.funds)

-- the identifiers that are kept are the chain's
pub kept_ids : (chain : Chain) (all : List (List ℕ)) (made : List Fact) (marks : List ℕ) → IsKept chain all made marks → all ≡ ids chain
kept_ids chain all made marks kept = ap (λ (s : State). s.ids) (sym kept.state) ∙ state_ids chain

-- the facts that are kept are the chain's
pub kept_facts : (chain : Chain) (all : List (List ℕ)) (made : List Fact) (marks : List ℕ) → IsKept chain all made marks → made ≡ facts chain
kept_facts chain all made marks kept = ap (λ (s : State). s.facts) (sym kept.state)

resting-le : (height : ℕ) (what : Deed) → resting_at height what ≤ coins_of what
resting-le height deed.Block = omega arith
resting-le height (deed.Coin output from) = by (nat_lt height from)
  where
    by : (b : Bool) → (if b then output.value else 0) ≤ output.value
    by true = omega arith
    by false = omega arith
resting-le height (deed.Fund output) = omega arith
resting-le height (deed.Formed terms) = omega arith
resting-le height deed.Spent = omega arith
resting-le height (deed.Revised terms) = omega arith
resting-le height (deed.Settled valid) = omega arith

-- what rests is no more than all outputs
pub immature-le : (height : ℕ) (made : List Fact) → immature height made ≤ outputs made
immature-le height [] = omega (arith, held-nil (resting_at height), held-nil coins_of)
immature-le height (x ∷ made) = by (is_known made x.id) (held-cons (resting_at height) x made) (held-cons coins_of x made) (immature-le height made)
  where
    by : (b : Bool) → immature height (x ∷ made) ≡ (if b then 0 else resting_at height x.deed) + immature height made → outputs (x ∷ made) ≡ (if b then 0 else coins_of x.deed) + outputs made → immature height made ≤ outputs made → immature height (x ∷ made) ≤ outputs (x ∷ made)
    by true one other rest = omega (arith, one, other, rest)
    by false one other rest = omega (arith, one, other, rest, resting-le height x.deed)

-- what is kept holds what was issued
pub kept_totals : (chain : Chain) (all : List (List ℕ)) (made : List Fact) (marks : List ℕ) → IsKept chain all made marks → Totals chain made
kept_totals chain all made marks kept =
    let most = kept_whole chain all made marks kept in
    let whole = most.whole refl in
    let same : outputs made + escrow made + unclaimed made ≡ issued (height chain) = omega (arith, whole.holds) in
    let fits = issued-fits (height chain) kept.low in
    record {
      conserved = same;
      issued_fits = fits;
      outputs_fit = omega (arith, same, fits);
      escrow_fits = omega (arith, same, fits);
      unclaimed_fits = omega (arith, same, fits);
      immature_fits = λ at. omega (arith, same, fits, immature-le at made);
    }
