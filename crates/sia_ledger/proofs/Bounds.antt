-- What a chain holds inside a block has no more than 128 bits.
use Rattle.std.proofs.Common.{◌≡◌, ℕ, ◌+◌, ◌^◌, ◌<◌, ◌≤◌, Bool, false, List, [], ◌∷◌, ◌++◌, length, refl, ap, sym, ◌∙◌, arith, subst}
use Rattle.std.specs.Prelude.{fold, Option, None}
use Rattle.std.specs.List.{list_any}
use Rattle.std.specs.Str.{bytes_eq}
use Rattle.sia_encoding.specs.Firsts.{first_at}
use Rattle.sia_types.specs.declared.block.Block.{Block}
use Rattle.sia_types.specs.declared.funds.FundInput.{FundInput}
use Rattle.sia_types.specs.declared.transaction.Transaction.{Transaction}
use Rattle.sia_rules.specs.Amounts.{issued}
use Rattle.sia_rules.specs.Shape.{repeated, names_twice, fund_parents}
use Rattle.sia_rules.specs.Sums.{coin_sum, coins_out, payouts_of, fees_of}
use Rattle.sia_rules.proofs.Issue.{issued-fits}
use Rattle.sia_ledger.specs.declared.fact.Fact.{Fact}
use Rattle.sia_ledger.specs.Bounded.{IsMost, IsBounded, ClaimsFit}
use Rattle.sia_ledger.specs.Chain.{Chain, height}
use Rattle.sia_ledger.specs.Facts.{spent, claim_at}
use Rattle.sia_ledger.specs.State.{State}
use Rattle.sia_ledger.specs.Effects.{after_transaction, with_fund_input}
use Rattle.sia_ledger.specs.Blocks.{with_block, state_of}
use Rattle.sia_ledger.specs.Holdings.{unclaimed}
use Rattle.sia_ledger.specs.Rules.{no_coin, no_fund, coins_in, funds_in}
use Rattle.sia_ledger.specs.Refusal.{transaction_refusal}
use Rattle.sia_ledger.specs.Paying.{AllPay, total}
use Rattle.sia_ledger.specs.Kept.{IsKept}
use Rattle.sia_ledger.proofs.Claims.{unclaimed-push}
use Rattle.sia_ledger.proofs.Conserved.{PassesAll, proved_contracts, transaction_passes, transaction_most, own_most, chain_whole, wholly_most}
use Rattle.sia_ledger.proofs.Stages.{LiveFunds, or_both, spend_coins, spend_funds, spend_fund_input}
use Rattle.sia_ledger.proofs.Standing.{live_coins, live_funds, once}

-- the siacoin inputs bring no more than is there
pub coins_fit : (s : State) (t : ℕ) (tx : Transaction) → IsBounded s → repeated t tx ≡ None → first_at (no_coin s.facts t) 0 tx.coin_inputs ≡ None → coins_in s.facts tx < 2 ^ 128
unfolding coins_in
coins_fit s t tx (fees, sum, fits, most) single live =
    let spends = spend_coins tx.coin_inputs s (coins_in s.facts tx) (live_coins s.facts t 0 tx.coin_inputs live) (once t tx single).0 most.pays in
    omega (arith, fits, most.holds, spends.does.most.holds)

-- the siafund inputs bring no more than all siafunds
pub funds_fit : (s : State) (t : ℕ) (tx : Transaction) → IsBounded s → repeated t tx ≡ None → first_at (no_fund s.facts t) 0 tx.fund_inputs ≡ None → funds_in s.facts tx < 2 ^ 128
unfolding funds_in
funds_fit s t tx (fees, sum, fits, most) single live =
    let spends = spend_funds 0 tx.fund_inputs s (funds_in s.facts tx) (live_funds s.facts t 0 tx.fund_inputs live) (once t tx single).1 most.pays in
    omega (arith, most.funds, spends.does.most.funds)

-- a transaction that breaks no rule keeps the bound
pub bounded_after : (accepts : List ℕ → List ℕ → List ℕ → Bool) (maturity : ℕ) (s : State) (t : ℕ) (tx : Transaction) → IsBounded s → transaction_refusal accepts s t tx ≡ None → IsBounded (after_transaction maturity s tx)
bounded_after accepts maturity s t tx (fees, sum, fits, most) none = (fees + fees_of tx, sum, fits, transaction_most accepts maturity s t tx fees sum most none)

-- a claim is no more than all claims
claim-le : (facts : List Fact) (id : List ℕ) → claim_at facts id ≤ unclaimed facts
claim-le facts id = let push = unclaimed-push facts (spent id) refl in omega (arith, push)

claims_from : (maturity : ℕ) (inputs : List FundInput) (s : State) (n : ℕ) → LiveFunds s.facts inputs n → names_twice (fund_parents inputs) ≡ false → AllPay s.facts → total s.facts < 2 ^ 128 → ClaimsFit maturity s inputs
claims_from maturity [] s n live single pays low = tt
claims_from maturity (input ∷ inputs) s n (output, rest, last, whole, live) single pays low =
    let both = or_both (list_any (bytes_eq input.parent) (fund_parents inputs)) _ single in
    let here = spend_fund_input maturity s input inputs output rest pays last both.0 live in
    let still : total (with_fund_input maturity s input).facts < 2 ^ 128 = omega (arith, here.one.does.most.holds, low) in
    (omega (arith, claim-le s.facts input.parent, low), claims_from maturity inputs (with_fund_input maturity s input) rest here.live both.1 here.one.pays still)

-- the claims of a transaction that breaks no rule fit
pub claims_fit : (accepts : List ℕ → List ℕ → List ℕ → Bool) (maturity : ℕ) (s : State) (t : ℕ) (tx : Transaction) → IsBounded s → transaction_refusal accepts s t tx ≡ None → ClaimsFit maturity (proved_contracts maturity tx s) tx.fund_inputs
unfolding coins_out
claims_fit accepts maturity s t tx (fees, sum, fits, most) none = of_fields (transaction_passes accepts maturity s t tx fees sum most none)
  where
    of_fields : PassesAll maturity s tx → ClaimsFit maturity (proved_contracts maturity tx s) tx.fund_inputs
    of_fields all =
        let balanced : coins_in s.facts tx ≡ coin_sum tx.coin_outputs + payouts_of tx + fees_of tx = all.stands.balanced in
        let m1 = all.coin_inputs.does.most in
        let m2 = all.coin_outputs.does.most in
        let m3 = all.contracts.does.most in
        let m4 = all.revisions.does.most in
        let m5 = all.proofs.does.most in
        let low : total (proved_contracts maturity tx s).facts < 2 ^ 128 = omega (arith, fits, most.holds, balanced, m1.holds, m2.holds, m3.holds, m4.holds, m5.holds) in
        claims_from maturity tx.fund_inputs (proved_contracts maturity tx s) (funds_in s.facts tx) all.live all.stands.funds_once all.proofs.pays low

-- what is kept of a chain

pub kept_whole : (chain : Chain) (ids : List (List ℕ)) (facts : List Fact) (marks : List ℕ) → IsKept chain ids facts marks → IsMost (record { ids = ids; facts = facts; twice = None }) 0 (issued (height chain))
kept_whole chain ids facts marks kept = subst (λ (s : State). IsMost s 0 (issued (height chain))) kept.state (wholly_most (state_of chain) (issued (height chain)) (chain_whole chain kept.sound))

-- before a block
pub kept_bounded : (chain : Chain) (ids : List (List ℕ)) (facts : List Fact) (marks : List ℕ) → IsKept chain ids facts marks → IsBounded (record { ids = ids; facts = facts; twice = None })
kept_bounded chain ids facts marks kept = (0, issued (height chain), issued-fits (height chain) kept.low, kept_whole chain ids facts marks kept)

-- behind a block's own identifier
pub block_bounded : (chain : Chain) (ids : List (List ℕ)) (facts : List Fact) (marks : List ℕ) (block : Block) → IsKept chain ids facts marks → IsBounded (with_block block (record { ids = ids; facts = facts; twice = None }))
block_bounded chain ids facts marks block kept =
    let most = kept_whole chain ids facts marks kept in
    (0, issued (height chain), issued-fits (height chain) kept.low, own_most (record { ids = ids; facts = facts; twice = None }) block (issued (height chain)) most (most.whole refl))
