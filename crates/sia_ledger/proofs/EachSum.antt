-- In each chain of blocks that break no rule each formation, settlement and claim makes the sums that it names.
use Rattle.std.proofs.Common.{◌≡◌, ℕ, ◌+◌, Bool, true, false, List, [], ◌∷◌, ◌++◌, length, map, refl, ap, sym, ◌∙◌, arith, subst, length-append}
use Rattle.std.specs.Prelude.{fold, Option, Some, None}
use Rattle.sia_types.specs.declared.block.Block.{Block}
use Rattle.sia_types.specs.declared.coins.CoinInput.{CoinInput}
use Rattle.sia_types.specs.declared.coins.CoinOutput.{CoinOutput}
use Rattle.sia_types.specs.declared.file_contracts.StorageProof.{StorageProof}
use Rattle.sia_types.specs.declared.funds.FundOutput.{FundOutput}
use Rattle.sia_types.specs.declared.transaction.Transaction.{Transaction}
use Rattle.sia_ids.specs.Identifiers.{payout_id, block_id, genesis_id, genesis_fund_id, new_fund}
use Rattle.sia_ids.specs.Transactions.{coin_id, fund_id, contract_id}
use Rattle.sia_rules.specs.Amounts.{subsidy, issued}
use Rattle.sia_rules.specs.Sums.{fees_of, all_fees}
use Rattle.sia_rules.proofs.Issue.{issued-more}
use Rattle.sia_ledger.specs.declared.fact.Fact.{Fact}
use Rattle.sia_ledger.specs.declared.fact.Deed.TheVariants as deed
use Rattle.sia_ledger.specs.Bounded.{IsMost}
use Rattle.sia_ledger.specs.Chain.{Chain}
use Rattle.sia_ledger.specs.Facts.{fact, spent}
use Rattle.sia_ledger.specs.State.{State, next, add, add_all, numbered}
use Rattle.sia_ledger.specs.Effects.{settled, with_coin_inputs, with_coin_outputs, with_contracts, with_revisions, with_proofs, with_fund_inputs, with_fund_outputs, after_transaction}
use Rattle.sia_ledger.specs.Blocks.{ending, with_block, with_transactions, with_missed, with_payouts, done_by, after_block, genesis_state, state_of}
use Rattle.sia_ledger.specs.Kept.{AllAccepted, IsSound}
use Rattle.sia_ledger.specs.Making.{block_count, AllMakeSums, EachMakesItsSums}
use Rattle.sia_ledger.specs.Paying.{AllDeeds, AllPay}
use Rattle.sia_ledger.specs.Refusal.{transaction_refusal, transactions_refusal, verdict}
use Rattle.sia_ledger.specs.Rules.{coins_in, funds_in}
use Rattle.sia_ledger.proofs.Conserved.{IsWholly, spent_coins, made_coins, formed_contracts, revised_contracts, proved_contracts, spent_funds, transaction_passes, transaction_most, transactions_most, own_most, wholly_most, block_stands, block_whole, genesis_whole, genesis_next, next-more}
use Rattle.sia_ledger.proofs.Keeps.{added, back_all}
use Rattle.sia_ledger.proofs.MadeSums.{Goes, IsOutput, goes_none, goes_then, goes_outputs, goes_inputs, all_ahead, goes_contracts, goes_revisions, goes_settle_all, goes_fund_inputs, numbered_outputs, outputs_added, outputs_count, outputs_sums, all_sums-append, count-append, count-cons, count-none}
use Rattle.sia_ledger.proofs.Outcomes.{add_ids, each_ids, transaction_ids}
use Rattle.sia_ledger.proofs.Standing.{breaks_none, or_none}

goes_transaction : (accepts : List ℕ → List ℕ → List ℕ → Bool) (maturity : ℕ) (s : State) (t : ℕ) (tx : Transaction) (fees sum : ℕ) → IsMost s fees sum → transaction_refusal accepts s t tx ≡ None → Goes maturity s (after_transaction maturity s tx)
unfolding after_transaction with_coin_inputs with_coin_outputs with_contracts with_revisions with_proofs with_fund_inputs with_fund_outputs
goes_transaction accepts maturity s t tx fees sum was accepted =
    let s1 = spent_coins tx s in
    let s2 = made_coins tx s in
    let s3 = formed_contracts tx s in
    let s4 = revised_contracts tx s in
    let s5 = proved_contracts maturity tx s in
    let s6 = spent_funds maturity tx s in
    let all = transaction_passes accepts maturity s t tx fees sum was accepted in
    let rules = breaks_none accepts s t tx accepted in
    let coins : ℕ → CoinOutput → Fact = λ i output. fact (coin_id tx i) (deed.Coin output (next s1)) in
    let funds : ℕ → FundOutput → Fact = λ i output. fact (fund_id tx i) (deed.Fund output) in
    let g1 : Goes maturity s s1 = goes_inputs maturity tx.coin_inputs s (coins_in s.facts tx) all.stands.coins all.stands.coins_once in
    let g2 : Goes maturity s1 s2 = goes_outputs maturity (numbered coins 0 tx.coin_outputs) s1 (numbered_outputs coins (λ i output. tt) 0 tx.coin_outputs) in
    let ids2 : s2.ids ≡ s.ids = each_ids add add_ids (numbered coins 0 tx.coin_outputs) s1 ∙ each_ids add add_ids (map (λ (input : CoinInput). spent input.parent) tx.coin_inputs) s in
    let at2 : next s2 ≡ next s = ap (λ (ids : List (List ℕ)). length ids) ids2 in
    let g3 : Goes maturity s2 s3 = goes_contracts maturity (contract_id tx) 0 tx.contracts s2 (next s) at2 (all_ahead (next s) t 0 tx.contracts rules.windows) all.stands.forms in
    let g4 : Goes maturity s3 s4 = goes_revisions maturity tx.revisions s3 in
    let g5 : Goes maturity s4 s5 = goes_settle_all maturity (λ (proof : StorageProof). proof.parent) (λ (u : State). next u + maturity) true tx.proofs s4 (next s4) (λ u at. refl) refl all.revisions.pays in
    let g6 : Goes maturity s5 s6 = goes_fund_inputs maturity tx.fund_inputs s5 (funds_in s.facts tx) all.live all.stands.funds_once all.proofs.pays in
    let g7 : Goes maturity s6 _ = goes_outputs maturity (numbered funds 0 tx.fund_outputs) s6 (numbered_outputs funds (λ i output. tt) 0 tx.fund_outputs) in
    goes_then maturity s s1 _ g1 (goes_then maturity s1 s2 _ g2 (goes_then maturity s2 s3 _ g3 (goes_then maturity s3 s4 _ g4 (goes_then maturity s4 s5 _ g5 (goes_then maturity s5 s6 _ g6 g7)))))

goes_transactions : (accepts : List ℕ → List ℕ → List ℕ → Bool) (maturity t : ℕ) (txs : List Transaction) (s : State) (fees sum : ℕ) → IsMost s fees sum → transactions_refusal accepts maturity s t txs ≡ None → Goes maturity s (fold (after_transaction maturity) s txs)
unfolding transactions_refusal
goes_transactions accepts maturity t [] s fees sum was accepted = goes_none maturity s
goes_transactions accepts maturity t (tx ∷ txs) s fees sum was accepted =
    let both = or_none (transaction_refusal accepts s t tx) _ accepted in
    let s1 = after_transaction maturity s tx in
    goes_then maturity s s1 _ (goes_transaction accepts maturity s t tx fees sum was both.0)
    (goes_transactions accepts maturity (t + 1) txs s1 (fees + fees_of tx) sum (transaction_most accepts maturity s t tx fees sum was both.0) both.1)

-- between two blocks: each block of the heights so far is made, and each fact makes the sums that it names
record IsSummed (maturity : ℕ) (s : State) : Type 0 where
  count : block_count s.facts ≡ next s
  sums : AllMakeSums maturity [] s.facts

block_summed : (accepts : List ℕ → List ℕ → List ℕ → Bool) (maturity : ℕ) (s : State) (block : Block) (sum : ℕ) → IsWholly s sum → verdict accepts maturity s block ≡ None → IsSummed maturity s → IsSummed maturity (after_block maturity s block)
unfolding after_block done_by with_block with_transactions with_missed with_payouts
block_summed accepts maturity s block sum was accepted summed =
    let stands = block_stands accepts maturity s block accepted in
    let x = fact (block_id block) deed.Block in
    let s0 : State = record s { twice = None } in
    let s1 = with_block block s in
    let s2 = with_transactions maturity block.transactions s1 in
    let s3 = with_missed maturity s2 in
    let s4 = with_payouts maturity block s3 in
    let most1 : IsMost s1 0 sum = own_most s block sum (wholly_most s sum was) was.whole in
    let most2 : IsMost s2 (0 + all_fees block.transactions) sum = transactions_most accepts maturity 0 block.transactions s1 0 sum most1 stands.each in
    let payouts : ℕ → CoinOutput → Fact = λ i payout. fact (payout_id (block_id block) i) (deed.Coin payout (next s3 + maturity)) in
    let g1 : Goes maturity s1 s2 = goes_transactions accepts maturity 0 block.transactions s1 0 sum most1 stands.each in
    let g2 : Goes maturity s2 s3 = goes_settle_all maturity (λ (id : List ℕ). id) (λ (u : State). next s2 + maturity) false (ending (next s2) s2.facts) s2 (next s2) (λ u at. ap (λ n. n + maturity) (sym at)) refl most2.pays in
    let g3 : Goes maturity s3 s4 = goes_outputs maturity (numbered payouts 0 block.payouts) s3 (numbered_outputs payouts (λ i payout. tt) 0 block.payouts) in
    let all : Goes maturity s1 s4 = goes_then maturity s1 s2 s4 g1 (goes_then maturity s2 s3 s4 g2 g3) in
    let own = added s0 x refl (all.back stands.new) in
    let split = count-append s.facts (x ∷ []) in
    let one = count-cons x [] in
    let none = count-none in
    let same : block_count s1.facts ≡ block_count (s.facts ++ x ∷ []) = ap block_count own.facts in
    let at1 : next s1 ≡ next s = ap (λ (ids : List (List ℕ)). length ids) (add_ids s0 x) in
    let count1 : block_count s1.facts ≡ next s1 + 1 = omega (arith, split, one, none, same, at1, summed.count) in
    let made = all.made stands.new count1 in
    let whole : block_count s4.facts ≡ block_count (s1.facts ++ made.new) = ap block_count made.facts in
    let parts = count-append s1.facts made.new in
    let more = next-more maturity s block in
    let before : AllMakeSums maturity [] s1.facts = subst (AllMakeSums maturity []) (sym own.facts) (all_sums-append maturity [] s.facts (x ∷ []) summed.sums (tt, tt)) in
    record {
      count = omega (arith, whole, parts, made.no_block, count1, at1, more);
      sums = subst (AllMakeSums maturity []) (sym made.facts) (all_sums-append maturity [] s1.facts made.new before made.sums);
    }

blocks_summed : (maturity : ℕ) (blocks : List Block) (s : State) (height : ℕ) → next s ≡ height + 1 → IsWholly s (issued height) → AllAccepted maturity s blocks → IsSummed maturity s → IsSummed maturity (fold (after_block maturity) s blocks)
blocks_summed maturity [] s height at was accepted summed = summed
blocks_summed maturity (block ∷ blocks) s height at was ((accepts, accepted), rest) summed =
    let s1 = after_block maturity s block in
    let more : issued height + subsidy (next s) ≡ issued (height + 1) = ap (λ n. issued height + subsidy n) at ∙ sym (issued-more height) in
    let whole : IsWholly s1 (issued (height + 1)) = subst (IsWholly s1) more (block_whole accepts maturity s block (issued height) was accepted) in
    let at1 : next s1 ≡ height + 1 + 1 = next-more maturity s block ∙ ap (λ n. n + 1) at in
    blocks_summed maturity blocks s1 (height + 1) at1 whole rest (block_summed accepts maturity s block (issued height) was accepted summed)

genesis_summed : (maturity : ℕ) (funds : List FundOutput) → (genesis_state funds).twice ≡ None → IsSummed maturity (genesis_state funds)
unfolding genesis_state
genesis_summed maturity funds none =
    let x = fact (genesis_id funds) deed.Block in
    let empty : State = record { ids = genesis_id funds ∷ []; facts = []; twice = None } in
    let s1 = add empty x in
    let mk : ℕ → FundOutput → Fact = λ i fund. fact (genesis_fund_id (genesis_id funds) i) (deed.Fund (new_fund fund)) in
    let outs = numbered mk 0 funds in
    let all : AllDeeds IsOutput outs = numbered_outputs mk (λ i fund. tt) 0 funds in
    let end = add_all s1 outs in
    let own = added empty x refl (back_all outs s1 none) in
    let made : end.facts ≡ x ∷ outs = outputs_added outs s1 all none ∙ ap (λ l. l ++ outs) own.facts in
    let whole : block_count end.facts ≡ block_count (x ∷ outs) = ap block_count made in
    let split = count-cons x outs in
    let rest = outputs_count outs all in
    let at : next end ≡ 1 = ap (λ (ids : List (List ℕ)). length ids) (each_ids add add_ids outs s1 ∙ add_ids empty x) in
    record {
      count = omega (arith, whole, split, rest, at);
      sums = subst (AllMakeSums maturity []) (sym made) (tt, outputs_sums maturity (x ∷ []) outs all);
    }

-- each formation, settlement and claim of a chain makes the sums that it names
pub each_sum : (chain : Chain) → IsSound chain → EachMakesItsSums chain
unfolding state_of
each_sum chain sound =
    (blocks_summed chain.maturity chain.blocks (genesis_state chain.funds) 0 (genesis_next chain.funds) (genesis_whole chain.funds sound.funds sound.new) sound.accepted (genesis_summed chain.maturity chain.funds sound.new)).sums
