-- What a chain of blocks that break no rule holds is what was issued; and behind transactions that break no rule it is no more, also
-- where an identifier was made twice.
use Rattle.std.proofs.Common.{◌≡◌, ℕ, zero, suc, ◌+◌, ◌-◌, ◌*◌, ◌^◌, ◌<◌, ◌≤◌, Bool, true, false, List, [], ◌∷◌, ◌++◌, length, map, refl, ap, sym, ◌∙◌, arith, subst, add-zero, length-append, zero-add}
use Rattle.std.specs.Prelude.{◌||◌, ◌&&◌, ◌==◌, not, fold, nat_lt, nat_eq, Option, Some, None, if◌then◌else◌}
use Rattle.std.specs.Option.{option_or, option_map}
use Rattle.std.specs.List.{sum_by}
use Rattle.std.proofs.lemmas.List.Sums.{sum_by-cons}
use Rattle.std.proofs.lemmas.Bool.{eqb-true}
use Rattle.sia_types.specs.declared.block.Block.{Block}
use Rattle.sia_types.specs.declared.coins.CoinOutput.{CoinOutput}
use Rattle.sia_types.specs.declared.file_contracts.FileContract.{FileContract}
use Rattle.sia_types.specs.declared.file_contracts.StorageProof.{StorageProof}
use Rattle.sia_types.specs.declared.funds.FundInput.{FundInput}
use Rattle.sia_types.specs.declared.funds.FundOutput.{FundOutput}
use Rattle.sia_types.specs.declared.transaction.Transaction.{Transaction}
use Rattle.sia_ids.specs.Identifiers.{payout_id, block_id, genesis_id, genesis_fund_id, new_fund}
use Rattle.sia_ids.specs.Transactions.{coin_id, fund_id, contract_id}
use Rattle.sia_rules.specs.declared.fault.BlockFault.TheVariants as block_fault
use Rattle.sia_rules.specs.Amounts.{subsidy, issued}
use Rattle.sia_rules.specs.Sums.{coin_sum, fund_sum, coins_out, funds_out, payouts_of, fees_of, all_fees}
use Rattle.sia_rules.proofs.Issue.{issued-more, issued-none}
use Rattle.sia_ledger.specs.declared.fact.Fact.{Fact}
use Rattle.sia_ledger.specs.declared.fact.Deed.TheVariants as deed
use Rattle.sia_ledger.specs.Chain.{Chain, height}
use Rattle.sia_ledger.specs.Facts.{fact, fund_in, funds_of, last_deed}
use Rattle.sia_ledger.specs.State.{State, next, makes, add, add_all, numbered}
use Rattle.sia_ledger.specs.Facts.{is_known}
use Rattle.sia_ledger.specs.Effects.{settled, with_coin_inputs, with_coin_outputs, with_contracts, with_revisions, with_proofs, with_fund_inputs, with_fund_outputs, after_transaction}
use Rattle.sia_ledger.specs.Blocks.{with_block, with_transactions, with_missed, with_payouts, done_by, after_block, ending, genesis_facts, genesis_state, state_of, facts}
use Rattle.sia_ledger.specs.Holdings.{held, outputs, escrow, unclaimed}
use Rattle.sia_ledger.specs.Rules.{coins_in, funds_in}
use Rattle.sia_ledger.specs.Refusal.{transaction_refusal, transactions_refusal, same_id, payout_sum, miners_due, verdict, bad_parent, too_large, height_end, sums_too_large, bad_values}
use Rattle.sia_ledger.specs.Paying.{AllPay, total}
use Rattle.sia_ledger.specs.Bounded.{IsWhole, IsMost}
use Rattle.sia_ledger.specs.Kept.{AllAccepted, IsSound}
use Rattle.sia_ledger.proofs.Keeps.{KeepsFunds, KeepsTerms, fund_last}
use Rattle.sia_ledger.proofs.Stages.{Stage, Ends, Spends, Does, IsExact, LiveFunds, new_stage, spend_coins, make_coins, make_funds, form_contracts, revise_contracts, settle_all, spend_funds}
use Rattle.sia_ledger.proofs.Standing.{Stands, transaction_stands, or_none, unbroken, not-false}

-- the same live siafund outputs, where these were kept
pub live_funds-kept : (before after : List Fact) (inputs : List FundInput) (n : ℕ) → KeepsFunds before after → LiveFunds before inputs n → LiveFunds after inputs n
live_funds-kept before after [] n keeps live = live
live_funds-kept before after (input ∷ inputs) n keeps (output, rest, last, whole, live) =
    (output, rest, fund_last (last_deed after input.parent) output (keeps input.parent output (ap fund_in last)), whole, live_funds-kept before after inputs rest keeps live)

-- What the fields of a transaction that breaks no rule give, one behind the other.
pub record Passes (s0 s1 s2 s3 s4 s5 s6 s7 : State) (tx : Transaction) : Type 0 where
  pub stands : Stands s0 tx
  pub coin_inputs : Stage s0 s1 0 (coins_in s0.facts tx) 0 0
  pub coin_outputs : Stage s1 s2 (coin_sum tx.coin_outputs) 0 0 0
  pub contracts : Stage s2 s3 (payouts_of tx) 0 0 0
  pub revisions : Stage s3 s4 0 0 0 0
  pub proofs : Ends s4 s5 0 0 0 0
  pub live : LiveFunds s5.facts tx.fund_inputs (funds_in s0.facts tx)
  pub fund_inputs : Spends s5 s6 (funds_in s0.facts tx)
  pub fund_outputs : Stage s6 s7 0 0 (funds_out tx) 0

-- what is known after each field but the last
abbrev pub spent_coins : Transaction → State → State
spent_coins tx s = with_coin_inputs tx s

abbrev pub made_coins : Transaction → State → State
made_coins tx s = with_coin_outputs tx (spent_coins tx s)

abbrev pub formed_contracts : Transaction → State → State
formed_contracts tx s = with_contracts tx (made_coins tx s)

abbrev pub revised_contracts : Transaction → State → State
revised_contracts tx s = with_revisions tx (formed_contracts tx s)

abbrev pub proved_contracts : ℕ → Transaction → State → State
proved_contracts maturity tx s = with_proofs maturity tx (revised_contracts tx s)

abbrev pub spent_funds : ℕ → Transaction → State → State
spent_funds maturity tx s = with_fund_inputs maturity tx (proved_contracts maturity tx s)

-- the fields of a transaction that breaks no rule
abbrev pub PassesAll : ℕ → State → Transaction → Type 0
PassesAll maturity s tx = Passes s (spent_coins tx s) (made_coins tx s) (formed_contracts tx s) (revised_contracts tx s) (proved_contracts maturity tx s) (spent_funds maturity tx s) (after_transaction maturity s tx) tx

pub transaction_passes : (accepts : List ℕ → List ℕ → List ℕ → Bool) (maturity : ℕ) (s : State) (t : ℕ) (tx : Transaction) (fees sum : ℕ) → IsMost s fees sum → transaction_refusal accepts s t tx ≡ None → PassesAll maturity s tx
unfolding after_transaction with_coin_inputs with_coin_outputs with_contracts with_revisions with_proofs with_fund_inputs with_fund_outputs funds_out
transaction_passes accepts maturity s t tx fees sum was accepted =
    let s1 = spent_coins tx s in
    let s2 = made_coins tx s in
    let s3 = formed_contracts tx s in
    let s4 = revised_contracts tx s in
    let s5 = proved_contracts maturity tx s in
    let s6 = spent_funds maturity tx s in
    let stands = transaction_stands accepts s t tx accepted in
    let st1 : Stage s s1 0 (coins_in s.facts tx) 0 0 = spend_coins tx.coin_inputs s (coins_in s.facts tx) stands.coins stands.coins_once was.pays in
    let st2 : Stage s1 s2 (coin_sum tx.coin_outputs) 0 0 0 = make_coins (coin_id tx) (next s1) 0 tx.coin_outputs s1 st1.pays in
    let low : held funds_of s2.facts ≤ 10000 = omega (arith, was.funds, st1.does.most.funds, st2.does.most.funds) in
    let all : s2.twice ≡ None → held funds_of s2.facts ≡ 10000 = λ none. all_held s1 s2 st1 (st2.does.exact none) in
    let st3 : Stage s2 s3 (payouts_of tx) 0 0 0 = form_contracts (contract_id tx) 0 tx.contracts s2 st2.pays stands.forms low all in
    let kept : KeepsTerms s.facts s3.facts = λ id payout runs. st3.terms id payout (st2.terms id payout (st1.terms id payout runs)) in
    let st4 : Stage s3 s4 0 0 0 0 = revise_contracts s.facts tx.revisions s3 kept stands.revises st3.pays in
    let st5 : Ends s4 s5 0 0 0 0 = settle_all (λ (proof : StorageProof). proof.parent) (λ (u : State). next u + maturity) true tx.proofs s4 st4.pays in
    let keeps : KeepsFunds s.facts s5.facts = λ id output is. st5.funds id output (st4.funds id output (st3.funds id output (st2.funds id output (st1.funds id output is)))) in
    let live = live_funds-kept s.facts s5.facts tx.fund_inputs (funds_in s.facts tx) keeps stands.funds in
    let st6 : Spends s5 s6 (funds_in s.facts tx) = spend_funds maturity tx.fund_inputs s5 (funds_in s.facts tx) live stands.funds_once st5.pays in
    record {
      stands = stands;
      coin_inputs = st1;
      coin_outputs = st2;
      contracts = st3;
      revisions = st4;
      proofs = st5;
      live = live;
      fund_inputs = st6;
      fund_outputs = make_funds (fund_id tx) 0 tx.fund_outputs s6 st6.pays;
    }
  where
    all_held : (s1 s2 : State) → Stage s s1 0 (coins_in s.facts tx) 0 0 → IsExact s1 s2 (coin_sum tx.coin_outputs) 0 0 0 → held funds_of s2.facts ≡ 10000
    all_held s1 s2 one second =
        let first = one.does.exact second.before in
        let whole = was.whole first.before in
        omega (arith, whole.funds, first.moves.funds, second.moves.funds)

-- a transaction that breaks no rule leaves its fees to be paid
pub transaction_most : (accepts : List ℕ → List ℕ → List ℕ → Bool) (maturity : ℕ) (s : State) (t : ℕ) (tx : Transaction) (fees sum : ℕ) → IsMost s fees sum → transaction_refusal accepts s t tx ≡ None → IsMost (after_transaction maturity s tx) (fees + fees_of tx) sum
unfolding coins_out
transaction_most accepts maturity s t tx fees sum was accepted = of_fields (transaction_passes accepts maturity s t tx fees sum was accepted)
  where
    of_fields : PassesAll maturity s tx → IsMost (after_transaction maturity s tx) (fees + fees_of tx) sum
    of_fields all =
        let balanced : coins_in s.facts tx ≡ coin_sum tx.coin_outputs + payouts_of tx + fees_of tx = all.stands.balanced in
        let funds_balanced = all.stands.funds_balanced in
        let m1 = all.coin_inputs.does.most in
        let m2 = all.coin_outputs.does.most in
        let m3 = all.contracts.does.most in
        let m4 = all.revisions.does.most in
        let m5 = all.proofs.does.most in
        let m6 = all.fund_inputs.does.most in
        let m7 = all.fund_outputs.does.most in
        record {
          holds = omega (arith, was.holds, balanced, m1.holds, m2.holds, m3.holds, m4.holds, m5.holds, m6.holds, m7.holds);
          funds = omega (arith, was.funds, funds_balanced, m1.funds, m2.funds, m3.funds, m4.funds, m5.funds, m6.funds, m7.funds);
          pays = all.fund_outputs.pays;
          whole = λ none.
              let e7 = all.fund_outputs.does.exact none in
              let e6 = all.fund_inputs.does.exact e7.before in
              let e5 = all.proofs.does.exact e6.before in
              let e4 = all.revisions.does.exact e5.before in
              let e3 = all.contracts.does.exact e4.before in
              let e2 = all.coin_outputs.does.exact e3.before in
              let e1 = all.coin_inputs.does.exact e2.before in
              let before = was.whole e1.before in
              record {
                holds = omega (arith, before.holds, balanced, e1.moves.holds, e2.moves.holds, e3.moves.holds, e4.moves.holds, e5.moves.holds, e6.moves.holds, e7.moves.holds);
                funds = omega (arith, before.funds, funds_balanced, e1.moves.funds, e2.moves.funds, e3.moves.funds, e4.moves.funds, e5.moves.funds, e6.moves.funds, e7.moves.funds);
              };
        }

most_as : (s : State) (fees other sum : ℕ) → IsMost s fees sum → fees ≡ other → IsMost s other sum
most_as s fees other sum was same = subst (λ f. IsMost s f sum) same was

-- transactions that break no rule leave all fees to be paid
pub transactions_most : (accepts : List ℕ → List ℕ → List ℕ → Bool) (maturity : ℕ) (t : ℕ) (txs : List Transaction) (s : State) (fees sum : ℕ) → IsMost s fees sum → transactions_refusal accepts maturity s t txs ≡ None → IsMost (fold (after_transaction maturity) s txs) (fees + all_fees txs) sum
unfolding transactions_refusal all_fees
transactions_most accepts maturity t [] s fees sum was accepted = most_as s fees (fees + 0) sum was (omega arith)
transactions_most accepts maturity t (tx ∷ txs) s fees sum was accepted =
    let both = or_none (transaction_refusal accepts s t tx) _ accepted in
    let one = transaction_most accepts maturity s t tx fees sum was both.0 in
    let rest = transactions_most accepts maturity (t + 1) txs (after_transaction maturity s tx) (fees + fees_of tx) sum one both.1 in
    let split = sum_by-cons fees_of tx txs in
    most_as _ _ _ sum rest (omega (arith, split))

-- a block that breaks no rule
pub record BlockStands (accepts : List ℕ → List ℕ → List ℕ → Bool) (maturity : ℕ) (s : State) (block : Block) : Type 0 where
  pub pays : coin_sum block.payouts ≡ miners_due s block
  pub each : transactions_refusal accepts maturity (with_block block s) 0 block.transactions ≡ None
  pub new : (done_by maturity block s).twice ≡ None

no_id : (found : Option (List ℕ)) → option_map block_fault.SameId found ≡ None → found ≡ None
no_id None e = refl
no_id (Some id) e = cc

pub block_stands : (accepts : List ℕ → List ℕ → List ℕ → Bool) (maturity : ℕ) (s : State) (block : Block) → verdict accepts maturity s block ≡ None → BlockStands accepts maturity s block
unfolding verdict payout_sum same_id
block_stands accepts maturity s block none =
    let b1 = or_none (bad_parent s block) _ none in
    let b2 = or_none (too_large block) _ b1.1 in
    let b3 = or_none (height_end s) _ b2.1 in
    let b4 = or_none (sums_too_large s block) _ b3.1 in
    let b5 = or_none (bad_values block) _ b4.1 in
    let b6 = or_none (payout_sum s block) _ b5.1 in
    let each = or_none (transactions_refusal accepts maturity (with_block block s) 0 block.transactions) (same_id maturity s block) b6.1 in
    record {
      pays = eqb-true (coin_sum block.payouts) (miners_due s block) (not-false _ (unbroken _ _ b6.0));
      each = each.0;
      new = no_id (done_by maturity block s).twice each.1;
    }

-- a block's own identifier changes nothing that is held
pub own_most : (s : State) (block : Block) (sum : ℕ) → IsMost s 0 sum → IsWhole s 0 sum → IsMost (with_block block s) 0 sum
unfolding with_block
own_most s block sum was whole =
    let s0 : State = record s { twice = None } in
    let x = fact (block_id block) deed.Block in
    let own : Stage s0 (add s0 x) 0 0 0 0 = new_stage s0 x refl refl was.pays tt in
    record {
      holds = omega (arith, was.holds, own.does.most.holds);
      funds = omega (arith, was.funds, own.does.most.funds);
      pays = own.pays;
      whole = λ none.
          let exact = own.does.exact none in
          record { holds = omega (arith, whole.holds, exact.moves.holds); funds = omega (arith, whole.funds, exact.moves.funds) };
    }

-- a chain that holds exactly so much
pub record IsWholly (s : State) (sum : ℕ) : Type 0 where
  pub whole : IsWhole s 0 sum
  pub pays : AllPay s.facts

pub wholly_most : (s : State) (sum : ℕ) → IsWholly s sum → IsMost s 0 sum
wholly_most s sum was = record { holds = omega (arith, was.whole.holds); funds = omega (arith, was.whole.funds); pays = was.pays; whole = λ none. was.whole }

-- a block that breaks no rule adds its subsidy
pub block_whole : (accepts : List ℕ → List ℕ → List ℕ → Bool) (maturity : ℕ) (s : State) (block : Block) (sum : ℕ) → IsWholly s sum → verdict accepts maturity s block ≡ None → IsWholly (after_block maturity s block) (sum + subsidy (next s))
unfolding after_block done_by with_transactions with_missed with_payouts
block_whole accepts maturity s block sum was accepted =
    let stands = block_stands accepts maturity s block accepted in
    let s1 = with_block block s in
    let s2 = with_transactions maturity block.transactions s1 in
    let s3 = with_missed maturity s2 in
    let s4 = with_payouts maturity block s3 in
    let most1 : IsMost s1 0 sum = own_most s block sum (wholly_most s sum was) was.whole in
    let most2 : IsMost s2 (0 + all_fees block.transactions) sum = transactions_most accepts maturity 0 block.transactions s1 0 sum most1 stands.each in
    let st3 : Ends s2 s3 0 0 0 0 = settle_all (λ (id : List ℕ). id) (λ (u : State). next s2 + maturity) false (ending (next s2) s2.facts) s2 most2.pays in
    let st4 : Stage s3 s4 (coin_sum block.payouts) 0 0 0 = make_coins (payout_id (block_id block)) (next s3 + maturity) 0 block.payouts s3 st3.pays in
    let paid : coin_sum block.payouts ≡ subsidy (next s) + all_fees block.transactions = stands.pays in
    let e4 = st4.does.exact stands.new in
    let e3 = st3.does.exact e4.before in
    let whole2 = most2.whole e3.before in
    record {
      whole = record { holds = omega (arith, whole2.holds, e3.moves.holds, e4.moves.holds, paid); funds = omega (arith, whole2.funds, e3.moves.funds, e4.moves.funds) };
      pays = st4.pays;
    }

pub next-more : (maturity : ℕ) (s : State) (block : Block) → next (after_block maturity s block) ≡ next s + 1
unfolding after_block
next-more maturity s block = length-append s.ids (block_id block ∷ [])

-- blocks that break no rule add their subsidies
pub blocks_whole : (maturity : ℕ) (blocks : List Block) (s : State) (height : ℕ) → next s ≡ height + 1 → IsWholly s (issued height) → AllAccepted maturity s blocks → IsWholly (fold (after_block maturity) s blocks) (issued (height + length blocks))
blocks_whole maturity [] s height at was accepted = rw (add-zero height) was
blocks_whole maturity (block ∷ blocks) s height at was ((accepts, accepted), rest) =
    let more : issued height + subsidy (next s) ≡ issued (height + 1) = ap (λ n. issued height + subsidy n) at ∙ sym (issued-more height) in
    let one : IsWholly (after_block maturity s block) (issued (height + 1)) = subst (IsWholly (after_block maturity s block)) more (block_whole accepts maturity s block (issued height) was accepted) in
    let at_more : next (after_block maturity s block) ≡ height + 1 + 1 = next-more maturity s block ∙ ap (λ n. n + 1) at in
    let whole = blocks_whole maturity blocks (after_block maturity s block) (height + 1) at_more one rest in
    let count : height + 1 + length blocks ≡ height + length (block ∷ blocks) = omega arith in
    subst (λ n. IsWholly (fold (after_block maturity) (after_block maturity s block) blocks) (issued n)) count whole

-- the genesis holds its siafunds and nothing else
ids_stay : (facts : List Fact) (s : State) → (add_all s facts).ids ≡ s.ids
unfolding add
ids_stay [] s = refl
ids_stay (x ∷ facts) s = ids_stay facts (add s x) ∙ by (makes x.deed && is_known s.facts x.id)
  where
    by : (b : Bool) → (if b then record s { twice = option_or s.twice (Some x.id) } else record s { facts = s.facts ++ x ∷ [] }).ids ≡ s.ids
    by true = refl
    by false = refl

same_funds : (funds : List FundOutput) → fund_sum (map new_fund funds) ≡ fund_sum funds
same_funds [] = refl
same_funds (fund ∷ funds) =
    let one = sum_by-cons (λ (f : FundOutput). f.value) (new_fund fund) (map new_fund funds) in
    let other = sum_by-cons (λ (f : FundOutput). f.value) fund funds in
    omega (arith, one, other, same_funds funds)

pub numbered-new : (id : ℕ → List ℕ) (index : ℕ) (funds : List FundOutput) → numbered (λ i (fund : FundOutput). fact (id i) (deed.Fund (new_fund fund))) index funds ≡ numbered (λ i (fund : FundOutput). fact (id i) (deed.Fund fund)) index (map new_fund funds)
numbered-new id index [] = refl
numbered-new id index (fund ∷ funds) = ap (λ rest. fact (id index) (deed.Fund (new_fund fund)) ∷ rest) (numbered-new id (index + 1) funds)

empty_total : total [] ≡ 0
unfolding held unclaimed
empty_total = refl

empty_funds : held funds_of [] ≡ 0
unfolding held
empty_funds = refl

pub genesis_whole : (funds : List FundOutput) → fund_sum funds ≡ 10000 → (genesis_state funds).twice ≡ None → IsWholly (genesis_state funds) (issued 0)
unfolding genesis_state
genesis_whole funds sums none =
    let id = genesis_fund_id (genesis_id funds) in
    let x = fact (genesis_id funds) deed.Block in
    let empty : State = record { ids = genesis_id funds ∷ []; facts = []; twice = None } in
    let s1 = add empty x in
    let same : genesis_state funds ≡ add_all s1 (numbered (λ i (fund : FundOutput). fact (id i) (deed.Fund fund)) 0 (map new_fund funds)) = ap (add_all s1) (numbered-new id 0 funds) in
    let own : Stage empty s1 0 0 0 0 = new_stage empty x refl refl tt tt in
    let st : Stage s1 _ 0 0 (fund_sum (map new_fund funds)) 0 = make_funds id 0 (map new_fund funds) s1 own.pays in
    let e2 = st.does.exact (ap (λ (t : State). t.twice) (sym same) ∙ none) in
    let e1 = own.does.exact e2.before in
    rw same (record {
      whole = record {
        holds = omega (arith, e2.moves.holds, e1.moves.holds, empty_total, issued-none);
        funds = omega (arith, e2.moves.funds, e1.moves.funds, empty_funds, same_funds funds, sums);
      };
      pays = st.pays;
    })

pub genesis_ids : (funds : List FundOutput) → (genesis_state funds).ids ≡ genesis_id funds ∷ []
unfolding genesis_state
genesis_ids funds = ids_stay (genesis_facts funds) (record { ids = genesis_id funds ∷ []; facts = []; twice = None })

pub genesis_next : (funds : List FundOutput) → next (genesis_state funds) ≡ 0 + 1
genesis_next funds = ap (λ (ids : List (List ℕ)). length ids) (genesis_ids funds)

-- a chain of blocks that break no rule holds what was issued
pub chain_whole : (chain : Chain) → IsSound chain → IsWholly (state_of chain) (issued (height chain))
unfolding state_of
chain_whole chain sound =
    let whole = blocks_whole chain.maturity chain.blocks (genesis_state chain.funds) 0 (genesis_next chain.funds) (genesis_whole chain.funds sound.funds sound.new) sound.accepted in
    subst (λ n. IsWholly (fold (after_block chain.maturity) (genesis_state chain.funds) chain.blocks) (issued n)) (zero-add (length chain.blocks)) whole

-- outputs, escrow and unclaimed together are what was issued
pub conserved : (chain : Chain) → IsSound chain → outputs (facts chain) + escrow (facts chain) + unclaimed (facts chain) ≡ issued (height chain)
conserved chain sound =
    let whole = (chain_whole chain sound).whole in
    omega (arith, whole.holds)
