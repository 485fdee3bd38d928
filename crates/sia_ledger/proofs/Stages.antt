-- What each field of a transaction does to all that a chain holds: at most so much, and exactly so much where no identifier was made
-- a second time.
use Rattle.std.proofs.Common.{◌≡◌, ℕ, zero, ◌+◌, ◌-◌, ◌*◌, ◌/◌, ◌<◌, ◌≤◌, Bool, true, false, List, [], ◌∷◌, ◌++◌, map, refl, ap, sym, ◌∙◌, arith, subst}
use Rattle.std.specs.Prelude.{◌||◌, ◌&&◌, ◌==◌, not, fold, nat_eq, Option, Some, None, if◌then◌else◌}
use Rattle.std.specs.Option.{option_or}
use Rattle.std.specs.List.{list_any, sum_by}
use Rattle.std.specs.Str.{bytes_eq}
use Rattle.std.proofs.lemmas.List.Sums.{sum_by-cons}
use Rattle.std.proofs.lemmas.Bool.{eqb-true}
use Rattle.std.specs.Cmp.Lexicographic.{same_text}
use Rattle.sia_types.specs.declared.coins.CoinInput.{CoinInput}
use Rattle.sia_types.specs.declared.coins.CoinOutput.{CoinOutput}
use Rattle.sia_types.specs.declared.file_contracts.FileContract.{FileContract}
use Rattle.sia_types.specs.declared.file_contracts.Revision.{Revision}
use Rattle.sia_types.specs.declared.file_contracts.StorageProof.{StorageProof}
use Rattle.sia_types.specs.declared.funds.FundInput.{FundInput}
use Rattle.sia_types.specs.declared.funds.FundOutput.{FundOutput}
use Rattle.sia_types.specs.declared.terms.Terms.{Terms}
use Rattle.sia_ids.specs.Transactions.{claim_id, settlement_id}
use Rattle.sia_rules.specs.Amounts.{after_tax}
use Rattle.sia_rules.specs.Shape.{names_twice, coin_parents, fund_parents}
use Rattle.sia_rules.specs.Sums.{coin_sum, fund_sum}
use Rattle.sia_ledger.specs.declared.fact.Fact.{Fact}
use Rattle.sia_ledger.specs.declared.fact.Deed.{Deed}
use Rattle.sia_ledger.specs.declared.fact.Deed.TheVariants as deed
use Rattle.sia_ledger.specs.Facts.{fact, spent, is_known, last_deed, claim_at, terms_at, fund_in, terms_in, funds_of, tax_of}
use Rattle.sia_ledger.specs.State.{State, next, makes, add, add_all, numbered}
use Rattle.sia_ledger.specs.Effects.{formed, revised, revised_with, with_revision, settled, settled_with, settlement_facts, claim_facts, with_fund_input}
use Rattle.sia_ledger.specs.Holdings.{held, coins_of, held_by}
use Rattle.sia_ledger.specs.Paying.{Pays, PaysOut, AllPay}
use Rattle.sia_ledger.proofs.Held.{unknown}
use Rattle.sia_ledger.proofs.Moves.{Moves, Most, stays, at_most, and_then, and_most, push_new, push_formed, push_formed_most, spend_coin, spend_fund, settle, revise}
use Rattle.sia_ledger.proofs.Keeps.{IsAdded, added, all_pay-add, runs_pay, KeepsFunds, KeepsTerms, Runs, keeps_funds, keeps_terms, keeps_revised, keeps_made, other_last, runs_no_fund}

pub or_both : (a b : Bool) → (a || b) ≡ false → (a ≡ false) × (b ≡ false)
or_both true b e = cc
or_both false b e = (refl, e)

-- nothing was made twice before either, and what is held moved exactly so
pub record IsExact (s t : State) (gain loss brought taken : ℕ) : Type 0 where
  pub before : s.twice ≡ None
  pub moves : Moves s.facts t.facts gain loss brought taken

-- what is held moved at most so, and exactly so where nothing was made twice
pub record Does (s t : State) (gain loss brought taken : ℕ) : Type 0 where
  pub most : Most s.facts t.facts gain loss brought taken
  pub exact : t.twice ≡ None → IsExact s t gain loss brought taken

-- nothing is done
does_nothing : (s : State) → Does s s 0 0 0 0
does_nothing s = record { most = at_most s.facts s.facts 0 0 0 0 (stays s.facts); exact = λ none. record { before = none; moves = stays s.facts } }

-- facts more, of which none was left out
does_just : (s : State) (facts : List Fact) (g l f k : ℕ) → Moves s.facts facts g l f k → Does s (record s { facts = facts }) g l f k
does_just s facts g l f k moves = record { most = at_most s.facts facts g l f k moves; exact = λ none. record { before = none; moves = moves } }

-- one thing after another
does_both : (a b c : State) (g l f k g' l' f' k' : ℕ) → Does a b g l f k → Does b c g' l' f' k' → Does a c (g + g') (l + l') (f + f') (k + k')
does_both a b c g l f k g' l' f' k' one two = record {
  most = and_most a.facts b.facts c.facts g l f k g' l' f' k' one.most two.most;
  exact = λ none.
      let second = two.exact none in
      let first = one.exact second.before in
      record { before = first.before; moves = and_then a.facts b.facts c.facts g l f k g' l' f' k' first.moves second.moves };
}

-- the same in other numbers
does_as : (s t : State) (g l f k g' l' f' k' : ℕ) → Does s t g l f k → g + l' ≡ g' + l → f + k' ≡ f' + k → Does s t g' l' f' k'
does_as s t g l f k g' l' f' k' does coins funds = record {
  most = record { holds = omega (arith, does.most.holds, coins); funds = omega (arith, does.most.funds, funds) };
  exact = λ none.
      let was = does.exact none in
      record { before = was.before; moves = record { holds = omega (arith, was.moves.holds, coins); funds = omega (arith, was.moves.funds, funds) } };
}

-- what a field gives
pub record Stage (s t : State) (gain loss brought taken : ℕ) : Type 0 where
  pub does : Does s t gain loss brought taken
  pub pays : AllPay t.facts
  pub funds : KeepsFunds s.facts t.facts
  pub terms : KeepsTerms s.facts t.facts

-- a field without entries
pub idle : (s : State) → AllPay s.facts → Stage s s 0 0 0 0
idle s pays = record { does = does_nothing s; pays = pays; funds = λ id output live. live; terms = λ id payout runs. runs }

pub and_stage : (a b c : State) (g l f k g' l' f' k' : ℕ) → Stage a b g l f k → Stage b c g' l' f' k' → Stage a c (g + g') (l + l') (f + f') (k + k')
and_stage a b c g l f k g' l' f' k' one two = record {
  does = does_both a b c g l f k g' l' f' k' one.does two.does;
  pays = two.pays;
  funds = λ id output live. two.funds id output (one.funds id output live);
  terms = λ id payout runs. two.terms id payout (one.terms id payout runs);
}

stage_as : (s t : State) (g l f k g' l' f' k' : ℕ) → Stage s t g l f k → g + l' ≡ g' + l → f + k' ≡ f' + k → Stage s t g' l' f' k'
stage_as s t g l f k g' l' f' k' stage coins funds = record { does = does_as s t g l f k g' l' f' k' stage.does coins funds; pays = stage.pays; funds = stage.funds; terms = stage.terms }

-- Siacoin inputs.

-- the inputs name live siacoin outputs, of so much in all
abbrev pub LiveCoins : List Fact → List CoinInput → ℕ → Type 0
LiveCoins facts [] n = n ≡ 0
LiveCoins facts (input ∷ inputs) n = (output : CoinOutput) × (from : ℕ) × (rest : ℕ) × (last_deed facts input.parent ≡ Some (deed.Coin output from)) × (n ≡ output.value + rest) × LiveCoins facts inputs rest

pub live_coins-after : (facts : List Fact) (id : List ℕ) (inputs : List CoinInput) (n : ℕ) → list_any (bytes_eq id) (coin_parents inputs) ≡ false → LiveCoins facts inputs n → LiveCoins (facts ++ spent id ∷ []) inputs n
live_coins-after facts id [] n other live = live
live_coins-after facts id (input ∷ inputs) n other (output, from, rest, last, whole, live) =
    let both = or_both (bytes_eq id input.parent) _ other in
    (output, from, rest, other_last facts (spent id) input.parent both.0 ∙ last, whole, live_coins-after facts id inputs rest both.1 live)

pub spend_coins : (inputs : List CoinInput) (s : State) (n : ℕ) → LiveCoins s.facts inputs n → names_twice (coin_parents inputs) ≡ false → AllPay s.facts → Stage s (add_all s (map (λ (input : CoinInput). spent input.parent) inputs)) 0 n 0 0
unfolding add
spend_coins [] s n live once pays = stage_as s s 0 0 0 0 0 n 0 0 (idle s pays) (omega (arith, live)) refl
spend_coins (input ∷ inputs) s n (output, from, rest, last, whole, live) once pays =
    let both = or_both (list_any (bytes_eq input.parent) (coin_parents inputs)) _ once in
    let s1 : State = record s { facts = s.facts ++ spent input.parent ∷ [] } in
    let one : Stage s s1 0 output.value 0 0 = record {
      does = does_just s s1.facts 0 output.value 0 0 (spend_coin s.facts input.parent output from last);
      pays = all_pay-add s (spent input.parent) pays tt;
      funds = keeps_funds s.facts (spent input.parent) (ap fund_in last);
      terms = keeps_terms s.facts (spent input.parent) (ap terms_in last);
    } in
    let others = spend_coins inputs s1 rest (live_coins-after s.facts input.parent inputs rest both.0 live) both.1 one.pays in
    stage_as s _ _ _ _ _ 0 n 0 0 (and_stage s s1 _ 0 output.value 0 0 0 rest 0 0 one others) (omega (arith, whole)) refl

-- What is made.

-- a making fact: where it is new, it moves what is held; else it is left out
pub made_stage : (s : State) (x : Fact) (g f : ℕ) → makes x.deed ≡ true → AllPay s.facts → PaysOut x.deed
    → (is_known s.facts x.id ≡ false → Most s.facts (s.facts ++ x ∷ []) g 0 f 0)
    → (is_known s.facts x.id ≡ false → s.twice ≡ None → Moves s.facts (s.facts ++ x ∷ []) g 0 f 0)
    → Stage s (add s x) g 0 f 0
unfolding add
made_stage s x g f is pays here most moves =
    let kept = keeps_made s x is in
    record {
      does = record { most = by (makes x.deed) (is_known s.facts x.id) refl is; exact = λ none. exact (added s x is none) };
      pays = all_pay-add s x pays here;
      funds = kept.0;
      terms = kept.1;
    }
  where
    by : (m k : Bool) → is_known s.facts x.id ≡ k → m ≡ true → Most s.facts (if m && k then record s { twice = option_or s.twice (Some x.id) } else record s { facts = s.facts ++ x ∷ [] }).facts g 0 f 0
    by true true known e = record { holds = omega arith; funds = omega arith }
    by true false new e = most new
    by false k known e = cc

    exact : IsAdded s x → IsExact s (add s x) g 0 f 0
    exact was = record { before = was.before; moves = rw was.facts (moves was.new was.before) }

-- one that pays no tax
pub new_stage : (s : State) (x : Fact) → makes x.deed ≡ true → tax_of x.deed ≡ 0 → AllPay s.facts → PaysOut x.deed → Stage s (add s x) (coins_of x.deed + held_by x.deed) 0 (funds_of x.deed) 0
new_stage s x is untaxed pays here = made_stage s x (coins_of x.deed + held_by x.deed) (funds_of x.deed) is pays here
    (λ new. at_most _ _ _ _ _ _ (push_new s.facts x untaxed new))
    (λ new none. push_new s.facts x untaxed new)

pub make_coins : (id : ℕ → List ℕ) (from : ℕ) (index : ℕ) (outputs : List CoinOutput) (s : State) → AllPay s.facts → Stage s (add_all s (numbered (λ i (output : CoinOutput). fact (id i) (deed.Coin output from)) index outputs)) (coin_sum outputs) 0 0 0
make_coins id from index [] s pays = idle s pays
make_coins id from index (output ∷ outputs) s pays =
    let x = fact (id index) (deed.Coin output from) in
    let one = new_stage s x refl refl pays tt in
    let others = make_coins id from (index + 1) outputs (add s x) one.pays in
    let split = sum_by-cons (λ (o : CoinOutput). o.value) output outputs in
    stage_as s _ _ _ _ _ (coin_sum (output ∷ outputs)) 0 0 0 (and_stage s (add s x) _ (output.value + 0) 0 0 0 (coin_sum outputs) 0 0 0 one others) (omega (arith, split)) refl

pub make_funds : (id : ℕ → List ℕ) (index : ℕ) (outputs : List FundOutput) (s : State) → AllPay s.facts → Stage s (add_all s (numbered (λ i (output : FundOutput). fact (id i) (deed.Fund output)) index outputs)) 0 0 (fund_sum outputs) 0
make_funds id index [] s pays = idle s pays
make_funds id index (output ∷ outputs) s pays =
    let x = fact (id index) (deed.Fund output) in
    let one = new_stage s x refl refl pays tt in
    let others = make_funds id (index + 1) outputs (add s x) one.pays in
    let split = sum_by-cons (λ (o : FundOutput). o.value) output outputs in
    stage_as s _ _ _ _ _ 0 0 (fund_sum (output ∷ outputs)) 0 (and_stage s (add s x) _ 0 0 output.value 0 0 0 (fund_sum outputs) 0 one others) refl (omega (arith, split))

-- Contracts.

-- each new contract pays what it holds
abbrev pub AllForm : List FileContract → Type 0
AllForm [] = Unit {0}
AllForm (contract ∷ contracts) = Pays (formed contract) × AllForm contracts

pub form_contracts : (id : ℕ → List ℕ) (index : ℕ) (contracts : List FileContract) (s : State) → AllPay s.facts → AllForm contracts → held funds_of s.facts ≤ 10000 → (s.twice ≡ None → held funds_of s.facts ≡ 10000)
    → Stage s (add_all s (numbered (λ i (contract : FileContract). fact (id i) (deed.Formed (formed contract))) index contracts)) (sum_by (λ (contract : FileContract). contract.payout) contracts) 0 0 0
form_contracts id index [] s pays form low whole = idle s pays
form_contracts id index (contract ∷ contracts) s pays form low whole =
    let x = fact (id index) (deed.Formed (formed contract)) in
    let one = made_stage s x contract.payout 0 refl pays form.0 (λ new. push_formed_most s.facts (id index) (formed contract) new low) (λ new none. push_formed s.facts (id index) (formed contract) new (whole none)) in
    let still : held funds_of (add s x).facts ≤ 10000 = omega (arith, one.does.most.funds, low) in
    let others = form_contracts id (index + 1) contracts (add s x) one.pays form.1 still (λ none. all_held (one.does.exact none)) in
    let split = sum_by-cons (λ (c : FileContract). c.payout) contract contracts in
    stage_as s _ _ _ _ _ (sum_by (λ (c : FileContract). c.payout) (contract ∷ contracts)) 0 0 0 (and_stage s (add s x) _ contract.payout 0 0 0 (sum_by (λ (c : FileContract). c.payout) contracts) 0 0 0 one others) (omega (arith, split)) refl
  where
    all_held : IsExact s (add s (fact (id index) (deed.Formed (formed contract)))) contract.payout 0 0 0 → held funds_of (add s (fact (id index) (deed.Formed (formed contract)))).facts ≡ 10000
    all_held was = omega (arith, was.moves.funds, whole was.before)

-- Revisions.

-- each revision names a contract that ran before the transaction, and pays what that holds
abbrev pub AllRevise : List Fact → List Revision → Type 0
AllRevise facts [] = Unit {0}
AllRevise facts (revision ∷ revisions) = ((payout : ℕ) × Runs facts revision.parent payout × (coin_sum revision.valid ≡ after_tax payout) × (coin_sum revision.missed ≡ after_tax payout)) × AllRevise facts revisions

pub revise_contracts : (first : List Fact) (revisions : List Revision) (s : State) → KeepsTerms first s.facts → AllRevise first revisions → AllPay s.facts → Stage s (fold with_revision s revisions) 0 0 0 0
unfolding add
revise_contracts first [] s kept sound pays = idle s pays
revise_contracts first (revision ∷ revisions) s kept ((payout, runs, valid, missed), sound) pays =
    let now = kept revision.parent payout runs in
    let terms = now.0 in
    let new = revised terms revision in
    let x = fact revision.parent (deed.Revised new) in
    let s1 : State = record s { facts = s.facts ++ x ∷ [] } in
    let same : with_revision s revision ≡ s1 = ap (revised_with s revision) now.1 in
    let pays_new : Pays new = record { valid = valid ∙ ap after_tax (sym now.2); missed = missed ∙ ap after_tax (sym now.2) } in
    let one : Stage s s1 0 0 0 0 = record {
      does = does_just s s1.facts 0 0 0 0 (revise s.facts revision.parent terms new now.1 refl);
      pays = all_pay-add s x pays pays_new;
      funds = keeps_funds s.facts x (runs_no_fund (last_deed s.facts revision.parent) terms now.1);
      terms = keeps_revised s.facts revision.parent terms new now.1 refl;
    } in
    let others = revise_contracts first revisions s1 (λ id p r. one.terms id p (kept id p r)) sound one.pays in
    rw same (and_stage s s1 _ 0 0 0 0 0 0 0 0 one others)

-- Settlements.

make_settlement : (from : ℕ) (contract : List ℕ) (valid : Bool) (index : ℕ) (outputs : List CoinOutput) (s : State) → AllPay s.facts → Stage s (add_all s (settlement_facts from contract valid index outputs)) (coin_sum outputs) 0 0 0
make_settlement from contract valid index [] s pays = idle s pays
make_settlement from contract valid index (output ∷ outputs) s pays = by (output.value == 0) refl (λ t. make_settlement from contract valid (index + 1) outputs t)
  where
    x : Fact
    x = fact (settlement_id contract valid index) (deed.Coin output from)

    others : List Fact
    others = settlement_facts from contract valid (index + 1) outputs

    split : coin_sum (output ∷ outputs) ≡ output.value + coin_sum outputs
    split = sum_by-cons (λ (o : CoinOutput). o.value) output outputs

    by : (b : Bool) → (output.value == 0) ≡ b → ((t : State) → AllPay t.facts → Stage t (add_all t others) (coin_sum outputs) 0 0 0) → Stage s (add_all s (if not b then x ∷ others else others)) (coin_sum (output ∷ outputs)) 0 0 0
    by true zero_value later =
        let nothing : output.value ≡ 0 = eqb-true output.value 0 zero_value in
        stage_as s _ _ _ _ _ (coin_sum (output ∷ outputs)) 0 0 0 (later s pays) (omega (arith, split, nothing)) refl
    by false paying later =
        let one = new_stage s x refl refl pays tt in
        stage_as s _ _ _ _ _ (coin_sum (output ∷ outputs)) 0 0 0 (and_stage s (add s x) _ (output.value + 0) 0 0 0 (coin_sum outputs) 0 0 0 one (later (add s x) one.pays)) (omega (arith, split)) refl

-- a field of which the contracts that ran may have come to their end
pub record Ends (s t : State) (gain loss brought taken : ℕ) : Type 0 where
  pub does : Does s t gain loss brought taken
  pub pays : AllPay t.facts
  pub funds : KeepsFunds s.facts t.facts

pub settle_contract : (from : ℕ) (valid : Bool) (s : State) (contract : List ℕ) → AllPay s.facts → Ends s (settled from valid s contract) 0 0 0 0
unfolding add
settle_contract from valid s contract pays = by (terms_at s.facts contract) refl
  where
    by : (found : Option Terms) → terms_at s.facts contract ≡ found → Ends s (settled_with from valid s contract found) 0 0 0 0
    by None is = record { does = does_nothing s; pays = pays; funds = λ id output live. live }
    by (Some terms) is =
        let x = fact contract (deed.Settled valid) in
        let s1 : State = record s { facts = s.facts ++ x ∷ [] } in
        let outputs = if valid then terms.valid else terms.missed in
        let sums : coin_sum outputs ≡ after_tax terms.payout = either valid (runs_pay s.facts contract terms pays is) in
        let ended = does_just s s1.facts 0 (after_tax terms.payout) 0 0 (settle s.facts contract valid terms is) in
        let paid = make_settlement from contract valid 0 outputs s1 (all_pay-add s x pays tt) in
        let keeps = keeps_funds s.facts x (runs_no_fund (last_deed s.facts contract) terms is) in
        record {
          does = does_as s _ _ _ _ _ 0 0 0 0 (does_both s s1 _ 0 (after_tax terms.payout) 0 0 (coin_sum outputs) 0 0 0 ended paid.does) (omega (arith, sums)) refl;
          pays = paid.pays;
          funds = λ id output live. paid.funds id output (keeps id output live);
        }
      where
        either : (b : Bool) → Pays terms → coin_sum (if b then terms.valid else terms.missed) ≡ after_tax terms.payout
        either true p = p.valid
        either false p = p.missed

-- contracts that are settled one by one
pub settle_all : {X : Type 0} (of : X → List ℕ) (from : State → ℕ) (valid : Bool) (xs : List X) (s : State) → AllPay s.facts → Ends s (fold (λ t x. settled (from t) valid t (of x)) s xs) 0 0 0 0
settle_all of from valid [] s pays = record { does = does_nothing s; pays = pays; funds = λ id output live. live }
settle_all of from valid (x ∷ xs) s pays =
    let one = settle_contract (from s) valid s (of x) pays in
    let others = settle_all of from valid xs (settled (from s) valid s (of x)) one.pays in
    record {
      does = does_both s (settled (from s) valid s (of x)) _ 0 0 0 0 0 0 0 0 one.does others.does;
      pays = others.pays;
      funds = λ id output live. others.funds id output (one.funds id output live);
    }

-- Siafund inputs.

-- the inputs name live siafund outputs, of so many siafunds in all
abbrev pub LiveFunds : List Fact → List FundInput → ℕ → Type 0
LiveFunds facts [] n = n ≡ 0
LiveFunds facts (input ∷ inputs) n = (output : FundOutput) × (rest : ℕ) × (last_deed facts input.parent ≡ Some (deed.Fund output)) × (n ≡ output.value + rest) × LiveFunds facts inputs rest

pub live_funds-after : (facts : List Fact) (id : List ℕ) (inputs : List FundInput) (n : ℕ) → list_any (bytes_eq id) (fund_parents inputs) ≡ false → LiveFunds facts inputs n → LiveFunds (facts ++ spent id ∷ []) inputs n
live_funds-after facts id [] n other live = live
live_funds-after facts id (input ∷ inputs) n other (output, rest, last, whole, live) =
    let both = or_both (bytes_eq id input.parent) _ other in
    (output, rest, other_last facts (spent id) input.parent both.0 ∙ last, whole, live_funds-after facts id inputs rest both.1 live)

-- what is new is another identifier than a known one
not_known : (facts : List Fact) (id known : List ℕ) (what : Deed) → is_known facts id ≡ false → last_deed facts known ≡ Some what → bytes_eq id known ≡ false
not_known facts id known what new last = by (bytes_eq id known) refl
  where
    none_some : None ≡ Some what → ⊥
    none_some e = cc

    by : (b : Bool) → bytes_eq id known ≡ b → bytes_eq id known ≡ false
    by false same = same
    by true same =
        let e : id ≡ known = same_text id known (sym same) in
        absurd (none_some (sym (unknown facts known (ap (is_known facts) (sym e) ∙ new)) ∙ last))

pub live_funds-new : (facts : List Fact) (x : Fact) (inputs : List FundInput) (n : ℕ) → is_known facts x.id ≡ false → LiveFunds facts inputs n → LiveFunds (facts ++ x ∷ []) inputs n
live_funds-new facts x [] n new live = live
live_funds-new facts x (input ∷ inputs) n new (output, rest, last, whole, live) =
    (output, rest, other_last facts x input.parent (not_known facts x.id input.parent (deed.Fund output) new last) ∙ last, whole, live_funds-new facts x inputs rest new live)

-- what the siafund inputs give
pub record Spends (s t : State) (taken : ℕ) : Type 0 where
  pub does : Does s t 0 0 0 taken
  pub pays : AllPay t.facts

-- what one siafund input gives, where others follow
pub record SpendsOne (s t : State) (inputs : List FundInput) (taken rest : ℕ) : Type 0 where
  pub one : Spends s t taken
  pub live : LiveFunds t.facts inputs rest

pub spend_fund_input : (maturity : ℕ) (s : State) (input : FundInput) (inputs : List FundInput) (output : FundOutput) (rest : ℕ) → AllPay s.facts → last_deed s.facts input.parent ≡ Some (deed.Fund output) → list_any (bytes_eq input.parent) (fund_parents inputs) ≡ false → LiveFunds s.facts inputs rest
    → SpendsOne s (with_fund_input maturity s input) inputs output.value rest
unfolding add
spend_fund_input maturity s input inputs output rest pays last once live = by (claim_at s.facts input.parent == 0) refl
  where
    claim : ℕ
    claim = claim_at s.facts input.parent

    s1 : State
    s1 = record s { facts = s.facts ++ spent input.parent ∷ [] }

    x : Fact
    x = fact (claim_id input.parent) (deed.Coin (record { value = claim; address = input.claim_address }) (next s + maturity))

    gone : Does s s1 0 claim 0 output.value
    gone = does_just s s1.facts 0 claim 0 output.value (spend_fund s.facts input.parent output last)

    still : LiveFunds s1.facts inputs rest
    still = live_funds-after s.facts input.parent inputs rest once live

    pays1 : AllPay s1.facts
    pays1 = all_pay-add s (spent input.parent) pays tt

    by : (b : Bool) → (claim == 0) ≡ b → SpendsOne s (add_all s1 (if b then [] else x ∷ [])) inputs output.value rest
    by true zero_claim =
        let nothing : claim ≡ 0 = eqb-true claim 0 zero_claim in
        record { one = record { does = does_as s s1 0 claim 0 output.value 0 0 0 output.value gone (omega (arith, nothing)) refl; pays = pays1 }; live = still }
    by false some_claim =
        let one = new_stage s1 x refl refl pays1 tt in
        record {
          one = record { does = does_as s _ _ _ _ _ 0 0 0 output.value (does_both s s1 (add s1 x) 0 claim 0 output.value (claim + 0) 0 0 0 gone one.does) (omega arith) (omega arith); pays = one.pays };
          live = added_live (is_known s1.facts x.id) refl;
        }
      where
        added_live : (k : Bool) → is_known s1.facts x.id ≡ k → LiveFunds (if k then record s1 { twice = option_or s1.twice (Some x.id) } else record s1 { facts = s1.facts ++ x ∷ [] }).facts inputs rest
        added_live true known = still
        added_live false new = live_funds-new s1.facts x inputs rest new still

pub spend_funds : (maturity : ℕ) (inputs : List FundInput) (s : State) (n : ℕ) → LiveFunds s.facts inputs n → names_twice (fund_parents inputs) ≡ false → AllPay s.facts → Spends s (fold (with_fund_input maturity) s inputs) n
spend_funds maturity [] s n live once pays = record { does = does_as s s 0 0 0 0 0 0 0 n (does_nothing s) refl (omega (arith, live)); pays = pays }
spend_funds maturity (input ∷ inputs) s n (output, rest, last, whole, live) once pays =
    let both = or_both (list_any (bytes_eq input.parent) (fund_parents inputs)) _ once in
    let here = spend_fund_input maturity s input inputs output rest pays last both.0 live in
    let others = spend_funds maturity inputs (with_fund_input maturity s input) rest here.live both.1 here.one.pays in
    record {
      does = does_as s _ _ _ _ _ 0 0 0 n (does_both s (with_fund_input maturity s input) _ 0 0 0 output.value 0 0 0 rest here.one.does others.does) refl (omega (arith, whole));
      pays = others.pays;
    }
