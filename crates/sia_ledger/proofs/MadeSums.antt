-- What formations, settlements and claims make in a chain of blocks that break no rule.
use Rattle.std.proofs.Common.{◌≡◌, ℕ, ◌+◌, ◌-◌, ◌*◌, ◌/◌, ◌<◌, ◌≤◌, Bool, true, false, List, [], ◌∷◌, ◌++◌, length, map, refl, ap, sym, ◌∙◌, arith, subst, append_assoc, length-append}
use Rattle.std.specs.Prelude.{◌&&◌, ◌||◌, ◌==◌, fold, nat_lt, Option, Some, None, if◌then◌else◌}
use Rattle.std.specs.Option.{option_or}
use Rattle.std.specs.List.{list_any, sum_by}
use Rattle.std.specs.Str.{bytes_eq}
use Rattle.std.specs.Cmp.Lexicographic.{same_text}
use Rattle.std.proofs.lemmas.Bool.{ltb-true}
use Rattle.std.proofs.lemmas.List.{append-nil}
use Rattle.std.proofs.lemmas.List.Sums.{sum_by-append, sum_by-cons}
use Rattle.sia_encoding.specs.Firsts.{first_at}
use Rattle.sia_types.specs.declared.coins.CoinInput.{CoinInput}
use Rattle.sia_types.specs.declared.coins.CoinOutput.{CoinOutput}
use Rattle.sia_types.specs.declared.file_contracts.FileContract.{FileContract}
use Rattle.sia_types.specs.declared.file_contracts.Revision.{Revision}
use Rattle.sia_types.specs.declared.funds.FundInput.{FundInput}
use Rattle.sia_types.specs.declared.funds.FundOutput.{FundOutput}
use Rattle.sia_types.specs.declared.terms.Terms.{Terms}
use Rattle.sia_ids.specs.Transactions.{claim_id, settlement_id}
use Rattle.sia_rules.specs.Amounts.{fund_count}
use Rattle.sia_rules.specs.FileContracts.{form_window}
use Rattle.sia_rules.specs.Shape.{names_twice, coin_parents, fund_parents}
use Rattle.sia_ledger.specs.declared.fact.Fact.{Fact}
use Rattle.sia_ledger.specs.declared.fact.Deed.{Deed}
use Rattle.sia_ledger.specs.declared.fact.Deed.TheVariants as deed
use Rattle.sia_ledger.specs.Facts.{fact, spent, is_known, last_deed, fund_in, terms_in, fund_at, terms_at, taxes, tax_of, share, claim_at}
use Rattle.sia_ledger.specs.State.{State, next, makes, add, add_all, numbered}
use Rattle.sia_ledger.specs.Effects.{formed, revised, is_paying, settlement_facts, settled, settled_with, revised_with, with_revision, claim_facts, with_fund_input}
use Rattle.sia_ledger.specs.Making.{is_block, block_count, height_behind, IsFormation, IsSettlement, claim_made, IsClaim, MakesSums, AllMakeSums}
use Rattle.sia_ledger.specs.Paying.{AllDeeds, AllPay}
use Rattle.sia_ledger.proofs.Held.{unknown, known-some}
use Rattle.sia_ledger.proofs.Keeps.{IsAdded, added, back, back_all, runs_pay}
use Rattle.sia_ledger.proofs.Stages.{or_both, LiveCoins, live_coins-after, AllForm, settle_contract, LiveFunds, spend_fund_input}
use Rattle.sia_ledger.proofs.Shares.{claim_later, claim_first}
use Rattle.sia_ledger.proofs.Standing.{or_none, unbroken, not-false, and-true}
use Rattle.sia_ledger.proofs.Outcomes.{add_ids, each_ids, settled_ids}

-- Facts behind others.

-- what a fact makes is said by those behind it, also where more stand behind these
sums_more : (maturity : ℕ) (before : List Fact) (id : List ℕ) (what : Deed) (after more : List Fact) → MakesSums maturity before id what after → MakesSums maturity before id what (after ++ more)
sums_more maturity before id deed.Block after more h = h
sums_more maturity before id (deed.Coin output from) after more h = h
sums_more maturity before id (deed.Fund output) after more h = h
sums_more maturity before id (deed.Formed terms) after more h = h
sums_more maturity before id deed.Spent after more h = λ output live.
    let c = h output live in
    record { earlier = c.earlier; since = c.since; address = c.address; rest = c.rest ++ more; split = c.split; made = ap (λ l. l ++ more) c.made ∙ append_assoc _ c.rest more }
sums_more maturity before id (deed.Revised terms) after more h = h
sums_more maturity before id (deed.Settled valid) after more h =
    record { terms = h.terms; rest = h.rest ++ more; ran = h.ran; made = ap (λ l. l ++ more) h.made ∙ append_assoc _ h.rest more; pays = h.pays }

pub all_sums-append : (maturity : ℕ) (before xs ys : List Fact) → AllMakeSums maturity before xs → AllMakeSums maturity (before ++ xs) ys → AllMakeSums maturity before (xs ++ ys)
all_sums-append maturity before [] ys one two = subst (λ b. AllMakeSums maturity b ys) (append-nil before) two
all_sums-append maturity before (x ∷ xs) ys one two =
    (sums_more maturity before x.id x.deed xs ys one.0, all_sums-append maturity (before ++ x ∷ []) xs ys one.1 (subst (λ b. AllMakeSums maturity b ys) (sym (append_assoc before (x ∷ []) xs)) two))

pub count-append : (xs ys : List Fact) → block_count (xs ++ ys) ≡ block_count xs + block_count ys
unfolding block_count
count-append xs ys = sum_by-append (λ (x : Fact). is_block x.deed) xs ys

pub count-cons : (x : Fact) (xs : List Fact) → block_count (x ∷ xs) ≡ is_block x.deed + block_count xs
unfolding block_count
count-cons x xs = sum_by-cons (λ (x : Fact). is_block x.deed) x xs

pub count-none : block_count [] ≡ 0
unfolding block_count
count-none = refl

count_zero : (x : Fact) (xs : List Fact) → is_block x.deed ≡ 0 → block_count xs ≡ 0 → block_count (x ∷ xs) ≡ 0
count_zero x xs here rest = let split = count-cons x xs in omega (arith, split, here, rest)

-- Outputs make nothing of this kind.

abbrev pub IsOutput : Deed → Type 0
IsOutput (deed.Coin output from) = Unit {0}
IsOutput (deed.Fund output) = Unit {0}
IsOutput other = ⊥

output_makes : (what : Deed) → IsOutput what → makes what ≡ true
output_makes deed.Block o = absurd o
output_makes (deed.Coin output from) o = refl
output_makes (deed.Fund output) o = refl
output_makes (deed.Formed terms) o = refl
output_makes deed.Spent o = absurd o
output_makes (deed.Revised terms) o = absurd o
output_makes (deed.Settled valid) o = absurd o

output_count : (what : Deed) → IsOutput what → is_block what ≡ 0
output_count deed.Block o = absurd o
output_count (deed.Coin output from) o = refl
output_count (deed.Fund output) o = refl
output_count (deed.Formed terms) o = refl
output_count deed.Spent o = refl
output_count (deed.Revised terms) o = refl
output_count (deed.Settled valid) o = refl

output_sums : (maturity : ℕ) (before : List Fact) (id : List ℕ) (what : Deed) (after : List Fact) → IsOutput what → MakesSums maturity before id what after
output_sums maturity before id deed.Block after o = tt
output_sums maturity before id (deed.Coin output from) after o = tt
output_sums maturity before id (deed.Fund output) after o = tt
output_sums maturity before id (deed.Formed terms) after o = absurd o
output_sums maturity before id deed.Spent after o = absurd o
output_sums maturity before id (deed.Revised terms) after o = tt
output_sums maturity before id (deed.Settled valid) after o = absurd o

pub outputs_added : (xs : List Fact) (s : State) → AllDeeds IsOutput xs → (add_all s xs).twice ≡ None → (add_all s xs).facts ≡ s.facts ++ xs
outputs_added [] s all none = sym (append-nil s.facts)
outputs_added (x ∷ xs) s all none =
    let one = added s x (output_makes x.deed all.0) (back_all xs (add s x) none) in
    outputs_added xs (add s x) all.1 none ∙ ap (λ l. l ++ xs) one.facts ∙ append_assoc s.facts (x ∷ []) xs

pub outputs_count : (xs : List Fact) → AllDeeds IsOutput xs → block_count xs ≡ 0
outputs_count [] all = count-none
outputs_count (x ∷ xs) all = let rest = outputs_count xs all.1 in let here = output_count x.deed all.0 in let split = count-cons x xs in omega (arith, rest, here, split)

pub outputs_sums : (maturity : ℕ) (before xs : List Fact) → AllDeeds IsOutput xs → AllMakeSums maturity before xs
outputs_sums maturity before [] all = tt
outputs_sums maturity before (x ∷ xs) all = (output_sums maturity before x.id x.deed xs all.0, outputs_sums maturity (before ++ x ∷ []) xs all.1)

pub numbered_outputs : {X : Type 0} (mk : ℕ → X → Fact) → ((i : ℕ) (x : X) → IsOutput (mk i x).deed) → (index : ℕ) (xs : List X) → AllDeeds IsOutput (numbered mk index xs)
numbered_outputs mk is index [] = tt
numbered_outputs mk is index (x ∷ xs) = (is index x, numbered_outputs mk is (index + 1) xs)

settlement_outputs : (from : ℕ) (contract : List ℕ) (valid : Bool) (index : ℕ) (outputs : List CoinOutput) → AllDeeds IsOutput (settlement_facts from contract valid index outputs)
settlement_outputs from contract valid index [] = tt
settlement_outputs from contract valid index (output ∷ outputs) = by (is_paying output) (settlement_outputs from contract valid (index + 1) outputs)
  where
    by : (b : Bool) → AllDeeds IsOutput (settlement_facts from contract valid (index + 1) outputs) → AllDeeds IsOutput (if b then fact (settlement_id contract valid index) (deed.Coin output from) ∷ settlement_facts from contract valid (index + 1) outputs else settlement_facts from contract valid (index + 1) outputs)
    by true rest = (tt, rest)
    by false rest = rest

claim_outputs : (from : ℕ) (input : FundInput) (claim : ℕ) → AllDeeds IsOutput (claim_facts from input claim)
claim_outputs from input claim = by (claim == 0)
  where
    by : (b : Bool) → AllDeeds IsOutput (if b then [] else fact (claim_id input.parent) (deed.Coin (record { value = claim; address = input.claim_address }) from) ∷ [])
    by true = tt
    by false = (tt, tt)

-- What goes on inside a block.

-- facts more, which make the sums that they name
pub record SumsMade (maturity : ℕ) (s t : State) : Type 0 where
  pub new : List Fact
  pub facts : t.facts ≡ s.facts ++ new
  pub ids : t.ids ≡ s.ids
  pub no_block : block_count new ≡ 0
  pub sums : AllMakeSums maturity s.facts new

-- so it is inside a block whose own identifier is made, where nothing is made twice
pub record Goes (maturity : ℕ) (s t : State) : Type 0 where
  pub back : t.twice ≡ None → s.twice ≡ None
  pub made : t.twice ≡ None → block_count s.facts ≡ next s + 1 → SumsMade maturity s t

pub goes_none : (maturity : ℕ) (s : State) → Goes maturity s s
goes_none maturity s = record {
  back = λ none. none;
  made = λ none count. record { new = []; facts = sym (append-nil s.facts); ids = refl; no_block = count-none; sums = tt };
}

-- the height stays
goes_on : (maturity : ℕ) (s t : State) → block_count s.facts ≡ next s + 1 → SumsMade maturity s t → block_count t.facts ≡ next t + 1
goes_on maturity s t count made =
    let split = count-append s.facts made.new in
    let same : block_count t.facts ≡ block_count (s.facts ++ made.new) = ap block_count made.facts in
    let at : next t ≡ next s = ap (λ (ids : List (List ℕ)). length ids) made.ids in
    omega (arith, count, split, same, at, made.no_block)

pub goes_then : (maturity : ℕ) (s t u : State) → Goes maturity s t → Goes maturity t u → Goes maturity s u
goes_then maturity s t u one two = record {
  back = λ none. one.back (two.back none);
  made = λ none count.
      let a = one.made (two.back none) count in
      let b = two.made none (goes_on maturity s t count a) in
      let split = count-append a.new b.new in
      record {
        new = a.new ++ b.new;
        facts = b.facts ∙ ap (λ l. l ++ b.new) a.facts ∙ append_assoc s.facts a.new b.new;
        ids = b.ids ∙ a.ids;
        no_block = omega (arith, split, a.no_block, b.no_block);
        sums = all_sums-append maturity s.facts a.new b.new a.sums (subst (λ l. AllMakeSums maturity l b.new) a.facts b.sums);
      };
}

pub goes_outputs : (maturity : ℕ) (xs : List Fact) (s : State) → AllDeeds IsOutput xs → Goes maturity s (add_all s xs)
goes_outputs maturity xs s all = record {
  back = back_all xs s;
  made = λ none count. record { new = xs; facts = outputs_added xs s all none; ids = each_ids add add_ids xs s; no_block = outputs_count xs all; sums = outputs_sums maturity s.facts xs all };
}

-- Siacoin inputs are no siafund outputs.
pub goes_inputs : (maturity : ℕ) (inputs : List CoinInput) (s : State) (n : ℕ) → LiveCoins s.facts inputs n → names_twice (coin_parents inputs) ≡ false → Goes maturity s (add_all s (map (λ (input : CoinInput). spent input.parent) inputs))
unfolding add
goes_inputs maturity [] s n live once = goes_none maturity s
goes_inputs maturity (input ∷ inputs) s n (output, from, rest, last, whole, live) once =
    let both = or_both (list_any (bytes_eq input.parent) (coin_parents inputs)) _ once in
    let x = spent input.parent in
    let s1 : State = record s { facts = s.facts ++ x ∷ [] } in
    let no_fund : (o : FundOutput) → fund_at s.facts input.parent ≡ Some o → ⊥ = λ o is. none_some o (sym (ap fund_in last) ∙ is) in
    let one : Goes maturity s s1 = record {
      back = λ none. none;
      made = λ none count. record { new = x ∷ []; facts = refl; ids = refl; no_block = count_zero x [] refl count-none; sums = (λ o is. absurd (no_fund o is), tt) };
    } in
    goes_then maturity s s1 _ one (goes_inputs maturity inputs s1 rest (live_coins-after s.facts input.parent inputs rest both.0 live) both.1)
  where
    none_some : (o : FundOutput) → None ≡ Some o → ⊥
    none_some o e = cc

-- Contracts.

-- contracts whose windows lie ahead
abbrev pub AllAhead : ℕ → List FileContract → Type 0
AllAhead height [] = Unit {0}
AllAhead height (contract ∷ contracts) = (height < contract.start) × (contract.start < contract.end) × AllAhead height contracts

pub all_ahead : (height t i : ℕ) (contracts : List FileContract) → first_at (form_window height t) i contracts ≡ None → AllAhead height contracts
unfolding form_window
all_ahead height t i [] none = tt
all_ahead height t i (contract ∷ contracts) none =
    let both = or_none (form_window height t i contract) _ none in
    let ahead = and-true (nat_lt height contract.start) (nat_lt contract.start contract.end) (not-false _ (unbroken _ _ both.0)) in
    (ltb-true height contract.start ahead.0, ltb-true contract.start contract.end ahead.1, all_ahead height t (i + 1) contracts both.1)

pub goes_contracts : (maturity : ℕ) (mk : ℕ → List ℕ) (index : ℕ) (contracts : List FileContract) (s : State) (low : ℕ) → next s ≡ low → AllAhead low contracts → AllForm contracts → Goes maturity s (add_all s (numbered (λ i (contract : FileContract). fact (mk i) (deed.Formed (formed contract))) index contracts))
goes_contracts maturity mk index [] s low at ahead form = goes_none maturity s
goes_contracts maturity mk index (contract ∷ contracts) s low at ahead form =
    let x = fact (mk index) (deed.Formed (formed contract)) in
    let one : Goes maturity s (add s x) = record {
      back = back s x;
      made = λ none count. record {
        new = x ∷ [];
        facts = (added s x refl none).facts;
        ids = add_ids s x;
        no_block = count_zero x [] refl count-none;
        sums = (record { ahead = omega (arith, count, at, ahead.0); window = ahead.1; pays = form.0 }, tt);
      };
    } in
    goes_then maturity s (add s x) _ one (goes_contracts maturity mk (index + 1) contracts (add s x) low (ap (λ (ids : List (List ℕ)). length ids) (add_ids s x) ∙ at) ahead.2 form.1)

pub goes_revisions : (maturity : ℕ) (revisions : List Revision) (s : State) → Goes maturity s (fold with_revision s revisions)
unfolding add
goes_revisions maturity [] s = goes_none maturity s
goes_revisions maturity (revision ∷ revisions) s =
    goes_then maturity s (with_revision s revision) _ (by (terms_at s.facts revision.parent)) (goes_revisions maturity revisions (with_revision s revision))
  where
    by : (found : Option Terms) → Goes maturity s (revised_with s revision found)
    by None = goes_none maturity s
    by (Some terms) = record {
      back = λ none. none;
      made = λ none count. record { new = fact revision.parent (deed.Revised (revised terms revision)) ∷ []; facts = refl; ids = refl; no_block = count_zero (fact revision.parent (deed.Revised (revised terms revision))) [] refl count-none; sums = (tt, tt) };
    }

-- Settlements.

goes_settled : (maturity from : ℕ) (valid : Bool) (s : State) (contract : List ℕ) → from ≡ next s + maturity → AllPay s.facts → Goes maturity s (settled from valid s contract)
unfolding add
goes_settled maturity from valid s contract at pays = by (terms_at s.facts contract) refl
  where
    x : Fact
    x = fact contract (deed.Settled valid)

    s1 : State
    s1 = record s { facts = s.facts ++ x ∷ [] }

    by : (found : Option Terms) → terms_at s.facts contract ≡ found → Goes maturity s (settled_with from valid s contract found)
    by None is = goes_none maturity s
    by (Some terms) is = record {
      back = back_all outs s1;
      made = λ none count.
          let height : from ≡ height_behind s.facts + maturity = omega (arith, at, count) in
          record {
            new = x ∷ outs;
            facts = outputs_added outs s1 all none ∙ append_assoc s.facts (x ∷ []) outs;
            ids = each_ids add add_ids outs s1;
            no_block = count_zero x outs refl (outputs_count outs all);
            sums = (record { terms = terms; rest = []; ran = is; made = ap (λ f. settlement_facts f contract valid 0 (if valid then terms.valid else terms.missed)) height ∙ sym (append-nil _); pays = runs_pay s.facts contract terms pays is }, outputs_sums maturity (s.facts ++ x ∷ []) outs all);
          };
    }
      where
        outs : List Fact
        outs = settlement_facts from contract valid 0 (if valid then terms.valid else terms.missed)

        all : AllDeeds IsOutput outs
        all = settlement_outputs from contract valid 0 (if valid then terms.valid else terms.missed)

pub goes_settle_all : {X : Type 0} (maturity : ℕ) (of : X → List ℕ) (from : State → ℕ) (valid : Bool) (xs : List X) (s : State) (low : ℕ) → ((t : State) → next t ≡ low → from t ≡ next t + maturity) → next s ≡ low → AllPay s.facts → Goes maturity s (fold (λ t x. settled (from t) valid t (of x)) s xs)
goes_settle_all maturity of from valid [] s low heights at pays = goes_none maturity s
goes_settle_all maturity of from valid (x ∷ xs) s low heights at pays =
    let one = settle_contract (from s) valid s (of x) pays in
    let s1 = settled (from s) valid s (of x) in
    goes_then maturity s s1 _ (goes_settled maturity (from s) valid s (of x) (heights s at) pays)
    (goes_settle_all maturity of from valid xs s1 low heights (ap (λ (ids : List (List ℕ)). length ids) (settled_ids (from s) valid s (of x)) ∙ at) one.pays)

-- Claims.

-- where a siafund output was made, and what it claims of the taxes since
record IsClaimed (facts : List Fact) (id : List ℕ) (output : FundOutput) : Type 0 where
  earlier : List Fact
  since : List Fact
  split : facts ≡ earlier ++ fact id (deed.Fund output) ∷ since
  claim : claim_at facts id ≡ output.value * taxes since / fund_count

claimed : (facts : List Fact) (id : List ℕ) (output : FundOutput) → last_deed facts id ≡ Some (deed.Fund output) → IsClaimed facts id output
claimed [] id output is = cc
claimed (x ∷ rest) id output is = by (claimed rest id output) (is_known rest id) refl (bytes_eq x.id id) refl is
  where
    by : (last_deed rest id ≡ Some (deed.Fund output) → IsClaimed rest id output) → (k : Bool) → is_known rest id ≡ k → (b : Bool) → bytes_eq x.id id ≡ b → option_or (last_deed rest id) (if b then Some x.deed else None) ≡ Some (deed.Fund output) → IsClaimed (x ∷ rest) id output
    by earlier true known b same is =
        let found = known-some rest id known in
        let last : last_deed rest id ≡ Some (deed.Fund output) = found.1 ∙ sym (ap (λ f. option_or f (if b then Some x.deed else None)) found.1) ∙ is in
        let later = earlier last in
        record { earlier = x ∷ later.earlier; since = later.since; split = ap (λ l. x ∷ l) later.split; claim = claim_later x rest id known ∙ later.claim }
    by earlier false new true same is =
        let here : Some x.deed ≡ Some (deed.Fund output) = sym (ap (λ f. option_or f (Some x.deed)) (unknown rest id new)) ∙ is in
        let what : x.deed ≡ deed.Fund output = cc in
        let own : x.id ≡ id = same_text x.id id (sym same) in
        record {
          earlier = [];
          since = rest;
          split = ap (λ i. fact i x.deed ∷ rest) own ∙ ap (λ w. fact id w ∷ rest) what;
          claim = claim_first x rest id new ∙ ap (λ b. if b then share x.deed rest else 0) same ∙ ap (λ w. share w rest) what;
        }
    by earlier false new false other is =
        let here : None ≡ Some (deed.Fund output) = sym (ap (λ f. option_or f None) (unknown rest id new)) ∙ is in
        absurd (none_some here)
      where
        none_some : None ≡ Some (deed.Fund output) → ⊥
        none_some e = cc

taxes-split : (earlier since : List Fact) (id : List ℕ) (output : FundOutput) → taxes (earlier ++ fact id (deed.Fund output) ∷ since) ≡ taxes earlier + taxes since
unfolding taxes
taxes-split earlier since id output =
    let split = sum_by-append (λ (x : Fact). tax_of x.deed) earlier (fact id (deed.Fund output) ∷ since) in
    let one = sum_by-cons (λ (x : Fact). tax_of x.deed) (fact id (deed.Fund output)) since in
    omega (arith, split, one)

claim_sums : (maturity from : ℕ) (facts : List Fact) (input : FundInput) (output : FundOutput) → from ≡ height_behind facts + maturity → last_deed facts input.parent ≡ Some (deed.Fund output) → IsClaim maturity facts input.parent output (claim_facts from input (claim_at facts input.parent))
claim_sums maturity from facts input output at last =
    let c = claimed facts input.parent output last in
    let split = taxes-split c.earlier c.since input.parent output in
    let whole : taxes facts ≡ taxes (c.earlier ++ fact input.parent (deed.Fund output) ∷ c.since) = ap taxes c.split in
    let risen : taxes c.since ≡ taxes facts - taxes c.earlier = omega (arith, split, whole) in
    let claim : claim_at facts input.parent ≡ output.value * (taxes facts - taxes c.earlier) / fund_count = c.claim ∙ ap (λ n. output.value * n / fund_count) risen in
    record {
      earlier = c.earlier;
      since = c.since;
      address = input.claim_address;
      rest = [];
      split = c.split;
      made = ap (λ n. claim_made n input.parent input.claim_address (claim_at facts input.parent)) at ∙ ap (claim_made (height_behind facts + maturity) input.parent input.claim_address) claim ∙ sym (append-nil _);
    }

goes_fund_input : (maturity : ℕ) (s : State) (input : FundInput) (output : FundOutput) → last_deed s.facts input.parent ≡ Some (deed.Fund output) → Goes maturity s (with_fund_input maturity s input)
unfolding add
goes_fund_input maturity s input output last = record {
  back = back_all outs s1;
  made = λ none count.
      let at : next s + maturity ≡ height_behind s.facts + maturity = omega (arith, count) in
      record {
        new = x ∷ outs;
        facts = outputs_added outs s1 all none ∙ append_assoc s.facts (x ∷ []) outs;
        ids = each_ids add add_ids outs s1;
        no_block = count_zero x outs refl (outputs_count outs all);
        sums = (λ o live. subst (λ (p : FundOutput). IsClaim maturity s.facts input.parent p outs) (same o (sym (ap fund_in last) ∙ live)) (claim_sums maturity (next s + maturity) s.facts input output at last), outputs_sums maturity (s.facts ++ x ∷ []) outs all);
      };
}
  where
    x : Fact
    x = spent input.parent

    s1 : State
    s1 = record s { facts = s.facts ++ x ∷ [] }

    outs : List Fact
    outs = claim_facts (next s + maturity) input (claim_at s.facts input.parent)

    all : AllDeeds IsOutput outs
    all = claim_outputs (next s + maturity) input (claim_at s.facts input.parent)

    same : (o : FundOutput) → Some output ≡ Some o → output ≡ o
    same o e = cc

pub goes_fund_inputs : (maturity : ℕ) (inputs : List FundInput) (s : State) (n : ℕ) → LiveFunds s.facts inputs n → names_twice (fund_parents inputs) ≡ false → AllPay s.facts → Goes maturity s (fold (with_fund_input maturity) s inputs)
goes_fund_inputs maturity [] s n live once pays = goes_none maturity s
goes_fund_inputs maturity (input ∷ inputs) s n (output, rest, last, whole, live) once pays =
    let both = or_both (list_any (bytes_eq input.parent) (fund_parents inputs)) _ once in
    let one = spend_fund_input maturity s input inputs output rest pays last both.0 live in
    let s1 = with_fund_input maturity s input in
    goes_then maturity s s1 _ (goes_fund_input maturity s input output last) (goes_fund_inputs maturity inputs s1 rest one.live both.1 one.one.pays)
