-- The reading of `chain.siafund` as a loop over its tables goes through it.
use Rattle.std.proofs.Common.{true, false, ◌==◌, ◌&&◌, nat_le, ◌≡◌, ℕ, ◌+◌, ◌<◌, List, [], ◌∷◌, ◌++◌, length, drop, get_or, Option, Some, None, Ok, All, subst, option_map, ◌≤◌, ◌*◌, option_and_then, codes, ℤ, pos, negsuc, refl, ap, append_assoc, arith}
use Rattle.std.specs.List.{list_any}
use Rattle.std.specs.Option.{ok_or}
use Rattle.std.proofs.lemmas.Bool.{and_parts}
use Rattle.std.proofs.lemmas.Bool.Decides.{nat_tests}
use Rattle.std.proofs.lemmas.List.Elements.{All-nil, All-cons, All-weaker}
use Rattle.std.proofs.lemmas.List.Folds.{list_any_none}
use Rattle.std.proofs.lemmas.List.Sums.{sum_by-le}
use Rattle.toml.specs.Data.{Data, Items, no_items, item, get, as_integer, as_str}
use Rattle.toml.specs.View.{view, items_view}
use Rattle.toml.specs.declared.value.Value.{Value}
use Rattle.toml.proofs.Views.{items_view-drop}
use Rattle.sia_types.specs.declared.funds.FundOutput.{FundOutput}
use Rattle.sia_rules.specs.Sums.{fund_sum}
use Rattle.sia_ledger.specs.Genesis.{wrong_funds}
use Rattle.sia_config.specs.Siafunds.{address_of, fund_to, siafund_of, siafunds_of_items, is_whole_issue}
use Rattle.sia_config.specs.Values.{between, integer_in}

-- the outputs that were read, and then those of the tables from index i on
abbrev pub read_from : List FundOutput → List Value → ℕ → Option (List FundOutput)
read_from front tables i = option_map (λ rest. front ++ rest) (siafunds_of_items (items_view (drop i tables)))

-- one more table is read
pub read_from-more : (front : List FundOutput) (tables : List Value) (i : ℕ) (t : Value) (fund : FundOutput) → i < length tables → t ≡ get_or tables i t → siafund_of (view t) ≡ Some fund → read_from (front ++ fund ∷ []) tables (i + 1) ≡ read_from front tables i
read_from-more front tables i t fund below is read =
    let e : siafund_of (view (get_or tables i t)) ≡ Some fund = rw (← is) read in
    rw (items_view-drop tables i t below, e) (moved (siafunds_of_items (items_view (drop (i + 1) tables))))
  where
    moved : (rest : Option (List FundOutput)) → option_map (λ r. (front ++ fund ∷ []) ++ r) rest ≡ option_map (λ r. front ++ r) (option_map (λ funds. fund ∷ funds) rest)
    moved None = refl
    moved (Some r) = ap Some (append_assoc front (fund ∷ []) r)

-- a table is refused
pub read_from-refused : (front : List FundOutput) (tables : List Value) (i : ℕ) (t : Value) → i < length tables → t ≡ get_or tables i t → siafund_of (view t) ≡ None → read_from front tables i ≡ None
read_from-refused front tables i t below is read =
    let e : siafund_of (view (get_or tables i t)) ≡ None = rw (← is) read in
    rw (items_view-drop tables i t below, e) refl

-- a value in a range is in it
pub between-bounds : (low high : ℕ) (z : Option ℤ) (n : ℕ) → between low high z ≡ Some n → (low ≤ n) × (n ≤ high)
between-bounds low high None n e = absurd (cc)
between-bounds low high (Some (negsuc k)) n e = absurd (cc)
between-bounds low high (Some (pos k)) n e = grind (arith, nat_tests)

-- an entry has from 1 to 10,000 siafunds
pub siafund_of-bounds : (d : Data) (fund : FundOutput) → siafund_of d ≡ Some fund → (1 ≤ fund.value) × (fund.value ≤ 10000)
siafund_of-bounds d fund e = of_parts (option_and_then address_of (option_and_then as_str (get (codes "to") d))) (get (codes "value") d) e
  where
    value_in : ℕ → Option FundOutput → ℕ
    value_in n None = n
    value_in n (Some f) = f.value

    of_value : (address : List ℕ) (value : Option ℕ) → ((n : ℕ) → value ≡ Some n → (1 ≤ n) × (n ≤ 10000)) → option_map (fund_to address) value ≡ Some fund → (1 ≤ fund.value) × (fund.value ≤ 10000)
    of_value address None within made = absurd (cc)
    of_value address (Some n) within made =
        let bounds = within n refl in
        let same : n ≡ fund.value = ap (λ f. value_in n f) made in
        rw (← same) bounds

    of_parts : (to : Option (List ℕ)) (value : Option Data) → option_and_then (λ address. option_map (fund_to address) (option_and_then (integer_in 1 10000) value)) to ≡ Some fund → (1 ≤ fund.value) × (fund.value ≤ 10000)
    of_parts None value made = absurd (cc)
    of_parts (Some address) None made = absurd (cc)
    of_parts (Some address) (Some v) made = of_value address (integer_in 1 10000 v) (between-bounds 1 10000 (as_integer v)) made

-- what an entry's value may be
abbrev pub IsEntry : FundOutput → Type 0
IsEntry fund = (1 ≤ fund.value) × (fund.value ≤ 10000)

pub siafunds_of_items-entries : (ds : Items) (funds : List FundOutput) → siafunds_of_items ds ≡ Some funds → All IsEntry funds
siafunds_of_items-entries no_items funds e =
    let none : [] ≡ funds = cc in
    subst (λ fs. All IsEntry fs) none (All-nil IsEntry)
siafunds_of_items-entries (item d ds) funds e =
    of_parts (siafund_of d) (siafunds_of_items ds) (siafund_of-bounds d) (siafunds_of_items-entries ds) e
  where
    of_parts : (first : Option FundOutput) (rest : Option (List FundOutput)) → ((f : FundOutput) → first ≡ Some f → IsEntry f) → ((fs : List FundOutput) → rest ≡ Some fs → All IsEntry fs) → option_and_then (λ fund. option_map (λ fs. fund ∷ fs) rest) first ≡ Some funds → All IsEntry funds
    of_parts None rest one more made = absurd (cc)
    of_parts (Some f) None one more made = absurd (cc)
    of_parts (Some f) (Some fs) one more made =
        let same : (f ∷ fs) ≡ funds = cc in
        subst (λ gs. All IsEntry gs) same (All-cons IsEntry f fs (one f refl) (more fs refl))

-- so the sum of some entries can't be far
pub siafund_sum-le : (ds : Items) (funds : List FundOutput) → siafunds_of_items ds ≡ Some funds → fund_sum funds ≤ 10000 * length funds
siafund_sum-le ds funds e =
    let entries = siafunds_of_items-entries ds funds e in
    let high : All (λ f. f.value ≤ 10000) funds = All-weaker IsEntry (λ f. f.value ≤ 10000) (λ f entry. entry.1) funds entries in
    omega (arith, sum_by-le (λ f. f.value) 10000 funds high)

-- a value that an answer was made of
pub ok_or-found : {A E : Type 0} (value : Option A) (e : E) (x : A) → ok_or value e ≡ Ok x → value ≡ Some x
ok_or-found None e x found = absurd (cc)
ok_or-found (Some y) e x found = let same : y ≡ x = cc in ap Some same

some : (n : ℕ) → 1 ≤ n → (n == 0) ≡ false
some n above = grind (arith, nat_tests)

-- outputs that are accepted hold all siafunds, and each of them some
pub whole_issue-founds : (ds : Items) (funds : List FundOutput) → siafunds_of_items ds ≡ Some funds → is_whole_issue funds ≡ true → wrong_funds funds ≡ None
whole_issue-founds ds funds read whole =
    let sums = and_parts (nat_le 1 (length funds) && nat_le (length funds) 100) (fund_sum funds == 10000) whole in
    let none : list_any (λ fund. fund.value == 0) funds ≡ false =
    list_any_none (λ fund. fund.value == 0) funds (All-weaker IsEntry (λ fund. (fund.value == 0) ≡ false) (λ fund entry. some fund.value entry.0) funds (siafunds_of_items-entries ds funds read)) in
    rw (sums.1, none) refl
