-- What is known of parameters that begin a chain.
use Rattle.std.proofs.Common.{◌≡◌, ℕ, ◌≤◌, Bool, true, false, Option, None, Some, refl, arith, ltb-false}
use Rattle.std.specs.Prelude.{is_some, nat_lt, ◌==◌, ◌||◌, not}
use Rattle.std.proofs.lemmas.Bool.{eqb-true}
use Rattle.sia_rules.specs.Sums.{fund_sum}
use Rattle.sia_ledger.specs.declared.params.Params.{Params}
use Rattle.sia_ledger.specs.Genesis.{genesis_refusal, wrong_funds, wrong_maturity}
use Rattle.sia_ledger.proofs.Standing.{not-false, or-false, or_none, unbroken}

-- with nothing wrong, they hold all siafunds and rest no longer than may be
pub genesis_none : (params : Params) → genesis_refusal params ≡ None → (fund_sum params.funds ≡ 10000) × (params.maturity ≤ 10000)
genesis_none params none =
    let both = or_none (wrong_funds params.funds) (wrong_maturity params.maturity) none in
    let funds = or-false (not (fund_sum params.funds == 10000)) _ (unbroken _ _ both.0) in
    let rested = or-false (nat_lt params.maturity 1) (nat_lt 10000 params.maturity) (unbroken _ _ both.1) in
    (eqb-true (fund_sum params.funds) 10000 (not-false (fund_sum params.funds == 10000) funds.0), omega (arith, ltb-false 10000 params.maturity rested.1))

-- what isn't there is none
pub none_there : {X : Type 0} (found : Option X) → false ≡ is_some found → found ≡ None
none_there None is = refl
none_there (Some x) is = cc
