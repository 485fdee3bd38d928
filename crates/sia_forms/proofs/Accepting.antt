-- What a plan makes is what the host asks for.
use Rattle.std.proofs.Common.{◌≡◌, ℕ, ◌+◌, ◌-◌, ◌≤◌, Bool, true, not, List, None, Ok, refl, ap, ◌∙◌, arith, eq-eqb, lt-ltb}
use Rattle.std.proofs.lemmas.Bool.{le-leb}
use Rattle.std.proofs.lemmas.Slice.Eq.{bytes_eq-Decides}
use Rattle.std.specs.Prelude.{nat_le, ◌==◌, ◌&&◌}
use Rattle.std.specs.Str.{bytes_eq}
use Rattle.sia_encoding.specs.Firsts.{broken, ◌or_else◌}
use Rattle.sia_types.specs.declared.coin.Coin.{Coin}
use Rattle.sia_types.specs.declared.file_contracts.Revision.{Revision}
use Rattle.sia_types.specs.declared.settings.Settings.{Settings}
use Rattle.sia_types.specs.declared.transaction.Transaction.{Transaction}
use Rattle.sia_types.specs.FileContracts.{revision}
use Rattle.sia_forms.specs.declared.fault.FormFault.TheVariants as form_fault
use Rattle.sia_forms.specs.declared.plan.FormPlan.{FormPlan}
use Rattle.sia_forms.specs.declared.plan.Outset.{Outset}
use Rattle.sia_forms.specs.Building.{IsBuilt, KeepsLimits, form_outset, planned_contract, planned_transaction, renew_outset}
use Rattle.sia_forms.specs.Checks.{collateral_within, contract_answer, form_answer, renew_answer, terms_fault}
use Rattle.sia_forms.specs.Parties.{both_address, own_address}
use Rattle.sia_forms.specs.Renewing.{clearing, least_renewed, risk_of}

-- tests that pass
all_of_two : (a b : Bool) → a ≡ true → b ≡ true → (a && b) ≡ true
all_of_two a b p q = rw (p, q) refl

all_of_three : (a b c : Bool) → a ≡ true → b ≡ true → c ≡ true → (a && b && c) ≡ true
all_of_three a b c p q r = rw (p, q, r) refl

all_of_four : (a b c d : Bool) → a ≡ true → b ≡ true → c ≡ true → d ≡ true → (a && b && c && d) ≡ true
all_of_four a b c d p q r s = rw (p, q, r, s) refl

all_of_seven : (a b c d e f g : Bool) → a ≡ true → b ≡ true → c ≡ true → d ≡ true → e ≡ true → f ≡ true → g ≡ true → (a && b && c && d && e && f && g) ≡ true
all_of_seven a b c d e f g p q r s t u v = rw (p, q, r, s, t, u, v) refl

no_fault : {F : Type 0} (a b c : Bool) (e f g : F) → a ≡ true → b ≡ true → c ≡ true → (broken (not a) e or_else broken (not b) f or_else broken (not c) g) ≡ None
no_fault a b c e f g p q r = rw (p, q, r) refl

same_bytes : (xs : List ℕ) → bytes_eq xs xs ≡ true
same_bytes xs = (bytes_eq-Decides xs xs).1 refl

same_number : (n : ℕ) → (n == n) ≡ true
same_number n = eq-eqb n n refl

-- the host's value is its least one and the collateral
collateral_kept : (s : Settings) (least collateral : ℕ) → collateral ≤ s.max_collateral → collateral_within s least (least + collateral) ≡ Ok collateral
unfolding collateral_within
collateral_kept s least collateral low =
    let above : (least + collateral) - least ≡ collateral = omega arith in
    let enough : nat_le least (least + collateral) ≡ true = le-leb _ _ (omega arith) in
    let within : nat_le collateral s.max_collateral ≡ true = le-leb _ _ low in
    rw (above, enough, within) refl

-- the contract of a plan is what the host asks for, where the outset is
pub contract_accepted : (plan : FormPlan) (s : Settings) (outset : Outset) (renter_key : List ℕ) (payout least : ℕ) → KeepsLimits plan s → outset.host_value ≡ least + plan.collateral
    → contract_answer s (record { size = outset.size; root = outset.root; address = both_address renter_key s.host_key; least = least; risk = outset.risk }) (planned_contract plan s outset renter_key payout) ≡ Ok plan.collateral
unfolding contract_answer terms_fault planned_contract
contract_accepted plan s outset renter_key payout least keeps value =
    rw (no_fault _ _ _ (form_fault.BadContract 1) (form_fault.BadContract 2) (form_fault.BadContract 3)
    (all_of_four _ _ _ _ (same_number outset.size) (same_bytes outset.root) refl (same_bytes (both_address renter_key s.host_key)))
    (all_of_seven _ _ _ _ _ _ _ (same_bytes (own_address renter_key)) (same_bytes s.address) (same_bytes s.address) refl (same_number plan.amount) (same_number (outset.host_value - outset.risk)) (same_number outset.risk))
    (all_of_three _ _ _ (lt-ltb _ _ keeps.later) (le-leb _ _ keeps.longer) (le-leb _ _ keeps.sooner)))
    (ap (collateral_within s least) value ∙ collateral_kept s least plan.collateral keeps.collateral)

-- what forms
pub form_accepted : (plan : FormPlan) (s : Settings) (coins : List Coin) (renter_key : List ℕ) (tx : Transaction) → KeepsLimits plan s → IsBuilt plan s (form_outset plan s) coins renter_key tx → form_answer tx renter_key s ≡ Ok plan.collateral
unfolding form_answer planned_transaction
form_accepted plan s coins renter_key tx keeps built =
    rw built.is (contract_accepted plan s (form_outset plan s) renter_key built.payout s.prices.contract_price keeps refl)

-- what renews
pub renewal_accepted : (plan : FormPlan) (s : Settings) (coins : List Coin) (renter_key : List ℕ) (newest : Revision) (tx : Transaction) → KeepsLimits plan s → newest.address ≡ both_address renter_key s.host_key → IsBuilt plan s (renew_outset plan s newest) coins renter_key tx → renew_answer tx newest s ≡ Ok plan.collateral
unfolding renew_answer planned_transaction planned_contract least_renewed risk_of
renewal_accepted plan s coins renter_key newest tx keeps both built =
    rw (built.is, same_bytes (revision.spelled (clearing newest)), both)
    (contract_accepted plan s (renew_outset plan s newest) renter_key built.payout (least_renewed s plan.end newest) keeps refl)
