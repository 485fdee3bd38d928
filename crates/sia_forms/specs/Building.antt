-- What a renter makes of its plan to form or to renew a contract, and the whole transaction (siad's modules/renter/proto; Sia
-- whitepaper).
use Rattle.std.specs.Prelude.{◌≡◌, ℕ, ◌+◌, ◌-◌, ◌^◌, ◌<◌, ◌≤◌, ◌==◌, ◌⊎◌, max, List, [], ◌∷◌, ◌++◌, if◌then◌else◌}
use Rattle.sia_rules.specs.Amounts.{IsPayoutFor, capped}
use Rattle.sia_types.specs.declared.coin.Coin.{Coin}
use Rattle.sia_types.specs.declared.coins.CoinOutput.{CoinOutput}
use Rattle.sia_types.specs.declared.file_contracts.FileContract.{FileContract}
use Rattle.sia_types.specs.declared.file_contracts.Revision.{Revision}
use Rattle.sia_types.specs.declared.settings.Settings.{Settings}
use Rattle.sia_types.specs.declared.signature.Signature.{Signature}
use Rattle.sia_types.specs.declared.transaction.Transaction.{Transaction}
use Rattle.sia_forms.specs.declared.fault.FormFault.{FormFault}
use Rattle.sia_forms.specs.declared.fault.FormFault.TheVariants as form_fault
use Rattle.sia_forms.specs.declared.funding.Additions.{Additions}
use Rattle.sia_forms.specs.declared.plan.FormPlan.{FormPlan}
use Rattle.sia_forms.specs.declared.plan.Outset.{Outset}
use Rattle.sia_forms.specs.Choices.{AreAdded, worth_of}
use Rattle.sia_forms.specs.Parties.{both_address, own_address, zero_hash}
use Rattle.sia_forms.specs.Renewing.{clearing, least_renewed, risk_of}

-- the outset of a formation: no byte, no revision, and nothing of the host's value at risk
abbrev pub form_outset : FormPlan → Settings → Outset
form_outset plan s = record { size = 0; root = zero_hash; revisions = []; host_value = s.prices.contract_price + plan.collateral; risk = 0 }

-- the outset of a renewal: what the old contract stores, the revision that clears it, and what is at risk
abbrev pub renew_outset : FormPlan → Settings → Revision → Outset
renew_outset plan s newest =
    let host_value = least_renewed s plan.end newest + plan.collateral in
    record { size = newest.size; root = newest.root; revisions = clearing newest ∷ []; host_value = host_value; risk = risk_of s plan.end newest host_value }

-- the payout leaves the renter's amount and the host's value after its tax; the renter's coins bring it and the fee but for the
-- collateral, which the host brings
pub record IsFunded (plan : FormPlan) (host_value payout need : ℕ) : Type 0 where
  pub pays : IsPayoutFor (plan.amount + host_value) payout
  pub brings : need ≡ payout + plan.fee - plan.collateral

-- an output
abbrev pub output : ℕ → List ℕ → CoinOutput
output value address = record { value = value; address = address }

-- the contract of a plan
unfoldable pub planned_contract : FormPlan → Settings → Outset → List ℕ → ℕ → FileContract
planned_contract plan s outset renter_key payout = record {
  size = outset.size;
  root = outset.root;
  start = plan.start;
  end = plan.end;
  payout = payout;
  valid =
      output plan.amount (own_address renter_key)
      ∷ output outset.host_value s.address
      ∷ [];
  missed =
      output plan.amount (own_address renter_key)
      ∷ output (outset.host_value - outset.risk) s.address
      ∷ output outset.risk zero_hash
      ∷ [];
  address = both_address renter_key s.host_key;
  number = 0;
}

-- a fee, and none of 0
abbrev pub fee_entries : ℕ → List ℕ
fee_entries fee = if fee == 0 then [] else fee ∷ []

-- the transaction of a plan, with what the renter's coins add
unfoldable pub planned_transaction : FormPlan → Settings → Outset → List ℕ → ℕ → Additions → Transaction
planned_transaction plan s outset renter_key payout added = record {
  coin_inputs = added.inputs;
  coin_outputs = added.outputs;
  contracts = planned_contract plan s outset renter_key payout ∷ [];
  revisions = outset.revisions;
  proofs = [];
  fund_inputs = [];
  fund_outputs = [];
  fees = fee_entries plan.fee;
  notes = [];
  signatures = [];
}

-- a transaction is built by a plan
pub record IsBuilt (plan : FormPlan) (s : Settings) (outset : Outset) (coins : List Coin) (renter_key : List ℕ) (tx : Transaction) : Type 0 where
  pub payout : ℕ
  pub need : ℕ
  pub funded : IsFunded plan outset.host_value payout need
  pub fits : max payout need < 2 ^ 128
  pub added : Additions
  pub are_added : AreAdded coins need renter_key (own_address renter_key) added
  pub is : tx ≡ planned_transaction plan s outset renter_key payout added

-- the payout or the need of a plan is above what a currency holds; it is told as the greatest currency
pub record IsTooMuch (plan : FormPlan) (host_value : ℕ) (coins : List Coin) (need have : ℕ) : Type 0 where
  pub past : (payout real : ℕ) → IsFunded plan host_value payout real → 2 ^ 128 ≤ max payout real
  pub need_told : need ≡ 2 ^ 128 - 1
  pub have_told : have ≡ capped (worth_of coins)

-- the payout and the need are within a currency, and all coins together are worth less than the need
pub record IsTooLittle (plan : FormPlan) (host_value : ℕ) (coins : List Coin) (need have : ℕ) : Type 0 where
  pub payout : ℕ
  pub funded : IsFunded plan host_value payout need
  pub fits : max payout need < 2 ^ 128
  pub all : have ≡ worth_of coins
  pub less : have < need

-- why nothing is built
abbrev pub IsNotBuilt : FormPlan → ℕ → List Coin → FormFault → Type 0
IsNotBuilt plan host_value coins (form_fault.NoFunds need have) = IsTooMuch plan host_value coins need have ⊎ IsTooLittle plan host_value coins need have
IsNotBuilt plan host_value coins (form_fault.BadContract point) = ⊥
IsNotBuilt plan host_value coins form_fault.Memory = Unit {0}

-- the whole transaction: what the host adds stands behind what the renter has, and the renter's signatures before the host's
unfoldable pub finished : Transaction → Additions → List Signature → List Signature → Transaction
finished tx added renter host = record tx { coin_inputs = tx.coin_inputs ++ added.inputs; coin_outputs = tx.coin_outputs ++ added.outputs; signatures = renter ++ host }

-- a plan keeps a host's window and its greatest collateral
pub record KeepsLimits (plan : FormPlan) (s : Settings) : Type 0 where
  pub later : s.height + 1 < plan.start
  pub longer : plan.start + s.window ≤ plan.end
  pub sooner : plan.end ≤ s.height + s.max_duration
  pub collateral : plan.collateral ≤ s.max_collateral
