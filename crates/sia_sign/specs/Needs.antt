-- What of a transaction needs signatures, and by which keys (siad's types/signatures.go; siad's doc/Consensus.md).
use Rattle.std.specs.Prelude.{ℕ, List, ◌++◌, map, find, count_by, Option}
use Rattle.std.specs.Str.{bytes_eq}
use Rattle.sia_types.specs.declared.conditions.UnlockConditions.{UnlockConditions}
use Rattle.sia_types.specs.declared.coins.CoinInput.{CoinInput}
use Rattle.sia_types.specs.declared.file_contracts.Revision.{Revision}
use Rattle.sia_types.specs.declared.funds.FundInput.{FundInput}
use Rattle.sia_types.specs.declared.signature.Signature.{Signature}
use Rattle.sia_types.specs.declared.transaction.Transaction.{Transaction}

-- what needs signatures: its identifier, and the conditions that say whose and how many
pub record Need : Type 0 where
  pub parent : List ℕ
  pub conditions : UnlockConditions

-- a siacoin input needs the signatures of its conditions
abbrev pub coin_need : CoinInput → Need
coin_need input = record { parent = input.parent; conditions = input.conditions }

-- a revision needs the signatures of its conditions
abbrev pub revision_need : Revision → Need
revision_need revision = record { parent = revision.parent; conditions = revision.conditions }

-- a siafund input needs the signatures of its conditions
abbrev pub fund_need : FundInput → Need
fund_need input = record { parent = input.parent; conditions = input.conditions }

-- the needs of a transaction: its siacoin inputs, then its revisions, then its siafund inputs
abbrev pub needs : Transaction → List Need
needs tx = map coin_need tx.coin_inputs ++ (map revision_need tx.revisions ++ map fund_need tx.fund_inputs)

-- the first of the needs that has this parent
abbrev pub need_of : List ℕ → List Need → Option Need
need_of parent all = find (λ (need : Need). bytes_eq need.parent parent) all

-- how many of the signatures are for this parent
abbrev pub count_for : List ℕ → List Signature → ℕ
count_for parent signatures = count_by (λ (s : Signature). bytes_eq s.parent parent) signatures
