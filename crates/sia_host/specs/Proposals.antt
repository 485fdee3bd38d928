-- How what a host adds to a proposal is told: what is added, or the code of a refusal, but not want of memory. Nothing more of Sia
-- stands here than in the judgement that it tells.
use Rattle.std.specs.Prelude.{◌≡◌, ℕ, true, false, Result, Ok, Err}
use Rattle.sia_types.specs.declared.transaction.Transaction.{Transaction}
use Rattle.sia_forms.specs.declared.funding.Additions.{Additions}
use Rattle.sia_commands.specs.declared.codes.TheConstants.{BAD_CONTRACT}
use Rattle.sia_host.specs.declared.refusal.Refusal.{Refusal}
use Rattle.sia_host.specs.declared.refusal.Refusal.TheVariants as refusal
use Rattle.sia_host.specs.Answered.{Host}
use Rattle.sia_host.specs.Forming.{AreHosts, funded, is_formed}

-- what the host gives for a collateral, or that its free coins don't suffice
abbrev pub Funds : Host → ℕ → Result Additions Refusal → Type 0
Funds h collateral (Ok added) = (funded h collateral ≡ Ok collateral) × AreHosts h collateral added
Funds h collateral (Err (refusal.Code code)) = funded h collateral ≡ Err code
Funds h collateral (Err refusal.Memory) = Unit {0}

-- what the host adds to a proposal that was judged so, where it doesn't know the contract that this comes to
abbrev pub IsAddition : Host → Transaction → Result ℕ ℕ → Additions → Type 0
IsAddition h tx (Err code) added = ⊥
IsAddition h tx (Ok collateral) added = AreHosts h collateral added × (is_formed h tx added ≡ false)

-- the code by which a proposal is refused that was judged so
abbrev pub IsRefusal : Host → Transaction → Result ℕ ℕ → ℕ → Type 0
IsRefusal h tx (Err judged) code = code ≡ judged
IsRefusal h tx (Ok collateral) code =
    (code ≡ BAD_CONTRACT) × ((added : Additions) × AreHosts h collateral added × (is_formed h tx added ≡ true))

-- what comes of a proposal that was judged so
abbrev pub Proposes : Host → Transaction → Result ℕ ℕ → Result Additions Refusal → Type 0
Proposes h tx judged (Ok added) = IsAddition h tx judged added
Proposes h tx judged (Err (refusal.Code code)) = IsRefusal h tx judged code
Proposes h tx judged (Err refusal.Memory) = Unit {0}
