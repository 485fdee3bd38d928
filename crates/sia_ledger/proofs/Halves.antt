-- The rules of a transaction in two parts.
use Rattle.std.proofs.Common.{◌≡◌, ℕ, Bool, List, [], ◌∷◌, ◌++◌, Option, None, Some, refl, ap}
use Rattle.sia_encoding.specs.Firsts.{◌or_else◌}
use Rattle.sia_types.specs.declared.transaction.Transaction.{Transaction}
use Rattle.sia_rules.specs.Shape.{proof_mix, repeated, shape_fault}
use Rattle.sia_ledger.specs.declared.fact.Fact.{Fact}
use Rattle.sia_ledger.specs.Judging.{state_refusal}
use Rattle.sia_ledger.specs.Known.{state_in}
use Rattle.sia_ledger.specs.Refusal.{transaction_refusal}
use Rattle.sia_ledger.specs.State.{State}

-- the third of three decides in either grouping
grouped : {F : Type 0} (a b c : Option F) → (a or_else (b or_else c)) ≡ ((a or_else b) or_else c)
grouped None b c = refl
grouped (Some fault) b c = refl

-- the rules of its lists, and those that look at what is known
pub in_two : (accepts : List ℕ → List ℕ → List ℕ → Bool) (s : State) (t : ℕ) (tx : Transaction) → transaction_refusal accepts s t tx ≡ (shape_fault t tx or_else state_refusal accepts s t tx)
unfolding transaction_refusal state_refusal
in_two accepts s t tx = grouped (proof_mix t tx) (repeated t tx) _

-- where the lists have no fault, none names a parent twice
pub shape_none : (t : ℕ) (tx : Transaction) → shape_fault t tx ≡ None → repeated t tx ≡ None
shape_none t tx is = by (proof_mix t tx) is
  where
    by : (mix : Option _) → (mix or_else repeated t tx) ≡ None → repeated t tx ≡ None
    by None is = is
    by (Some fault) is = cc

none_behind : (facts : List Fact) → facts ++ [] ≡ facts
none_behind [] = refl
none_behind (x ∷ facts) = ap (λ (rest : List Fact). x ∷ rest) (none_behind facts)

-- before anything new, what is known is what is kept
pub begun_same : (s : State) → s.twice ≡ None → state_in (record { ids = s.ids; kept = s.facts; fresh = []; twice = None }) ≡ s
begun_same s new = rw (none_behind s.facts, ← new) refl
