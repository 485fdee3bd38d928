-- Signatures that serve for nothing, which siad calls frivolous (siad's types/signatures.go).
use Rattle.std.specs.Prelude.{ℕ, ◌+◌, Bool, true, List, [], ◌∷◌, length, nat_lt, nat_le, ◌==◌, ◌||◌, ◌&&◌, not}
use Rattle.std.specs.List.{list_any}
use Rattle.std.specs.Str.{bytes_eq}
use Rattle.sia_types.specs.declared.conditions.UnlockConditions.{UnlockConditions}
use Rattle.sia_types.specs.declared.signature.Covered.{Covered}
use Rattle.sia_types.specs.declared.signature.Signature.{Signature}
use Rattle.sia_types.specs.declared.transaction.Transaction.{Transaction}
use Rattle.sia_sign.specs.Needs.{count_for}

-- these are indices from a least one on and below a count, each above the one before it
abbrev pub ascends : ℕ → ℕ → List ℕ → Bool
ascends least count [] = true
ascends least count (i ∷ is) = nat_le least i && nat_lt i count && ascends (i + 1) count is

-- each covered list names elements of its list in ascending order, none twice
unfoldable pub names_elements : Transaction → Covered → Bool
names_elements tx c =
    ascends 0 (length tx.coin_inputs) c.coin_inputs
    && ascends 0 (length tx.coin_outputs) c.coin_outputs
    && ascends 0 (length tx.contracts) c.contracts
    && ascends 0 (length tx.revisions) c.revisions
    && ascends 0 (length tx.proofs) c.proofs
    && ascends 0 (length tx.fund_inputs) c.fund_inputs
    && ascends 0 (length tx.fund_outputs) c.fund_outputs
    && ascends 0 (length tx.fees) c.fees
    && ascends 0 (length tx.notes) c.notes
    && ascends 0 (length tx.signatures) c.signatures

-- no list but that of the signatures names an element
unfoldable pub names_no_part : Covered → Bool
names_no_part c =
    (length c.coin_inputs == 0)
    && (length c.coin_outputs == 0)
    && (length c.contracts == 0)
    && (length c.revisions == 0)
    && (length c.proofs == 0)
    && (length c.fund_inputs == 0)
    && (length c.fund_outputs == 0)
    && (length c.fees == 0)
    && (length c.notes == 0)

-- two signatures are by one key, for one parent
abbrev pub is_by_same_key : Signature → Signature → Bool
is_by_same_key s other = bytes_eq other.parent s.parent && (other.key_index == s.key_index)

-- A signature serves for nothing, where these stand before it and its need has these conditions: there is no such key, it
-- signed before, what it covers isn't there or is covered twice, or there are enough signatures already.
unfoldable pub is_frivolous : Transaction → List Signature → UnlockConditions → Signature → Bool
is_frivolous tx earlier conditions s =
    nat_le (length conditions.keys) s.key_index
    || list_any (is_by_same_key s) earlier
    || not (names_elements tx s.covered)
    || (s.covered.whole && not (names_no_part s.covered))
    || nat_le conditions.required (count_for s.parent earlier)
