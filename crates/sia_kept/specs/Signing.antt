-- What a host signs: whole transactions, by its key (siad's types/signatures.go; which hash a signature signs stands in sia_sign).
use Rattle.std.specs.Prelude.{◌≡◌, ℕ, true, List, [], ◌∷◌}
use Rattle.sia_types.specs.declared.coins.CoinInput.{CoinInput}
use Rattle.sia_types.specs.declared.signature.Covered.{Covered}
use Rattle.sia_types.specs.declared.signature.Signature.{Signature}
use Rattle.sia_types.specs.declared.transaction.Transaction.{Transaction}
use Rattle.sia_sign.specs.SignedText.{signed_hash}

-- the whole transaction is covered
abbrev pub all_covered : Covered
all_covered = record { whole = true; coin_inputs = []; coin_outputs = []; contracts = []; revisions = []; proofs = []; fund_inputs = []; fund_outputs = []; fees = []; notes = []; signatures = [] }

-- a signature of a whole transaction, by the key at an index of the conditions of what it unlocks
abbrev pub whole_signature : List ℕ → ℕ → List ℕ → Signature
whole_signature parent index bytes = record { parent = parent; key_index = index; timelock = 0; covered = all_covered; signature = bytes }

-- the hash that such a signature signs, whatever its bytes
abbrev pub whole_hash : Transaction → List ℕ → ℕ → List ℕ
whole_hash tx parent index = signed_hash tx (whole_signature parent index [])

-- It is one that the signer may make: `Signs` says which signatures it may make of a hash.
abbrev pub IsSignedFor : (List ℕ → List ℕ → Type 0) → Transaction → List ℕ → ℕ → Signature → Type 0
IsSignedFor Signs tx parent index signature =
    (signature ≡ whole_signature parent index signature.signature) × Signs (whole_hash tx parent index) signature.signature

-- each input is signed so, in order
abbrev pub AreSignedInputs : (List ℕ → List ℕ → Type 0) → Transaction → List CoinInput → List Signature → Type 0
AreSignedInputs Signs tx [] [] = Unit {0}
AreSignedInputs Signs tx (input ∷ inputs) (signature ∷ signatures) = IsSignedFor Signs tx input.parent 0 signature × AreSignedInputs Signs tx inputs signatures
AreSignedInputs Signs tx inputs signatures = ⊥
