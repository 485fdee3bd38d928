-- The two parties of a contract, by their keys: under which conditions each is paid, and under which both revise (siad's
-- modules/negotiate.go and types/unlockhash.go).
use Rattle.std.specs.Prelude.{ℕ, List, [], ◌∷◌, codes, replicate}
use Rattle.sia_encoding.specs.Spelling.{label}
use Rattle.sia_ids.specs.Conditions.{unlock_hash}
use Rattle.sia_types.specs.declared.conditions.PublicKey.{PublicKey}
use Rattle.sia_types.specs.declared.conditions.UnlockConditions.{UnlockConditions}

-- a hash of zero bytes: the root of no sector, and the address of the void
abbrev pub zero_hash : List ℕ
zero_hash = replicate 32 0

-- a party's key, by the name of its algorithm
unfoldable pub party_key : List ℕ → PublicKey
party_key key = record { algorithm = label (codes "seal"); key = key }

-- the conditions under which a party spends what it is paid: its one key
unfoldable pub own_conditions : List ℕ → UnlockConditions
own_conditions key = record { timelock = 0; keys = party_key key ∷ []; required = 1 }

-- the address that a party is paid to
abbrev pub own_address : List ℕ → List ℕ
own_address key = unlock_hash (own_conditions key)

-- the conditions under which a contract is revised: the renter's key and then the host's, both required
unfoldable pub both_conditions : List ℕ → List ℕ → UnlockConditions
both_conditions renter_key host_key = record { timelock = 0; keys = party_key renter_key ∷ party_key host_key ∷ []; required = 2 }

-- the unlock hash of a contract between the two
abbrev pub both_address : List ℕ → List ℕ → List ℕ
both_address renter_key host_key = unlock_hash (both_conditions renter_key host_key)
