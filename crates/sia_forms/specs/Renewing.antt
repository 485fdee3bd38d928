-- What a renewal takes over of the contract that it renews (siad's modules/renter/proto/renew.go, there called renew and clear).
use Rattle.std.specs.Prelude.{ℕ, ◌+◌, ◌-◌, ◌*◌, ◌^◌, min}
use Rattle.sia_types.specs.declared.file_contracts.Revision.{Revision}
use Rattle.sia_types.specs.declared.settings.Settings.{Settings}
use Rattle.sia_forms.specs.Parties.{zero_hash}

-- by how many blocks a contract that ends at a height ends later than the old one: by none where it ends earlier
abbrev pub extra_of : ℕ → Revision → ℕ
extra_of end newest = end - newest.end

-- the bytes of the old contract times the blocks that they are kept longer
abbrev pub kept_longer : ℕ → Revision → ℕ
kept_longer end newest = newest.size * extra_of end newest

-- the least valid value of the host
unfoldable pub least_renewed : Settings → ℕ → Revision → ℕ
least_renewed s end newest = s.prices.contract_price + s.prices.storage * kept_longer end newest

-- what the host loses where the new contract isn't proved: price and collateral of what it keeps longer, and no more than it has
unfoldable pub risk_of : Settings → ℕ → Revision → ℕ → ℕ
risk_of s end newest host_value = min ((s.prices.storage + s.prices.collateral) * kept_longer end newest) host_value

-- the revision that clears the old contract: nothing is stored any more, and both ends of it pay the newest valid outputs
unfoldable pub clearing : Revision → Revision
clearing newest = record newest { number = 2 ^ 64 - 1; size = 0; root = zero_hash; missed = newest.valid }
