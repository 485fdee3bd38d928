-- What a renter's call costs, in hastings, over whole numbers without bound (RHP2; siad's modules/negotiate.go).
use Rattle.std.specs.Prelude.{ℕ, ◌+◌, ◌-◌, ◌*◌, ◌^◌, min}
use Rattle.sia_types.specs.declared.settings.Prices.{Prices}
use Rattle.sia_price.specs.declared.priced.Cost.{Cost}
use Rattle.sia_price.specs.declared.priced.Priced.{Priced}
use Rattle.sia_price.specs.declared.priced.Priced.TheVariants as call

-- the greatest amount that a currency of 128 bits holds
abbrev pub most : ℕ
most = 2 ^ 128 - 1

-- how many blocks a contract still lasts: none where it has ended
abbrev pub duration_of : ℕ → ℕ → ℕ
duration_of end height = end - height

-- the bandwidth part: what the host keeps in any case
unfoldable pub bandwidth_part : Priced → Prices → ℕ → ℕ
bandwidth_part (call.Write appends swaps updates update_bytes) p sector =
    p.base + p.upload * (sector * appends) + 2 * p.access * swaps + (p.access * updates + p.upload * update_bytes)
bandwidth_part (call.Read sections bytes) p sector = p.base + (p.access * sections + p.download * bytes)
bandwidth_part (call.Roots count) p sector = p.base + p.download * (32 * count)

-- how many sectors a call adds to its contract
abbrev pub appends_of : Priced → ℕ
appends_of (call.Write appends swaps updates update_bytes) = appends
appends_of (call.Read sections bytes) = 0
appends_of (call.Roots count) = 0

-- a price for each byte of the sectors that are added, and for each block that the contract still lasts
unfoldable pub kept_part : ℕ → ℕ → ℕ → ℕ → ℕ
kept_part price sector duration appends = price * (sector * duration) * appends

-- what a call costs, no part being more than a currency holds
unfoldable pub cost_of : Priced → Prices → ℕ → ℕ → Cost
cost_of call p sector duration = record {
  bandwidth = min (bandwidth_part call p sector) most;
  storage = min (kept_part p.storage sector duration (appends_of call)) most;
  collateral = min (kept_part p.collateral sector duration (appends_of call)) most;
}

-- what the renter pays: the bandwidth part and the storage part, and no more than a currency holds
abbrev pub due_of : Cost → ℕ
due_of cost = min (cost.bandwidth + cost.storage) most
