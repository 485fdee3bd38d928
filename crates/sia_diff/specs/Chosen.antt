-- The touched and new places, as they are kept: a list of the touched ones. No public clause speaks of it.
use Rattle.std.specs.Prelude.{ℕ, ◌≡◌, nat_eq, nat_le, Bool, ◌||◌, List}
use Rattle.std.specs.List.{range_with_len, list_any, filter}

-- whether a place is listed
abbrev pub is_listed : List ℕ → ℕ → Bool
is_listed touched place = list_any (nat_eq place) touched

-- places below a count, in ascending order
abbrev pub ArePlaces : ℕ → List ℕ → Type 0
ArePlaces old touched = touched ≡ filter (is_listed touched) (range_with_len 0 old)

-- a place that is listed, or from the old count on
unfoldable pub is_chosen : ℕ → List ℕ → ℕ → Bool
is_chosen old touched place = nat_le old place || is_listed touched place
