-- What is known while a block is judged: what is kept of the blocks before it, and what is new.
use Rattle.std.specs.Prelude.{ℕ, List, ◌++◌, Option}
use Rattle.sia_ledger.specs.declared.fact.Fact.{Fact}
use Rattle.sia_ledger.specs.State.{State}

-- what is kept, and what is new
pub record Known : Type 0 where
  -- the identifiers of the genesis and of each block, by height
  pub ids : List (List ℕ)
  pub kept : List Fact
  pub fresh : List Fact
  -- the first identifier that was made a second time
  pub twice : Option (List ℕ)

-- the state with both
abbrev pub state_in : Known → State
state_in known = record { ids = known.ids; facts = known.kept ++ known.fresh; twice = known.twice }
