-- What is known after some blocks, and how one fact more changes it. An identifier is made once: what would make it a second time is
-- left out, and the first such identifier of a block is remembered (siad's doc/Consensus.md).
use Rattle.std.specs.Prelude.{ℕ, ◌+◌, ◌&&◌, Bool, true, false, List, [], ◌∷◌, ◌++◌, length, fold, if◌then◌else◌, Option, Some}
use Rattle.std.specs.Option.{option_or}
use Rattle.sia_ledger.specs.declared.fact.Fact.{Fact}
use Rattle.sia_ledger.specs.declared.fact.Deed.{Deed}
use Rattle.sia_ledger.specs.declared.fact.Deed.TheVariants as deed
use Rattle.sia_ledger.specs.Facts.{is_known}

-- what is known after some blocks
pub record State : Type 0 where
  -- the identifiers of the genesis and of each block, by height
  pub ids : List (List ℕ)
  pub facts : List Fact
  -- the first identifier that the last block makes a second time
  pub twice : Option (List ℕ)

-- the height of the next block
abbrev pub next : State → ℕ
next state = length state.ids

-- a deed makes its identifier; each other one names it
abbrev pub makes : Deed → Bool
makes deed.Block = true
makes (deed.Coin output from) = true
makes (deed.Fund output) = true
makes (deed.Formed terms) = true
makes other = false

-- one fact more, unless it makes what was made before
unfoldable pub add : State → Fact → State
add state fact =
    if makes fact.deed && is_known state.facts fact.id then record state { twice = option_or state.twice (Some fact.id) }
    else record state { facts = state.facts ++ fact ∷ [] }

-- facts more, one after another
abbrev pub add_all : State → List Fact → State
add_all state facts = fold add state facts

-- what is made of each element of a list and its index; the first has this index
abbrev pub numbered : {X A : Type 0} → (ℕ → X → A) → ℕ → List X → List A
numbered make index [] = []
numbered make index (x ∷ xs) = make index x ∷ numbered make (index + 1) xs
