-- What a register keeps beside the list of its facts, so that no look-up and no sum walks them. Nothing of Sia stands here.
use Rattle.std.specs.Prelude.{ℕ, ◌≡◌, ◌+◌, ◌%◌, ◌^◌, List, [], ◌∷◌, ◌++◌, if◌then◌else◌, Option, Some, None}
use Rattle.std.specs.Option.{option_or}
use Rattle.std.specs.Str.{bytes_eq}
use Rattle.std.specs.HashMap.{HashMap, get}
use Rattle.sia_ledger.specs.declared.fact.Fact.{Fact}
use Rattle.sia_ledger.specs.declared.fact.Deed.{Deed}
use Rattle.sia_ledger.specs.declared.register.Link.{Link}
use Rattle.sia_ledger.specs.declared.running.Running.{Running}
use Rattle.sia_ledger.specs.Claiming.{all_shares}
use Rattle.sia_ledger.specs.Holdings.{outputs, escrow}

-- the place of the last fact about an identifier, where the first fact stands at n
abbrev pub last_from : ℕ → List Fact → List ℕ → Option ℕ
last_from n [] id = None
last_from n (fact ∷ rest) id = option_or (last_from (n + 1) rest id) (if bytes_eq fact.id id then Some n else None)

-- the place of the last fact about an identifier
abbrev pub last_place : List Fact → List ℕ → Option ℕ
last_place facts id = last_from 0 facts id

-- what is kept beside a fact that stands behind others: the place of the last one about its identifier, and the shares that they bring
unfoldable pub link : List Fact → Fact → Link
link before fact = record { earlier = last_place before fact.id; shares = all_shares before % 2 ^ 128 }

-- what is kept beside facts that stand behind others
abbrev pub links_from : List Fact → List Fact → List Link
links_from before [] = []
links_from before (fact ∷ rest) = link before fact ∷ links_from (before ++ fact ∷ []) rest

-- the sums over facts, each modulo 2^128
unfoldable pub running : List Fact → Running
running facts = record { outputs = outputs facts % 2 ^ 128; escrow = escrow facts % 2 ^ 128; shares = all_shares facts % 2 ^ 128 }

-- what the last deed on an identifier counts
abbrev pub last_counts : (Deed → ℕ) → Option Deed → ℕ
last_counts value None = 0
last_counts value (Some what) = value what

module _ {S : Type 0} where
  -- the map finds the last fact about each identifier
  abbrev pub Finds : HashMap (List ℕ) ℕ S → List Fact → Type 0
  Finds places facts = (id : List ℕ) → get bytes_eq places id ≡ last_place facts id

  -- what is kept beside facts
  pub record IsRegistered (places : HashMap (List ℕ) ℕ S) (links : List Link) (sums : Running) (facts : List Fact) : Type 0 where
    pub finds : Finds places facts
    pub linked : links ≡ links_from [] facts
    pub summed : sums ≡ running facts
