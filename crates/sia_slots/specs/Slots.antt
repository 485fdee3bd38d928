-- The slots of a shelf in which the sectors of a host lie, and how they pass from one sector to another. Slots are this project's own;
-- siad's storage folders have such places for sectors.
use Rattle.std.specs.Prelude.{◌≡◌, ◌⊎◌, ℕ, ◌+◌, ◌<◌, ◌≤◌, ◌==◌, List, All, Contains, count_by}
use Rattle.std.specs.List.{filter, flat_map, range_with_len}
use Rattle.sia_merkle.specs.Roots.{leaves_of, root_of}
use Rattle.sia_records.specs.Stored.{Stored}
use Rattle.sia_commands.specs.declared.step.PutJob.{PutJob}
use Rattle.sia_kept.specs.State.{HostState, Kept, is_free_slot}

-- how often a slot stands in a list
abbrev pub times : ℕ → List ℕ → ℕ
times slot slots = count_by (λ (other : ℕ). other == slot) slots

-- no slot stands in a list twice
abbrev pub NamedOnce : List ℕ → Type 0
NamedOnce slots = (slot : ℕ) → times slot slots ≤ 1

-- the free slots of a shelf with so many slots, the least first, where those in the list are live
abbrev pub free_below : ℕ → List ℕ → List ℕ
free_below slots live = filter (is_free_slot live) (range_with_len 0 slots)

-- Slots pass: those that were live and those that are taken are those that are live afterwards and those that are freed, each as often.
abbrev pub SlotsPass : List ℕ → List ℕ → List ℕ → List ℕ → Type 0
SlotsPass live taken after freed = (slot : ℕ) → times slot live + times slot taken ≡ times slot after + times slot freed

-- Where slots pass, each is live once at most afterwards, and is freed once at most. One that is freed isn't live any more, and was live
-- or taken before. Those that are taken are slots of the shelf.
abbrev pub StaysOnce : ℕ → List ℕ → List ℕ → List ℕ → List ℕ → Type 0
StaysOnce slots live taken after freed =
    NamedOnce after × ((slot : ℕ) → Contains freed slot → (Contains after slot → ⊥) × (Contains live slot ⊎ Contains taken slot)) × NamedOnce freed × All (λ slot. slot < slots) taken

-- the sectors of all contracts
abbrev pub sectors_in : HostState → List Stored
sectors_in state = flat_map (λ (c : Kept). c.sectors) state.contracts

-- A sector is one of those that were there, or one that is put: in its slot, and with its root.
abbrev pub ComesFrom : List Stored → List PutJob → Stored → Type 0
ComesFrom old puts s = Contains old s ⊎ ((put : PutJob) × Contains puts put × (put.slot ≡ s.slot) × (root_of (leaves_of put.bytes) ≡ s.root))
