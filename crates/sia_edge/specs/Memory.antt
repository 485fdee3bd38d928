-- The objects in memory: which of their calls fail, and what a source in memory gives.
use Rattle.std.specs.Prelude.{◌≡◌, zero, suc, ℕ, ◌+◌, ◌-◌, ◌^◌, Bool, min, List, length, drop, if◌then◌else◌, ◌==◌}
use Rattle.std.specs.List.{list_any}
use Rattle.sia_edge.specs.declared.fault_plan.FaultPlan.{FaultPlan}
use Rattle.sia_edge.specs.declared.traits.Got.{Got}
use Rattle.sia_edge.specs.declared.traits.Got.TheVariants as got
use Rattle.sia_edge.specs.declared.traits.Put.{Put}
use Rattle.sia_edge.specs.declared.traits.Put.TheVariants as put

-- one more, at most the greatest u64
abbrev pub one_more : ℕ → ℕ
one_more n = min (n + 1) (2 ^ 64 - 1)

-- no call was made, and those with these numbers will fail
abbrev pub fresh_plan : List ℕ → FaultPlan
fresh_plan fails = record { fails = fails; calls = 0; faults = 0 }

-- the next call is one of those that fail
abbrev pub fails_next : FaultPlan → Bool
fails_next plan = list_any (λ call. call == plan.calls) plan.fails

-- a call more was made, and it failed if its number is one of those
abbrev pub after_call : FaultPlan → FaultPlan
after_call plan = record { fails = plan.fails; calls = one_more plan.calls; faults = (if fails_next plan then one_more plan.faults else plan.faults) }

-- a fault more, of the call that was counted last
abbrev pub after_fault : FaultPlan → FaultPlan
after_fault plan = record { fails = plan.fails; calls = plan.calls; faults = one_more plan.faults }

-- as many of the bytes left as there is room for
abbrev pub given : ℕ → Got
given zero = got.End
given (suc n) = got.Bytes (suc n)

-- what a read answers over these bytes
abbrev pub given_of : List ℕ → ℕ → Got
given_of left room = given (min room (length left))

-- and what it leaves of them
abbrev pub left_after : List ℕ → ℕ → List ℕ
left_after left room = drop (min room (length left)) left

-- a sink in memory takes a piece whole or not at all
abbrev pub TakesWhole : Put → ℕ → Type 0
TakesWhole (put.Taken n) size = n ≡ size
TakesWhole put.Failed size = Unit {0}

-- a call more was made, and a fault more where it failed
abbrev pub plan_after_write : FaultPlan → Put → FaultPlan
plan_after_write plan (put.Taken n) = record { fails = plan.fails; calls = one_more plan.calls; faults = plan.faults }
plan_after_write plan put.Failed = record { fails = plan.fails; calls = one_more plan.calls; faults = one_more plan.faults }
