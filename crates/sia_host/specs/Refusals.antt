-- How a refusal is told: by its code, but not want of memory. Nothing of Sia stands here.
use Rattle.std.specs.Prelude.{ℕ, Option, Some, None}
use Rattle.sia_host.specs.declared.refusal.Refusal.{Refusal}
use Rattle.sia_host.specs.declared.refusal.Refusal.TheVariants as refusal

-- the code that is told; want of memory tells none
abbrev pub code_told : Refusal → Option ℕ
code_told (refusal.Code code) = Some code
code_told refusal.Memory = None
