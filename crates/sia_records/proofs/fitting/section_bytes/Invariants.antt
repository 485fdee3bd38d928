use Rattle.std.proofs.Common.{◌≡◌, ◌*◌, ◌^◌, ◌≤◌, take, sum_by}
use Rattle.sia_records.proofs.fitting.section_bytes.Given as goal

abbrev pub invariant-loop-section : goal.invariant-loop-section
invariant-loop-section l =
    (l.total ≡ sum_by (λ section. section.length) (take l.section-index l.sections)) × (l.total ≤ l.section-index * 2 ^ 64)
