use Rattle.std.proofs.Common.{drop}
use Rattle.sia_records.specs.Making.{PartsSoFar}
use Rattle.sia_records.proofs.part.make_parts.Given as goal

abbrev pub invariant-loop-section : goal.invariant-loop-section
invariant-loop-section l = PartsSoFar l.sections (drop l.section-index l.sections) l.fn.fetched l.rest l.parts
