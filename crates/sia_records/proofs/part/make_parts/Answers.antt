use Rattle.std.proofs.Common.{◌<◌, ◌≤◌, length, arith}
use Rattle.sia_records.proofs.Parts.{part_left, part_missing, part_unfit, parts_made, parts_next}
use Rattle.sia_records.proofs.part.make_parts.Goals as goal

pub returns-in_default : goal.returns-in_default
returns-in_default c =
    let within : c.loop-section.section-index < length c.args.sections.now = omega arith in
    part_missing _ _ _ _ _ within c.in_default.ensures.cases c.loop-section.invariant

pub returns-then-not-section_fits : goal.returns-then-not-section_fits
returns-then-not-section_fits c =
    let within : c.loop-section.section-index < length c.args.sections.now = omega arith in
    part_unfit _ _ _ _ _ _ _ _ within c.in-Some.ensures.cases.0 c.len.ensures c.if-not-section_fits.ensures c.loop-section.invariant

pub loop-section-preserved : goal.loop-section-preserved
loop-section-preserved c =
    let within : c.loop-section.section-index < length c.args.sections.now = omega arith in
    let next = parts_next _ _ _ _ _ _ _ _ within c.in-Some.ensures.cases.0 c.len.ensures c.if-not-section_fits.ensures c.loop-section.invariant in
    rw (c.in_ok-push.ensures.ok, c.in_ok-part.ensures, c.as_slice.ensures) next

pub returns-then-not-is_empty : goal.returns-then-not-is_empty
returns-then-not-is_empty c =
    let ended : length c.args.sections.now ≤ c.loop-section.section-index = omega arith in
    part_left _ _ _ _ _ ended c.if-not-is_empty.ensures c.loop-section.invariant

pub returns : goal.returns
returns c =
    let ended : length c.args.sections.now ≤ c.loop-section.section-index = omega arith in
    parts_made _ _ _ _ _ ended c.if-not-is_empty.ensures c.loop-section.invariant
