-- A payload is a record exactly where all of it was read.
use Rattle.std.proofs.Common.{◌∙◌, sym}
use Rattle.sia_host.proofs.Payloads.{read_none, read_part}
use Rattle.sia_host.proofs.replaying.record_in.Goals as goal

pub returns-then-taken-payload : goal.returns-then-taken-payload
returns-then-taken-payload c = read_part c.args.payload.now c.in-Ok.made c.in-Ok.taken c.in-Ok.ensures c.if-taken-payload.true

pub returns-in-Some : goal.returns-in-Some
returns-in-Some c = read_none c.args.payload.now c.in-Err.fault c.in-Some.field-0 c.in-Err.ensures (sym c.in-Some.is ∙ c.told.ensures)
