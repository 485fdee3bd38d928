use Rattle.std.proofs.Common.{[], sym, ap, ◌∙◌}
use Rattle.std.specs.Prelude.{option_copied}
use Rattle.sia_host.proofs.Placed.{found_at, missed_at}
use Rattle.sia_host.proofs.outbox.signature_at.Goals as goal

pub returns-in-None : goal.returns-in-None
returns-in-None c = c.new.ensures ∙ missed_at c.args.signatures.now c.args.place [] (sym c.get.ensures ∙ ap option_copied c.in-None.is)

pub returns-in-Some : goal.returns-in-Some
returns-in-Some c = rw (← found_at c.args.signatures.now c.args.place c.in-Some.bytes.now [] (sym c.get.ensures ∙ ap option_copied c.in-Some.is)) c.copy.ensures
