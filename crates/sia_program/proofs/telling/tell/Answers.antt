use Rattle.std.proofs.Common.{◌≡◌, refl, sym, ◌∙◌, inl}
use Rattle.sia_program.specs.Lines.{stop_line}
use Rattle.sia_program.specs.declared.stop.Stop.TheVariants as stop
use Rattle.sia_program.proofs.telling.tell.Goals as goal

pub returns-in-Ok : goal.returns-in-Ok
returns-in-Ok g c =
    let line : c.as_bytes.result.now ≡ stop_line (stop.Refused c.in-Refused.refusal) = c.as_bytes.ensures.value ∙ (c.as_str.ensures.value ∙ c.in-Ok.ensures) in
    (stop.Refused c.in-Refused.refusal, inl (sym c.in-Refused.is), refl, rw (← line) c.write_line.ensures)
