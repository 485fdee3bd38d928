use Rattle.sia_host.proofs.host_core.Core.report_row.Given as goal

abbrev pub ghosts-root_uncounted : goal.ghosts-root_uncounted
ghosts-root_uncounted a = record { name = a.blank.name; parts = a.blank.parts }
