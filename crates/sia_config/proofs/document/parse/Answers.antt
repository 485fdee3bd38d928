use Rattle.std.proofs.Common.{refl}
use Rattle.toml.proofs.Views.{view-Table}
use Rattle.sia_config.proofs.Documents.{document-read, document-refused}
use Rattle.sia_config.proofs.document.parse.Goals as goal

pub returns-in-Ok : goal.returns-in-Ok
returns-in-Ok c = rw (document-read c.args.bytes.now _ c.in-Ok.ensures.ok.0 c.in-Ok.ensures.ok.1) (rw (view-Table c.in-Ok.table) refl)

pub returns-else-is_memory : goal.returns-else-is_memory
returns-else-is_memory c =
    let refused = c.in-Err.ensures.refused (λ memory. let impossible = c.if-is_memory.ensures.1 memory in cc) in
    rw (document-refused c.args.bytes.now refused) refl
