use Rattle.std.proofs.Common.{◌≡◌, drop, map}
use Rattle.std.specs.List.{list_any}
use Rattle.std.specs.Str.{bytes_eq}
use Rattle.sia_rules.proofs.lists.is_named.Given as goal

abbrev pub invariant-loop-entry : goal.invariant-loop-entry
invariant-loop-entry g l = list_any (bytes_eq l.parent) (map g.T.Naming.named l.entries) ≡ list_any (bytes_eq l.parent) (map g.T.Naming.named (drop l.entry-index l.entries))
