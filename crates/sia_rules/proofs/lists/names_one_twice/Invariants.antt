use Rattle.std.proofs.Common.{◌≡◌, drop, map}
use Rattle.sia_rules.specs.Shape.{names_twice}
use Rattle.sia_rules.proofs.lists.names_one_twice.Given as goal

abbrev pub invariant-loop-i : goal.invariant-loop-i
invariant-loop-i g l = names_twice (map g.T.Naming.named l.entries) ≡ names_twice (map g.T.Naming.named (drop l.i l.entries))
