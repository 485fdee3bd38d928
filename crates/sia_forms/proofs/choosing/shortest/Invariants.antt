use Rattle.std.proofs.Common.{◌≡◌, ◌+◌, ◌<◌, take}
use Rattle.sia_forms.specs.Choices.{worth_of}
use Rattle.sia_forms.proofs.choosing.shortest.Given as goal

abbrev pub invariant-loop-i : goal.invariant-loop-i
invariant-loop-i l = record {
  lacks : 0 < l.missing;
  rest : l.missing + worth_of (take l.i l.ordered) ≡ l.need;
}
