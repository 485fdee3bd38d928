use Rattle.std.proofs.Common.{◌≡◌, map, take}
use Rattle.sia_forms.specs.Choices.{input_of}
use Rattle.sia_forms.proofs.funding.inputs_of.Given as goal

abbrev pub invariant-loop-coin : goal.invariant-loop-coin
invariant-loop-coin l = l.inputs ≡ map (input_of l.key) (take l.coin-index l.coins)
