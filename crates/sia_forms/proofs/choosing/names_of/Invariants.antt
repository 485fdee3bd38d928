use Rattle.std.proofs.Common.{◌≡◌, map, take}
use Rattle.sia_forms.specs.Choices.{coin_name}
use Rattle.sia_forms.proofs.choosing.names_of.Given as goal

abbrev pub invariant-loop-coin : goal.invariant-loop-coin
invariant-loop-coin l = l.names ≡ map coin_name (take l.coin-index l.coins)
