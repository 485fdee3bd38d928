use Rattle.std.proofs.Common.{◌≡◌, take}
use Rattle.sia_rules.specs.Amounts.{capped}
use Rattle.sia_forms.specs.Choices.{worth_of}
use Rattle.sia_forms.proofs.building.too_much.Given as goal

abbrev pub invariant-loop-coin : goal.invariant-loop-coin
invariant-loop-coin l = l.have ≡ capped (worth_of (take l.coin-index l.coins))
