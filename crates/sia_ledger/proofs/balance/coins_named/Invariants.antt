use Rattle.std.proofs.Common.{◌≡◌, take}
use Rattle.std.specs.List.{sum_by}
use Rattle.sia_types.specs.declared.coins.CoinInput.{CoinInput}
use Rattle.sia_rules.specs.Amounts.{capped}
use Rattle.sia_ledger.specs.Facts.{coin_at}
use Rattle.sia_ledger.specs.Known.{state_in}
use Rattle.sia_ledger.specs.Rules.{coin_value}
use Rattle.sia_ledger.proofs.balance.coins_named.Given as goal

abbrev pub invariant-loop-input : goal.invariant-loop-input
invariant-loop-input l = l.sum ≡ capped (sum_by (λ (input : CoinInput). coin_value (coin_at (state_in l.draft).facts input.parent)) (take l.input-index l.tx.coin_inputs))
