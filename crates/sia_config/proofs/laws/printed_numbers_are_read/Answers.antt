use Rattle.sia_config.proofs.Printed.{number-decimal}
use Rattle.sia_config.proofs.laws.printed_numbers_are_read.Goals as goal

pub returns : goal.returns
returns c = number-decimal
