use Rattle.sia_config.proofs.Printed.{decimal-number}
use Rattle.sia_config.proofs.laws.read_texts_are_printed.Goals as goal

pub returns : goal.returns
returns c = decimal-number
