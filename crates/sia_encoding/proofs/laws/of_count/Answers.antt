use Rattle.sia_encoding.specs.ItemLaws.{count_law}
use Rattle.sia_encoding.proofs.laws.of_count.Goals as goal

pub returns : goal.returns
returns c = count_law
