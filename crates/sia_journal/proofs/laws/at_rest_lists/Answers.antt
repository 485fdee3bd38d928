use Rattle.std.proofs.Common.{arith, []}
use Rattle.sia_journal.proofs.Listing.{listed_closed}
use Rattle.sia_journal.proofs.laws.at_rest_lists.Goals as goal

pub returns : goal.returns
returns c = λ header limit records size bounded within. listed_closed header size limit bounded records 0 [] (omega arith) within
