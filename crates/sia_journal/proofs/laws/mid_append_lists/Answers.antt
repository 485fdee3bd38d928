use Rattle.sia_journal.proofs.Listing.{mid_listed}
use Rattle.sia_journal.proofs.laws.mid_append_lists.Goals as goal

pub returns : goal.returns
returns c = λ header limit records payload file size bounded mid. mid_listed header size limit bounded records payload file mid
