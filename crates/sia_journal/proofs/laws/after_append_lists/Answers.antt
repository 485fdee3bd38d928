use Rattle.sia_edge.proofs.Runs.{left_last}
use Rattle.sia_journal.proofs.Listing.{mid_listed}
use Rattle.sia_journal.proofs.laws.after_append_lists.Goals as goal

pub returns : goal.returns
returns g c = λ told header limit records payload old new size bounded leaves.
    mid_listed header size limit bounded records payload (g.D.Disk.standing new).seen (left_last leaves _ (g.met.D.Disk.as_read new told))
