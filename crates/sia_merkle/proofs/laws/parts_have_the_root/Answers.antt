use Rattle.sia_merkle.proofs.Parts.{root_of_parts, root_of_sectors}
use Rattle.sia_merkle.proofs.laws.parts_have_the_root.Goals as goal

pub returns-clause-hashes : goal.returns-clause-hashes
returns-clause-hashes c = root_of_parts

pub returns-clause-bytes : goal.returns-clause-bytes
returns-clause-bytes c = root_of_sectors
