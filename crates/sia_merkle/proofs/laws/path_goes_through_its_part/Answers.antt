use Rattle.sia_merkle.proofs.Parts.{path_through, proof_through}
use Rattle.sia_merkle.proofs.laws.path_goes_through_its_part.Goals as goal

pub returns-clause-path : goal.returns-clause-path
returns-clause-path c = path_through

pub returns-clause-hashes : goal.returns-clause-hashes
returns-clause-hashes c = proof_through
