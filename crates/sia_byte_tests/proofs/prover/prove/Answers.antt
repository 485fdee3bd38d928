-- A sector has four leaves.
use Rattle.sia_byte_tests.proofs.prover.prove.Goals as goal

pub make_proof-requires-clause-sector : goal.make_proof-requires-clause-sector
make_proof-requires-clause-sector c = (2, c.sector_at-sector.ensures)
