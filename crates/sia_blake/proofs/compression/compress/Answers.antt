use Rattle.std.proofs.Common.{refl}
use Rattle.sia_blake.specs.Blake2b.{compress}
use Rattle.sia_blake.proofs.compression.compress.Goals as goal

pub returns : goal.returns
unfolding compress
returns c = rw (c.folded.ensures, c.rounds.ensures, c.working_words.ensures, c.words.ensures) refl
