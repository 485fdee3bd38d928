-- So many spellings were made, and the last one is the block's.
use Rattle.std.proofs.Common.{◌≡◌}
use Rattle.sia_types.specs.Block.{block}
use Rattle.sia_bench.proofs.blocks.encode_again.Given as goal

abbrev pub invariant-again : goal.invariant-again
invariant-again l = (l.last ≡ block.spelled l.block) × (l.count ≡ l.counter)
