-- So many blocks were decoded, and the bytes spell the last one.
use Rattle.std.proofs.Common.{◌≡◌}
use Rattle.sia_types.specs.Block.{block}
use Rattle.sia_bench.proofs.blocks.decode_again.Given as goal

abbrev pub invariant-again : goal.invariant-again
invariant-again l = (block.spelled l.last ≡ l.bytes) × (l.count ≡ l.counter)
