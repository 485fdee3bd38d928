use Rattle.std.proofs.Common.{sym, ◌∙◌}
use Rattle.sia_merkle.proofs.Parts.{one_leaf}
use Rattle.sia_merkle.proofs.whole.leaf_part_root.Goals as goal

pub returns-then-bytes-le-LEAF_LEN : goal.returns-then-bytes-le-LEAF_LEN
returns-then-bytes-le-LEAF_LEN c = c.leaf_hash.ensures ∙ sym (one_leaf c.args.bytes.now c.if-bytes-gt0.true c.if-bytes-le-LEAF_LEN.true)
