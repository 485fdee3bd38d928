use Rattle.std.proofs.Common.{ap, append_assoc}
use Rattle.std.specs.Prelude.{codes}
use Rattle.sia_blake.specs.Blake2b.{blake2b_256}
use Rattle.sia_encoding.specs.Spelling.{label, spelled_u64}
use Rattle.sia_ids.specs.Identifiers.{genesis_fund_text, genesis_fund_id}
use Rattle.sia_ids.proofs.genesis.genesis_fund_id.Goals as goal

pub returns : goal.returns
unfolding genesis_fund_id genesis_fund_text spelled_u64
returns c =
    rw (c.finish.ensures, c.update-3.ensures, c.to_le_bytes.ensures, c.update-2.ensures, c.update.ensures, c.new-hasher.ensures)
    (ap blake2b_256 (append_assoc (label (codes "siafund output")) c.args.genesis.now (spelled_u64 c.args.index)))
