use Rattle.std.proofs.Common.{◌<◌, arith}
use Rattle.std.proofs.lemmas.List.Elements.{All-from_get_or}
use Rattle.sia_encoding.proofs.Decodings.{decoded}
use Rattle.sia_encoding.proofs.item.Item.decode.Goals as goal

pub returns : goal.returns
returns g c = decoded g.met.Self.Item.law c.args.bytes.now c.args.limit c.read_front.result (All-from_get_or (λ byte. byte < 256) c.args.bytes.now 0 (λ i within. omega (arith, c.type_inv.bytes i))) c.read_front.ensures
