use Rattle.std.proofs.Common.{◌<◌, arith}
use Rattle.std.proofs.lemmas.List.Elements.{All-from_get_or}
use Rattle.sia_rhp.proofs.MessageLemmas.{is_message}
use Rattle.sia_rhp.proofs.RequestLaws.{request_law}
use Rattle.sia_rhp.proofs.request.Request.decode.Goals as goal

pub returns : goal.returns
returns c = is_message request_law c.args.bytes.now c.args.limit c.decode_request.result (All-from_get_or (λ byte. byte < 256) c.args.bytes.now 0 (λ i within. omega (arith, c.type_inv.bytes i))) c.decode_request.ensures
