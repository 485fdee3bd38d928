use Rattle.sia_ledger.proofs.Cataloging.{popped_keys}
use Rattle.sia_ledger.proofs.catalog.pop_keys.Goals as goal

pub returns : goal.returns
returns c = λ facts x pays ends was. popped_keys c.args.addresses.now c.pop.new.self c.args.ends.now c.pop-2.new.self c.args.address c.args.end c.pop.ensures c.pop-2.ensures facts x pays ends was
