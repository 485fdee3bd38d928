use Rattle.sia_ledger.proofs.Cataloging.{pushed_keys, kept_paid}
use Rattle.sia_ledger.proofs.catalog.push_keys.Goals as goal

pub returns-in-Err-clause-unchanged : goal.returns-in-Err-clause-unchanged
returns-in-Err-clause-unchanged c = λ facts was. kept_paid c.args.addresses.now c.push.new.self c.args.ends.now c.args.ends.now facts c.in-Err.ensures.unchanged (λ keys is. is) was

pub returns-in-Ok-push-clause-pushed : goal.returns-in-Ok-push-clause-pushed
returns-in-Ok-push-clause-pushed c = λ facts x pays ends was. pushed_keys c.args.addresses.now c.push.new.self c.args.ends.now c.push-in-Ok.new.self c.args.address c.args.end c.in-Ok.ensures.pushed c.in-Ok-push.ensures.pushed facts x pays ends was

pub returns-in-Err-push-clause-unchanged : goal.returns-in-Err-push-clause-unchanged
returns-in-Err-push-clause-unchanged c = λ facts was. kept_paid c.args.addresses.now c.pop.new.self c.args.ends.now c.push-in-Ok.new.self facts (λ keys is. c.pop.ensures keys (c.in-Ok.ensures.pushed keys is)) c.in-Err-push.ensures.unchanged was
