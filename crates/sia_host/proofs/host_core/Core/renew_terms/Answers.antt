-- A renewal whose terms are what the host asks for clears the contract that is open.
use Rattle.std.proofs.Common.{ap}
use Rattle.sia_kept.specs.State.{Kept}
use Rattle.sia_host.specs.Paying.{open_now}
use Rattle.sia_host.proofs.Renewals.{terms_clear}
use Rattle.sia_host.proofs.host_core.Core.renew_terms.Goals as goal

pub returns-in-Ok-clause-clears : goal.returns-in-Ok-clause-clears
returns-in-Ok-clause-clears c =
    terms_clear c.args.tx.now c.settings_now-settings.result c.in-Ok.collateral (open_now c.args.self.now c.args.session) c.in_ok-contract.contract.now c.contract.inside.newest
    c.in_ok-contract.ensures (ap (λ (k : Kept). k.newest) c.contract.view_is) c.know.ensures c.know-2.ensures.1 c.in-Ok.ensures
