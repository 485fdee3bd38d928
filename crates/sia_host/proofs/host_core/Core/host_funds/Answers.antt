-- What is added is within what the free coins are worth.
use Rattle.std.proofs.Common.{◌≡◌, ◌∙◌, subst}
use Rattle.sia_forms.specs.Choices.{AreAdded}
use Rattle.sia_host.specs.Forming.{AreHosts, free_coins}
use Rattle.sia_host.proofs.Funding.{suffices}
use Rattle.sia_host.proofs.host_core.Core.host_funds.Goals as goal

pub returns-in-Ok : goal.returns-in-Ok
returns-in-Ok c =
    let coins : c.as_slice.result.now ≡ free_coins c.args.self.now = c.as_slice.ensures ∙ c.in_ok-coins.ensures in
    let here : AreAdded c.as_slice.result.now c.args.collateral c.args.self.now.settings.host_key c.args.self.now.settings.address c.in-Ok.added
    = subst (λ h. AreAdded c.as_slice.result.now c.args.collateral h.settings.host_key h.settings.address c.in-Ok.added) c.self.view_is c.in-Ok.ensures.added in
    let are : AreHosts c.args.self.now c.args.collateral c.in-Ok.added
    = subst (λ xs. AreAdded xs c.args.collateral c.args.self.now.settings.host_key c.args.self.now.settings.address c.in-Ok.added) coins here in
    (suffices c.args.self.now c.args.collateral c.in-Ok.added are, are)
