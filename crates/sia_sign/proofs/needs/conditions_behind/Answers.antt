use Rattle.std.proofs.Common.{◌∙◌, map, ◌++◌}
use Rattle.std.specs.Str.{bytes_eq}
use Rattle.sia_sign.specs.Needs.{Need, coin_need, revision_need, fund_need}
use Rattle.sia_sign.proofs.Finding.{found_first, found_second}
use Rattle.sia_sign.proofs.needs.conditions_behind.Goals as goal

pub returns-in-Some : goal.returns-in-Some
returns-in-Some c = found_first (λ (need : Need). need.conditions) (λ (need : Need). bytes_eq need.parent c.args.parent.now) (map revision_need c.args.tx.now.revisions) (map fund_need c.args.tx.now.fund_inputs) c.in-Some.conditions.now c.in-Some.ensures

pub returns-in-None : goal.returns-in-None
returns-in-None c = c.conditions_in-in-None.ensures ∙ found_second (λ (need : Need). need.conditions) (λ (need : Need). bytes_eq need.parent c.args.parent.now) (map revision_need c.args.tx.now.revisions) (map fund_need c.args.tx.now.fund_inputs) c.in-None.ensures
