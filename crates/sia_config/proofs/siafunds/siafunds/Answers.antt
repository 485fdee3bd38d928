use Rattle.std.proofs.Common.{sym}
use Rattle.toml.specs.View.{items_view}
use Rattle.sia_config.specs.Siafunds.{siafunds_of_items}
use Rattle.sia_config.proofs.SiafundTables.{siafund_sum-le, ok_or-found, whole_issue-founds}
use Rattle.sia_config.proofs.siafunds.siafunds.Goals as goal

pub is_whole_issue-requires : goal.is_whole_issue-requires
is_whole_issue-requires c =
    let tables = items_view c.as_slice.result.now in
    rw c.as_slice-2.ensures (siafund_sum-le tables _ (ok_or-found (siafunds_of_items tables) _ _ c.in_ok-funds.ensures))

pub returns-then-is_whole_issue-clause-founds : goal.returns-then-is_whole_issue-clause-founds
returns-then-is_whole_issue-clause-founds c =
    let tables = items_view c.as_slice.result.now in
    let whole = rw c.as_slice-2.ensures at (sym c.if-is_whole_issue.ensures) in
    whole_issue-founds tables _ (ok_or-found (siafunds_of_items tables) _ _ c.in_ok-funds.ensures) whole
