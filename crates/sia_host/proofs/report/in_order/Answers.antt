-- The rows are sorted by the identifiers of their contracts.
use Rattle.std.proofs.Common.{rules}
use Rattle.std.proofs.lemmas.List.Sorted.{answers_always}
use Rattle.sia_host.specs.declared.report.ReportRow.{ReportRow}
use Rattle.sia_host.proofs.report.in_order.Goals as goal

pub returns : goal.returns
returns c = (
  c.in_ok-sort_by_key.ensures.permutation,
  c.in_ok-sort_by_key.ensures.sorted (λ (row : ReportRow). row.contract) (answers_always _ _ _ (λ f a r g h. search rules)),
)
