-- What a host reports of its contracts. Nothing of Sia stands here.
use Rattle.std.specs.Prelude.{ℕ, List, [], map}
use Rattle.std.specs.declared.cmp.Ordering.{Ordering}
use Rattle.std.specs.Option.{option_map_or}
use Rattle.std.specs.Ordering.{nat_cmp}
use Rattle.std.specs.List.Sorted.{IsPermutation, IsSorted}
use Rattle.std.specs.Cmp.Lexicographic.{slice_cmp}
use Rattle.sia_merkle.specs.Roots.{node_root_of}
use Rattle.sia_ledger.specs.Holdings.{status_of}
use Rattle.sia_records.specs.Stored.{Stored}
use Rattle.sia_kept.specs.State.{Kept, contract_among, roots_of}
use Rattle.sia_host.specs.declared.report.ReportRow.{ReportRow}
use Rattle.sia_host.specs.Answered.{Host}
use Rattle.sia_host.specs.Jobs.{is_due}

-- what is reported of a contract: number, size and root of its newest revision, the root over its sectors' roots, how it stands on the
-- chain, and whether it is due
abbrev pub report_row : Host → Kept → ReportRow
report_row h c = record {
  contract = c.id;
  number = c.newest.number;
  size = c.newest.size;
  root = c.newest.root;
  hashed = node_root_of (roots_of c);
  status = status_of h.state.chain c.id;
  due = is_due h c;
}

-- rows by ascending identifiers of their contracts
abbrev pub row_order : ReportRow → ReportRow → Ordering
row_order a b = slice_cmp nat_cmp a.contract b.contract

-- the report has a row for each contract, in order
abbrev pub AreRows : Host → List ReportRow → Type 0
AreRows h rows = IsPermutation (map (report_row h) h.state.contracts) rows × IsSorted row_order rows

-- the slots of a contract's sectors, in order
abbrev pub slots_of : Kept → List ℕ
slots_of c = map (λ (s : Stored). s.slot) c.sectors

-- the same of the contract with this identifier; none where it isn't known
abbrev pub slots_among : List ℕ → List Kept → List ℕ
slots_among id contracts = option_map_or slots_of (contract_among id contracts) []
