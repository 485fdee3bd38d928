use Rattle.std.proofs.Common.{◌≡◌}
use Rattle.toml.specs.View.{items_view}
use Rattle.sia_config.specs.Siafunds.{siafunds_of_items}
use Rattle.sia_config.proofs.SiafundTables.{read_from}
use Rattle.sia_config.proofs.siafunds.siafund_list.Given as goal

-- what is read and what is left make the whole reading
abbrev pub invariant-loop-table : goal.invariant-loop-table
invariant-loop-table l = read_from l.funds l.tables l.table-index ≡ siafunds_of_items (items_view l.tables)
