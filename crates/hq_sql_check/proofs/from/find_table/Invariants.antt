use Rattle.std.proofs.Common.{◌≡◌, drop}
use Rattle.std.specs.List.{list_any}
use Rattle.hq_sql_tree.specs.WellFormed.{is_table, table_names}
use Rattle.hq_sql_check.proofs.from.find_table.Given as goal

-- those that are left tell what all do
abbrev pub invariant-loop-table : goal.invariant-loop-table
invariant-loop-table l =
    record {
      any : list_any (is_table l.schema l.name) (drop l.table-index l.tables)
          ≡ list_any (is_table l.schema l.name) l.tables;
      names : table_names (drop l.table-index l.tables) l.schema l.name
          ≡ table_names l.tables l.schema l.name;
    }
