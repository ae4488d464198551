use Rattle.std.proofs.Common.{◌≡◌, map, take}
use Rattle.hq_base.specs.Json.{json_view}
use Rattle.hq_laws_written.specs.Catalog.Written.{table_json}
use Rattle.hq_copy_text.proofs.catalog.tables_json.Given as goal

-- the tables so far
abbrev pub invariant-loop-table : goal.invariant-loop-table
invariant-loop-table l =
    map json_view l.all.items ≡ map (table_json l.tables) (take l.table-index l.tables)
