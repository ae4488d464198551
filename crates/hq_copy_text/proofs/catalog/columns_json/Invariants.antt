use Rattle.std.proofs.Common.{◌≡◌, map, take}
use Rattle.hq_base.specs.Json.{json_view}
use Rattle.hq_laws_written.specs.Catalog.Written.{column_json}
use Rattle.hq_copy_text.proofs.catalog.columns_json.Given as goal

-- the columns so far
abbrev pub invariant-loop-column : goal.invariant-loop-column
invariant-loop-column l =
    map json_view l.all.items ≡ map column_json (take l.column-index l.columns)
