use Rattle.std.proofs.Common.{◌≡◌, map, drop}
use Rattle.hq_base.specs.Json.{json_view}
use Rattle.hq_load_meta_tables.specs.Each.{each, each_after}
use Rattle.hq_load_meta_tables.specs.Found.{column_at}
use Rattle.hq_load_meta_tables.proofs.found.listed_columns.Given as goal

-- what is left goes behind the columns so far
abbrev pub invariant-loop-place : goal.invariant-loop-place
invariant-loop-place l =
    each_after (λ before. column_at l.columns) l.path l.place l.found (map json_view (drop l.place l.list)) ≡ each (column_at l.columns) l.path (map json_view l.list)
