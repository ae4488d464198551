use Rattle.std.proofs.Common.{◌≡◌, ◌++◌, map, drop}
use Rattle.hq_base.specs.Due.{mapped}
use Rattle.hq_base.specs.Json.{json_view}
use Rattle.hq_load_catalog.specs.Each.{each, each_from}
use Rattle.hq_load_catalog.specs.Shape.{table_at}
use Rattle.hq_load_catalog.proofs.shape.tables.Given as goal

-- the tables so far, and then those of the rest
abbrev pub invariant-loop-place : goal.invariant-loop-place
invariant-loop-place l =
    each table_at l.path (map json_view l.list) ≡ mapped (λ rest. l.tables ++ rest) (each_from table_at l.path l.place (map json_view (drop l.place l.list)))
