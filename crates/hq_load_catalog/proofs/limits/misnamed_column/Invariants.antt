use Rattle.std.proofs.Common.{◌≡◌, drop, map, not}
use Rattle.std.specs.List.{find}
use Rattle.hq_model.specs.Catalog.{is_catalog_name}
use Rattle.hq_load_catalog.proofs.limits.misnamed_column.Given as goal

-- the column is among those that are left
abbrev pub invariant-loop-column : goal.invariant-loop-column
invariant-loop-column l =
    find (λ name. not (is_catalog_name name)) (map (λ c. c.name) (drop l.column-index l.columns)) ≡ find (λ name. not (is_catalog_name name)) (map (λ c. c.name) l.columns)
