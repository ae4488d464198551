use Rattle.std.proofs.Common.{◌≡◌, drop, not}
use Rattle.std.specs.List.{find, flat_map}
use Rattle.hq_model.specs.Catalog.{is_catalog_name}
use Rattle.hq_load_catalog.specs.Limits.{declared_names}
use Rattle.hq_load_catalog.proofs.limits.check_name_lengths.Given as goal

-- the name is one of the tables that are left
abbrev pub invariant-loop-table : goal.invariant-loop-table
invariant-loop-table l =
    find (λ name. not (is_catalog_name name)) (flat_map declared_names (drop l.table-index l.tables)) ≡ find (λ name. not (is_catalog_name name)) (flat_map declared_names l.tables)
