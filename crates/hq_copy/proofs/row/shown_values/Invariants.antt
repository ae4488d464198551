use Rattle.std.proofs.Common.{◌≡◌, map, take}
use Rattle.hq_copy_definition.specs.Rows.{value_of}
use Rattle.hq_copy_tables.specs.Originals.{schema_in}
use Rattle.hq_copy_filter.specs.Lent.{database_of}
use Rattle.hq_model.specs.Permitted.{shown_under}
use Rattle.hq_model.specs.PermView.{permission_view}
use Rattle.hq_copy.proofs.row.shown_values.Given as goal

-- the values so far
abbrev pub invariant-loop-column : goal.invariant-loop-column
invariant-loop-column l =
    l.values ≡ map (λ c. value_of (shown_under (permission_view l.permission) (schema_in l.world.original.now) (database_of l.world.tables.now) l.t l.row c)) (take l.column-index l.column-items)
