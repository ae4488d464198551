use Rattle.std.proofs.Common.{◌≡◌, ◌++◌, map, drop}
use Rattle.hq_copy_tables.specs.Originals.{meta_in, role_in, schema_in}
use Rattle.hq_copy_tables.specs.Views.{source_view}
use Rattle.hq_copy_filter.specs.Lent.{database_of, rows_of}
use Rattle.hq_copy.specs.Direct.{direct_row, rows_for}
use Rattle.hq_copy.specs.Lists.{lists_of}
use Rattle.hq_model.specs.PermView.{permission_view}
use Rattle.hq_model.specs.Schema.{numbered}
use Rattle.hq_copy.proofs.row.copied_rows.Given as goal

-- the rows so far, and then those that are left
abbrev pub invariant-loop-at : goal.invariant-loop-at
invariant-loop-at l =
    let o = l.world.original.now in
    let row =
    direct_row (role_in o) (meta_in o) (schema_in o) (database_of l.world.tables.now) (permission_view l.permission)
    (rows_for (map source_view o.sources.now) (lists_of l.world.permitted.now)) (source_view l.source) in
    l.all ++ numbered row l.at (rows_of (drop l.at l.rows)) ≡ numbered row 0 (rows_of l.rows)
