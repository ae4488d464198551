use Rattle.std.proofs.Common.{◌≡◌, ◌++◌, drop, map}
use Rattle.hq_sql_tree.specs.View.{expr_view}
use Rattle.hq_translation.specs.Lists.{distinct_columns}
use Rattle.hq_compile_tables.specs.Shown.{look_of}
use Rattle.hq_compile_lists.proofs.list.distinct_columns.Given as goal

abbrev pub invariant-loop-column : goal.invariant-loop-column
invariant-loop-column l =
    map expr_view l.exprs.items ++ distinct_columns l.shown.columns.now (look_of l.shown) (drop l.column-index l.distinct)
    ≡ distinct_columns l.shown.columns.now (look_of l.shown) l.distinct
