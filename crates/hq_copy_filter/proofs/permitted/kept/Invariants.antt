use Rattle.std.proofs.Common.{◌≡◌, ◌++◌, drop}
use Rattle.hq_copy_filter.specs.Kept.{kept_rows}
use Rattle.hq_copy_filter.specs.Lent.{database_of, rows_of}
use Rattle.hq_model.specs.Bexp.{bexp_view}
use Rattle.hq_model.specs.Described.{scope_schema}
use Rattle.hq_copy_filter.proofs.permitted.kept.Given as goal

-- those so far, and then those of the rows that are left
abbrev pub invariant-loop-row : goal.invariant-loop-row
invariant-loop-row l =
    let keeps = kept_rows (bexp_view l.filter) (scope_schema l.scope) (database_of l.tables) l.t in
    rows_of l.kept.items ++ keeps (rows_of (drop l.row-index l.rows)) ≡ keeps (rows_of l.rows)
