use Rattle.std.proofs.Common.{◌≡◌, drop}
use Rattle.hq_sql_tree.specs.Meaning.{cell_named, named_row}
use Rattle.hq_sql_access.proofs.row.stored_cell.Given as goal

-- the columns that are left have the cell that all have
abbrev pub invariant-loop-at : goal.invariant-loop-at
invariant-loop-at l = cell_named (named_row (drop l.at l.columns) (drop l.at l.values)) l.name ≡ cell_named (named_row l.columns l.values) l.name
