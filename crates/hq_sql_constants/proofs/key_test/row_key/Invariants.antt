use Rattle.std.proofs.Common.{◌≡◌, map, take}
use Rattle.hq_load_index.specs.Keys.{cell_view as key_view, key_in}
use Rattle.hq_sql_constants.proofs.key_test.row_key.Given as goal

-- the cells in the columns so far
abbrev pub invariant-loop-column : goal.invariant-loop-column
invariant-loop-column l = map key_view l.key.items ≡ key_in (take l.column-index l.columns) l.row
