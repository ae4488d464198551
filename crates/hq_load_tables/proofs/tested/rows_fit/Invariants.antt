use Rattle.std.proofs.Common.{◌≡◌, ◌-◌, ◌≤◌, drop, length}
use Rattle.std.specs.List.{list_all}
use Rattle.hq_load_index.specs.Grids.{rows_in}
use Rattle.hq_model.specs.Database.{row_fits}
use Rattle.hq_load_tables.proofs.tested.rows_fit.Given as goal

-- what is left tells what all tell
abbrev pub invariant-rows : goal.invariant-rows
invariant-rows l = record {
  within : l.at ≤ length (rows_in l.grid);
  left : list_all (row_fits l.columns) (drop l.at (rows_in l.grid)) ≡ list_all (row_fits l.columns) (rows_in l.grid);
}

abbrev pub decreases-rows : goal.decreases-rows
decreases-rows l = length (rows_in l.grid) - l.at
