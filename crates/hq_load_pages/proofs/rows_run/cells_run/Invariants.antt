use Rattle.std.proofs.Common.{◌≡◌, ◌-◌, ◌≤◌, ◌++◌, drop, length}
use Rattle.hq_base.specs.Lists.{Each}
use Rattle.hq_load_pages.specs.Cells.{ReadsBack}
use Rattle.hq_load_pages.specs.Runs.{run_of}
use Rattle.hq_load_pages.proofs.RowsBack.{flat}
use Rattle.hq_load_pages.proofs.rows_run.cells_run.Given as goal

-- what is written and what is left are all, and all cells read back where those that are left do
abbrev pub invariant-rows : goal.invariant-rows
invariant-rows l = record {
  within : l.at ≤ length l.rows;
  written : l.run.items ++ run_of (flat (drop l.at l.rows)) ≡ run_of (flat l.rows);
  back : Each ReadsBack (flat (drop l.at l.rows)) → Each ReadsBack (flat l.rows);
}

abbrev pub decreases-rows : goal.decreases-rows
decreases-rows l = length l.rows - l.at
