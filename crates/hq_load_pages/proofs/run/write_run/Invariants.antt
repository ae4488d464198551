use Rattle.std.proofs.Common.{◌≡◌, ◌++◌, length}
use Rattle.hq_base.specs.Lists.{Each}
use Rattle.hq_load_pages.specs.Cells.{ReadsBack}
use Rattle.hq_load_pages.specs.Runs.{run_of}
use Rattle.hq_load_pages.proofs.run.write_run.Given as goal

-- what is written and what is left are all, and all cells read back where those that are left do
abbrev pub invariant-cells : goal.invariant-cells
invariant-cells l = record {
  written : l.out.items ++ run_of l.rest ≡ l.fn.out.items ++ run_of l.values;
  back : Each ReadsBack l.rest → Each ReadsBack l.values;
}

abbrev pub decreases-cells : goal.decreases-cells
decreases-cells l = length l.rest
