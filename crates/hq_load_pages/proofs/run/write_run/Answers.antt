use Rattle.hq_load_pages.proofs.Cells.{none_back, run_written}
use Rattle.hq_load_pages.proofs.run.write_run.Goals as goal

-- all cells are written
pub returns-clause-back : goal.returns-clause-back
returns-clause-back c = run_written c.args.values.now (c.cells.invariant.back (none_back c.cells.rest.now c.in_default.len_below))

pub returns-clause-cells : goal.returns-clause-cells
returns-clause-cells c = c.cells.invariant.back (none_back c.cells.rest.now c.in_default.len_below)
