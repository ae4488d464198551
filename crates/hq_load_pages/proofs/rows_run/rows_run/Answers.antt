use Rattle.std.proofs.Common.{rules}
use Rattle.hq_load_pages.proofs.RowsBack.{rows_back}
use Rattle.hq_load_pages.proofs.rows_run.rows_run.Goals as goal

-- the rows read back
pub returns-clause-back : goal.returns-clause-back
returns-clause-back c = search (rules, rows_back)
