use Rattle.std.proofs.Common.{rules}
use Rattle.hq_load_pages.proofs.RowsBack.{all_back, next_back, next_written}
use Rattle.hq_load_pages.proofs.rows_run.cells_run.Goals as goal

-- one row more
pub rows-preserved : goal.rows-preserved
rows-preserved c =
    let so_far = c.rows.invariant in
    let written = next_written c.args.rows.now c.rows.at c.rows.run.items c.write_run.new.out.items (search rules) (search rules) so_far.written in
    let back = next_back c.args.rows.now c.rows.at (search rules) (search rules) so_far.back in
    record { within = search rules; written = written; back = back }

-- all rows
pub returns-clause-back : goal.returns-clause-back
returns-clause-back c = all_back c.args.rows.now c.rows.at (search rules) c.rows.invariant.back
