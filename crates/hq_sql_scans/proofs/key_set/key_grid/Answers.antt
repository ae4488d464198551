use Rattle.std.proofs.Common.{length, refl}
use Rattle.hq_load_index.specs.Grids.{rows_in}
use Rattle.hq_sql_scans.proofs.KeySets.{grid_rows}
use Rattle.hq_sql_scans.proofs.key_set.key_grid.Goals as goal

pub returns-clause-rows : goal.returns-clause-rows
returns-clause-rows c =
    let all = c.in_ok-all.all in
    grid_rows c.args.columns.now c.args.truths.now c.args.rows.now all.values.items all.count (length c.args.columns.now) (rows_in c.of.result) c.in_ok-all.ensures refl c.requires.whole c.of.ensures
