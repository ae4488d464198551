use Rattle.hq_load_index.specs.Indexes.{IsOver}
use Rattle.hq_sql_access.proofs.Loops.{each_more}
use Rattle.hq_sql_access.proofs.stored.indexes_over.Goals as goal

pub loop-columns-preserved : goal.loop-columns-preserved
loop-columns-preserved c =
    each_more (IsOver c.args.rows.now) c.loop-columns.indexes.items c.push.new.self.items _ c.in_ok-push.ensures.items c.in_ok-index_over.ensures c.loop-columns.invariant
