use Rattle.std.proofs.Common.{◌<◌, length, arith}
use Rattle.hq_load_index.specs.Indexes.{columns_of}
use Rattle.hq_sql_constants.proofs.Marks.{marks_more}
use Rattle.hq_sql_constants.proofs.marked.marks_by.Goals as goal

pub loop-value-preserved : goal.loop-value-preserved
loop-value-preserved c =
    let vs = c.args.values.now in
    let i = c.loop-value.value-index in
    let lt : i < length vs = omega (arith, c.loop-value-test.true) in
    let added = c.mark_rows.ensures in
    marks_more c.args.rows.now (columns_of c.args.index.now) vs i c.value-item.result c.loop-value.marks.items c.mark_rows.new.marks.items
    c.found_with-found.result.now lt c.value-item.is c.loop-value.invariant c.found_with-found.ensures added.count added.left added.set
