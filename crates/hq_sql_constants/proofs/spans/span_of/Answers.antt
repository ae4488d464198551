use Rattle.std.proofs.Common.{◌<◌, length, arith}
use Rattle.hq_load_index.specs.Indexes.{entries_of}
use Rattle.hq_sql_constants.proofs.RangeEntries.{span_more}
use Rattle.hq_sql_constants.proofs.spans.span_of.Goals as goal

pub loop-bound-preserved : goal.loop-bound-preserved
loop-bound-preserved c =
    let i = c.loop-bound.bound-index in
    let lt : i < length c.args.bounds.now = omega (arith, c.loop-bound-test.true) in
    span_more c.args.column c.args.rows.now (entries_of c.args.index.now) c.args.bounds.now i c.bound-item.result c.loop-bound.span c.narrowed-span.result
    lt c.bound-item.is c.loop-bound.invariant c.narrowed-span.ensures
