use Rattle.std.proofs.Common.{◌≡◌, ◌∙◌, ◌==◌, false, length, sym, subst, arith}
use Rattle.hq_load_index.specs.Indexes.{entries_of}
use Rattle.hq_sql_tree.specs.View.{pred_view}
use Rattle.hq_sql_constants.specs.Ranged.{StandsBetween}
use Rattle.hq_sql_constants.proofs.RangeEntries.{span_kept}
use Rattle.hq_sql_constants.proofs.Ranges.{some_asked}
use Rattle.hq_sql_constants.proofs.walked.range_of.Goals as goal

pub span_of-span-requires-clause-columns : goal.span_of-span-requires-clause-columns
span_of-span-requires-clause-columns c = rw c.in-Some.is at c.only_column.ensures

pub returns : goal.returns
returns c =
    let column = c.in-Some.column in
    let name = c.in-Some-name_of.name.now in
    let rows = c.args.rows.now in
    let entries = entries_of c.args.index.now in
    let found = c.in_ok-bounds.bounds in
    let bounds = found.items in
    let number : found.len ≡ length bounds = omega (arith, found.ok.0) in
    let stands : StandsBetween column rows entries bounds c.span_of-span.result = rw c.as_slice.ensures.value at c.span_of-span.ensures in
    record {
      column = column;
      name = name;
      bounds = bounds;
      first = rw c.in-Some-name_of.is at c.name_of.ensures;
      asks = some_asked (pred_view c.args.pred.now) c.args.alias.now name bounds (subst (λ k. (k == 0) ≡ false) number (sym c.is_empty.ensures ∙ c.if-is_empty.false)) c.in_ok-bounds.ensures;
      same = rw c.between.ensures (span_kept column rows entries bounds c.span_of-span.result stands);
    }
