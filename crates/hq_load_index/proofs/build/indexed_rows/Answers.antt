use Rattle.std.proofs.Common.{◌∙◌, ap, filter, not}
use Rattle.std.proofs.lemmas.Result.{IfOk-weaker}
use Rattle.hq_base.specs.Lists.{sort}
use Rattle.hq_load_index.specs.Grids.{rows_in}
use Rattle.hq_load_index.specs.Indexes.{by_key}
use Rattle.hq_load_index.specs.Keys.{key_at, has_null}
use Rattle.hq_load_index.proofs.Numbers.{indexed_sorted}
use Rattle.hq_load_index.proofs.build.indexed_rows.Goals as goal

pub returns : goal.returns
returns c =
    let columns = c.args.columns.now in
    let rows = rows_in c.args.grid.now in
    let kept = c.leave_keys.ensures ∙ ap (filter (λ n. not (has_null (key_at columns rows n)))) c.in_ok-rows.ensures in
    IfOk-weaker c.sort_rows.result _ _ (λ sorted h. h ∙ (ap (sort (by_key columns rows)) kept ∙ indexed_sorted columns rows c.len.result c.len.ensures)) c.sort_rows.ensures
