use Rattle.std.proofs.Common.{◌≡◌, ap, length, ◌∙◌, arith}
use Rattle.std.proofs.lemmas.Result.{IfOk-weaker}
use Rattle.hq_model.specs.Database.{are_rows}
use Rattle.hq_load_index.specs.Chunks.{chunked}
use Rattle.hq_load_index.specs.Grids.{rows_in}
use Rattle.hq_load_index.proofs.Chunked.{length-chunked, chunked_flat, length-flat}
use Rattle.hq_load_tables.proofs.Indexed.{rows_long, rows_few}
use Rattle.hq_load_tables.proofs.rows.Rows.of.Goals as goal

pub of-grid-requires : goal.of-grid-requires
of-grid-requires c =
    let t = c.args.table.now in
    rw (c.in_ok-values.ensures, c.len-count.ensures, c.len-width.ensures) (length-flat (length t.columns) c.args.rows (rows_long t c.args.rows c.requires))

pub index_over-requires : goal.index_over-requires
index_over-requires c =
    let count : length (rows_in c.of-grid.result) ≡ c.len-count.result = ap length c.of-grid.ensures ∙ length-chunked c.len-width.result c.len-count.result c.in_ok-values.values.items in
    omega (arith, count, rows_few c.args.table.now c.args.rows c.requires, c.len-count.ensures)

pub over-requires-clause-few : goal.over-requires-clause-few
over-requires-clause-few c =
    let count : length (rows_in c.of-grid.result) ≡ c.len-count.result = ap length c.of-grid.ensures ∙ length-chunked c.len-width.result c.len-count.result c.in_ok-values.values.items in
    omega (arith, count, rows_few c.args.table.now c.args.rows c.requires, c.len-count.ensures)

pub returns-clause-rows : goal.returns-clause-rows
returns-clause-rows c =
    let t = c.args.table.now in
    let same : chunked c.len-width.result c.len-count.result c.in_ok-values.values.items ≡ c.args.rows =
    rw (c.in_ok-values.ensures, c.len-count.ensures, c.len-width.ensures) (chunked_flat (length t.columns) c.args.rows (rows_long t c.args.rows c.requires)) in
    IfOk-weaker c.over.result _ _ (λ kept h. h ∙ (c.of-grid.ensures ∙ same)) c.over.ensures

pub returns-clause-valid : goal.returns-clause-valid
returns-clause-valid c =
    let t = c.args.table.now in
    let same : chunked c.len-width.result c.len-count.result c.in_ok-values.values.items ≡ c.args.rows =
    rw (c.in_ok-values.ensures, c.len-count.ensures, c.len-width.ensures) (chunked_flat (length t.columns) c.args.rows (rows_long t c.args.rows c.requires)) in
    IfOk-weaker c.over.result _ _ (λ kept h. ap (are_rows t) (h ∙ (c.of-grid.ensures ∙ same)) ∙ c.requires) c.over.ensures
