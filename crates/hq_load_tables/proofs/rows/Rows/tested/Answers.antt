use Rattle.std.proofs.Common.{◌≡◌, ◌∙◌, ◌<◌, ◌^◌, true, length, sym, ap, rules}
use Rattle.std.specs.List.{list_all}
use Rattle.hq_load_index.specs.Chunks.{chunked}
use Rattle.hq_load_index.specs.Grids.{rows_in}
use Rattle.hq_model.specs.Database.{are_rows, row_fits}
use Rattle.hq_load_tables.specs.Tested.{rows_of_values}
use Rattle.hq_load_tables.proofs.Apart.{no_rows, valid_rows}
use Rattle.hq_load_tables.proofs.rows.Rows.tested.Goals as goal

-- a key is repeated
pub returns-then-is_some : goal.returns-then-is_some
returns-then-is_some c =
    let t = c.args.table.now in
    let all : rows_in c.of-grid.result ≡ rows_of_values t c.args.count c.args.values.items = c.of-grid.ensures ∙ ap (λ width. chunked width c.args.count c.args.values.items) c.len.ensures in
    let none = no_rows t (rows_in c.of-grid.result) c.in_ok-keyed.keyed.repeat c.in_ok-keyed.ensures.repeat (search rules) in
    ap (are_rows t) (sym all) ∙ none

-- all is tested
pub returns : goal.returns
returns c =
    let t = c.args.table.now in
    let rows = rows_in c.of-grid.result in
    let all : rows ≡ rows_of_values t c.args.count c.args.values.items = c.of-grid.ensures ∙ ap (λ width. chunked width c.args.count c.args.values.items) c.len.ensures in
    let fit : list_all (row_fits t.columns) rows ≡ true = search rules in
    let few : length rows < 2 ^ 31 = search rules in
    let valid = valid_rows t rows c.in_ok-keyed.keyed.repeat c.in_ok-keyed.ensures.repeat (search rules) few fit in
    (c.in_ok-over.ensures ∙ all, ap (are_rows t) (sym all) ∙ valid)
