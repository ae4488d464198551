-- Rows of a table, whose cells are read by the numbers of their columns.
use Rattle.std.specs.Prelude.{◌≡◌, ℕ, List, [], slice_index_or}
use Rattle.hq_model.specs.Database.{Row}
use Rattle.hq_model.specs.declared.table.Column.{Column}
use Rattle.hq_load_index.specs.Keys.{cell_in}
use Rattle.hq_sql_tree.specs.Meaning.{cell_named, named_row}
use Rattle.hq_sql_access.specs.View.{row_in}
use Rattle.hq_sql_access.specs.declared.scope.Source.{Source}
use Rattle.hq_sql_output.specs.declared.table_rows.TableRows.{TableRows}

-- the values at a place, none where there is no row
abbrev pub values_at : TableRows → ℕ → Row
values_at t position = slice_index_or t.rows.now position []

-- the rows of a FROM are those of this table
pub record IsTable (from : Source) (t : TableRows) : Type 0 where
  pub row : (position : ℕ) → row_in from position ≡ named_row t.columns.now (values_at t position)

-- the cell of this name is the one in this column, in each row
pub record IsNamed (columns : List Column) (name : List ℕ) (at : ℕ) : Type 0 where
  pub cell : (row : Row) → cell_named (named_row columns row) name ≡ cell_in row at
