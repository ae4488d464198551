-- The tables and columns that a metadata file names (Hasura v2, metadata format: QualifiedTable, PGColumn).
use Rattle.std.specs.Prelude.{ℕ, List, [], Option, Some, None, ok_or, position, slice_get, Result, bytes_eq}
use Rattle.hq_base.specs.Due.{◌>>=◌}
use Rattle.hq_base.specs.Json.{JsonTree}
use Rattle.hq_load_filter.specs.Tables as filter
use Rattle.hq_model.specs.Meta.{MetaTree}
use Rattle.hq_model.specs.declared.table.Column.{Column}
use Rattle.hq_model.specs.declared.table.Table.{Table}
use Rattle.hq_load_meta_tables.specs.declared.refusal.MetaRefusal.{MetaRefusal}
use Rattle.hq_load_meta_tables.specs.declared.refusal.MetaRefusal.TheVariants.{UnknownColumn}
use Rattle.hq_load_meta_tables.specs.Node.{text_at}
use Rattle.hq_load_meta_tables.specs.Refused.{refused}

-- the table that a node names, by its schema and name
unfoldable pub table_at : List Table → (path : List ℕ) → JsonTree → Result ℕ MetaRefusal
table_at tables path j = refused (filter.table_at tables path j)

-- a table must be tracked
unfoldable pub tracked_due : MetaTree → (path : List ℕ) → (t : ℕ) → Result ℕ MetaRefusal
tracked_due m path t = refused (filter.tracked_due m path t)

-- the tracked table that a node names
unfoldable pub remote_at : List Table → MetaTree → (path : List ℕ) → JsonTree → Result ℕ MetaRefusal
remote_at tables m path j = refused (filter.remote_at tables m path j)

-- the columns of a table, none beyond the catalog
abbrev pub columns_in : Option Table → List Column
columns_in None = []
columns_in (Some t) = t.columns

abbrev pub columns_of : List Table → (t : ℕ) → List Column
columns_of tables t = columns_in (slice_get tables t)

-- the place of the column of this name
unfoldable pub column_named : List Column → (path name : List ℕ) → Result ℕ MetaRefusal
column_named columns path name = ok_or (position (λ c. bytes_eq c.name name) columns) (UnknownColumn path)

-- the column that a node names
unfoldable pub column_at : List Column → (path : List ℕ) → JsonTree → Result ℕ MetaRefusal
column_at columns path j = do
  name ← text_at path j
  column_named columns path name
