-- The form of a catalog file, and what it writes: the members of each object in this order, and lists in order. The
-- first node that is absent, of another kind or an unknown type is refused with its path.
use Rattle.std.specs.Prelude.{ℕ, List, [], length, Bool, true, ◌==◌, Option, Some, None, option_and_then, Result, Ok, Err, if◌then◌else◌}
use Rattle.hq_base.specs.Due.{◌>>=◌}
use Rattle.hq_base.specs.Json.{JsonTree}
use Rattle.hq_base.specs.Look.{bool_in, str_in, array_in}
use Rattle.hq_base.specs.Path.{top_path}
use Rattle.hq_base.specs.Types.{type_named}
use Rattle.hq_base.specs.declared.value.Ty.{Ty}
use Rattle.hq_base.specs.declared.value.Ty.TheVariants.{Opaque}
use Rattle.hq_model.specs.declared.table.Column.{Column}
use Rattle.hq_load_catalog.specs.declared.field.Field.TheVariants.{Tables, Schema, Name, Columns, PrimaryKey, ForeignKeys, ColumnType, Of, Nullable, Table, References}
use Rattle.hq_load_catalog.specs.declared.refusal.CatalogRefusal.{CatalogRefusal}
use Rattle.hq_load_catalog.specs.declared.refusal.CatalogRefusal.TheVariants.{Shape}
use Rattle.hq_load_catalog.specs.declared.written.WrittenForeignKey.{WrittenForeignKey}
use Rattle.hq_load_catalog.specs.declared.written.WrittenTable.{WrittenTable}
use Rattle.hq_load_catalog.specs.Each.{each}
use Rattle.hq_load_catalog.specs.Node.{required, at, value_of, object_at, text_member, list_member, names_member, object_member}

-- a column's type, which must be there
unfoldable pub type_member : (path : List ℕ) → JsonTree → Result Ty CatalogRefusal
type_member path object =
    required (at path ColumnType) (option_and_then type_named (option_and_then str_in (value_of object ColumnType)))

-- the name of a column's type in PostgreSQL, empty where the file does not say; it must say it of an opaque column
abbrev pub of_absent : (path : List ℕ) → Ty → Result (List ℕ) CatalogRefusal
of_absent path Opaque = Err (Shape path)
of_absent path _ = Ok []

abbrev pub of_in : (path : List ℕ) → Ty → Option JsonTree → Result (List ℕ) CatalogRefusal
of_in path ty None = of_absent path ty
of_in path ty (Some j) = required path (str_in j)

unfoldable pub of_member : (path : List ℕ) → JsonTree → Ty → Result (List ℕ) CatalogRefusal
of_member path object ty = of_in (at path Of) ty (value_of object Of)

-- whether a column may hold NULL: it may where the file does not say
abbrev pub nullable_in : (path : List ℕ) → Option JsonTree → Result Bool CatalogRefusal
nullable_in path None = Ok true
nullable_in path (Some j) = required path (bool_in j)

unfoldable pub nullable_member : (path : List ℕ) → JsonTree → Result Bool CatalogRefusal
nullable_member path object = nullable_in (at path Nullable) (value_of object Nullable)

-- the column at a path
unfoldable pub column_at : (path : List ℕ) → JsonTree → Result Column CatalogRefusal
column_at path j = do
  object ← object_at path j
  name ← text_member path object Name
  ty ← type_member path object
  of ← of_member path object ty
  nullable ← nullable_member path object
  Ok (record { name = name; ty = ty; of = of; nullable = nullable })

-- the columns of a table, of which there is at least one
unfoldable pub columns_member : (path : List ℕ) → JsonTree → Result (List Column) CatalogRefusal
columns_member path object = do
  list ← list_member path object Columns
  columns ← each column_at (at path Columns) list
  if length columns == 0 then Err (Shape (at path Columns)) else Ok columns

-- the foreign key at a path
unfoldable pub foreign_key_at : (path : List ℕ) → JsonTree → Result WrittenForeignKey CatalogRefusal
foreign_key_at path j = do
  object ← object_at path j
  columns ← names_member path object Columns
  table ← object_member path object Table
  schema ← text_member (at path Table) table Schema
  name ← text_member (at path Table) table Name
  references ← names_member path object References
  Ok (record { columns = columns; schema = schema; table = name; references = references })

-- the foreign keys of a table: it has none where the file does not say
abbrev pub foreign_keys_in : (path : List ℕ) → Option JsonTree → Result (List WrittenForeignKey) CatalogRefusal
foreign_keys_in path None = Ok []
foreign_keys_in path (Some j) = required path (array_in j) >>= each foreign_key_at path

unfoldable pub foreign_keys_member : (path : List ℕ) → JsonTree → Result (List WrittenForeignKey) CatalogRefusal
foreign_keys_member path object = foreign_keys_in (at path ForeignKeys) (value_of object ForeignKeys)

-- the table at a path
unfoldable pub table_at : (path : List ℕ) → JsonTree → Result WrittenTable CatalogRefusal
table_at path j = do
  object ← object_at path j
  schema ← text_member path object Schema
  name ← text_member path object Name
  columns ← columns_member path object
  key ← names_member path object PrimaryKey
  foreign ← foreign_keys_member path object
  Ok (record { schema = schema; name = name; columns = columns; key = key; foreign = foreign })

-- the tables that a file writes, or Shape at the first node that has not its form
unfoldable pub written_tables : JsonTree → Result (List WrittenTable) CatalogRefusal
written_tables j = do
  object ← object_at top_path j
  list ← list_member top_path object Tables
  each table_at (at top_path Tables) list
