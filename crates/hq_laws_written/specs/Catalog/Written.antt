-- A catalog as a JSON value: the tables with their columns, keys and foreign keys, each named as it is in the database. The
-- members stand in this order, and none is left out but an empty `of`.
use Rattle.std.specs.Prelude.{ℕ, List, [], ◌∷◌, ◌++◌, map, length, Bool, not, cond, ◌&&◌, ◌||◌, ◌==◌, Option, Some, None, slice_get}
use Rattle.std.specs.List.{list_all}
use Rattle.hq_base.specs.Json.{JsonTree, bool, str}
use Rattle.hq_base.specs.Types.{catalog_name, is_opaque}
use Rattle.hq_model.specs.declared.table.Column.{Column}
use Rattle.hq_model.specs.declared.table.ForeignKey.{ForeignKey}
use Rattle.hq_model.specs.declared.table.Table.{Table}
use Rattle.hq_load_catalog.specs.Field.{field_name}
use Rattle.hq_load_catalog.specs.declared.field.Field.TheVariants as field
use Rattle.hq_laws_written.specs.Json.Building.{object, list, texts}
use Rattle.hq_laws_written.specs.Json.ReadBack.{is_clean}

-- the name of a column, by its place
abbrev pub name_in : Option Column → List ℕ
name_in None = []
name_in (Some c) = c.name

abbrev pub name_at : List Column → ℕ → List ℕ
name_at columns c = name_in (slice_get columns c)

-- the name of a column's type in PostgreSQL, which an opaque column always has
abbrev pub has_of : Column → Bool
has_of c = is_opaque c.ty || not (length c.of == 0)

abbrev pub of_members : Column → List (List ℕ × JsonTree)
of_members c = cond (has_of c) ((field_name field.Of, str c.of) ∷ []) []

-- the members of a column
abbrev pub column_members : Column → List (List ℕ × JsonTree)
column_members c =
    (field_name field.Name, str c.name)
    ∷ (field_name field.ColumnType, str (catalog_name c.ty))
    ∷ (of_members c ++ (field_name field.Nullable, bool c.nullable) ∷ [])

-- a column: its name, its type, perhaps with PostgreSQL's name of it, and whether it may hold NULL
abbrev pub column_json : Column → JsonTree
column_json c = object (column_members c)

-- the schema, the name and the columns of a table, where it is there
abbrev pub schema_in : Option Table → List ℕ
schema_in None = []
schema_in (Some t) = t.schema

abbrev pub table_name_in : Option Table → List ℕ
table_name_in None = []
table_name_in (Some t) = t.name

abbrev pub columns_in : Option Table → List Column
columns_in None = []
columns_in (Some t) = t.columns

-- the members of what names a table
abbrev pub table_ref_members : Option Table → List (List ℕ × JsonTree)
table_ref_members t =
    (field_name field.Schema, str (schema_in t)) ∷ (field_name field.Name, str (table_name_in t)) ∷ []

-- a table by its schema and name
abbrev pub table_ref : Option Table → JsonTree
table_ref t = object (table_ref_members t)

-- the members of a foreign key
abbrev pub foreign_members : List Table → Table → ForeignKey → List (List ℕ × JsonTree)
foreign_members tables t f =
    (field_name field.Columns, texts (map (name_at t.columns) f.columns))
    ∷ (field_name field.Table, table_ref (slice_get tables f.remote))
    ∷ (field_name field.References, texts (map (name_at (columns_in (slice_get tables f.remote))) f.references))
    ∷ []

-- a foreign key: its columns, the table that they refer to, and the columns of that table
abbrev pub foreign_json : List Table → Table → ForeignKey → JsonTree
foreign_json tables t f = object (foreign_members tables t f)

-- the members of a table
abbrev pub table_members : List Table → Table → List (List ℕ × JsonTree)
table_members tables t =
    (field_name field.Schema, str t.schema)
    ∷ (field_name field.Name, str t.name)
    ∷ (field_name field.Columns, list (map column_json t.columns))
    ∷ (field_name field.PrimaryKey, texts (map (name_at t.columns) t.key))
    ∷ (field_name field.ForeignKeys, list (map (foreign_json tables t) t.foreign))
    ∷ []

-- a table
abbrev pub table_json : List Table → Table → JsonTree
table_json tables t = object (table_members tables t)

-- the one member of a catalog
abbrev pub catalog_members : List Table → List (List ℕ × JsonTree)
catalog_members tables =
    (field_name field.Tables, list (map (table_json tables) tables)) ∷ []

-- the catalog
abbrev pub catalog_json : List Table → JsonTree
catalog_json tables = object (catalog_members tables)

-- each name of the catalog is UTF-8 without a zero byte
abbrev pub is_clean_column : Column → Bool
is_clean_column c = is_clean c.name && is_clean c.of

abbrev pub has_clean_names : List Table → Bool
has_clean_names tables = list_all (λ t. is_clean t.schema && is_clean t.name && list_all is_clean_column t.columns) tables
