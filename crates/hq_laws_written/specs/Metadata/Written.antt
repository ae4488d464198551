-- A metadata as a JSON value (Hasura v2, metadata format, version 3): one source with the tracked tables, each with its names,
-- its relationships by pairs of columns, and its select permissions, whose filters are empty. The members stand in this order,
-- and those that are objects of columns in ascending order of the columns' names.
use Rattle.std.specs.Prelude.{ℕ, pos, List, [], ◌∷◌, ◌++◌, map, filter, Bool, not, Option, Some, None, slice_get, slice_index_or, codes}
use Rattle.std.specs.List.{list_any}
use Rattle.hq_base.specs.Json.{JsonTree, bool, int, str}
use Rattle.hq_base.specs.Lists.{sort}
use Rattle.hq_model.specs.Meta.{PermTree, TrackedTree, MetaTree}
use Rattle.hq_model.specs.declared.meta.Pair.{Pair}
use Rattle.hq_model.specs.declared.meta.Rel.{Rel}
use Rattle.hq_model.specs.declared.meta.RootNames.{RootNames}
use Rattle.hq_model.specs.declared.table.Column.{Column}
use Rattle.hq_model.specs.declared.table.Table.{Table}
use Rattle.hq_load_meta_tables.specs.Field.{field_name}
use Rattle.hq_load_meta_tables.specs.Found.{columns_of}
use Rattle.hq_load_meta_tables.specs.declared.field.Field.TheVariants as field
use Rattle.hq_load_meta.specs.Linked.{is_among}
use Rattle.hq_load_meta.specs.Permitted.{all_columns}
use Rattle.hq_laws_written.specs.Json.Building.{object, list, texts}
use Rattle.hq_laws_written.specs.Json.ReadBack.{by_name}
use Rattle.hq_laws_written.specs.Catalog.Written.{name_at, schema_in, table_name_in}

-- the members of what names a table
abbrev pub table_ref_members : Option Table → List (List ℕ × JsonTree)
table_ref_members t =
    (codes "schema", str (schema_in t)) ∷ (field_name field.Name, str (table_name_in t)) ∷ []

-- a table by its schema and name
abbrev pub table_ref : Option Table → JsonTree
table_ref t = object (table_ref_members t)

-- ---- names

-- a permission shows the column
abbrev pub is_shown : TrackedTree → ℕ → Bool
is_shown k c = list_any (λ p. is_among c p.cols) k.perms

-- the columns that a permission shows, in the catalog's order
abbrev pub shown_columns : TrackedTree → List Column → List ℕ
shown_columns k columns = filter (is_shown k) (all_columns columns)

-- a column with its GraphQL name
abbrev pub column_config : TrackedTree → List Column → ℕ → List ℕ × JsonTree
column_config k columns c = (name_at columns c, object ((field_name field.CustomName, str (slice_index_or k.column_names c [])) ∷ []))

-- the shown columns with their GraphQL names
abbrev pub column_configs : TrackedTree → List Column → List (List ℕ × JsonTree)
column_configs k columns = sort by_name (map (column_config k columns) (shown_columns k columns))

-- the members of root names
abbrev pub roots_members : RootNames → List (List ℕ × JsonTree)
roots_members r =
    (field_name field.Select, str r.select)
    ∷ (field_name field.SelectByPk, str r.select_by_pk)
    ∷ (field_name field.SelectAggregate, str r.select_aggregate)
    ∷ []

-- the names of the root fields
abbrev pub roots_json : RootNames → JsonTree
roots_json r = object (roots_members r)

-- the members of a configuration
abbrev pub configuration_members : TrackedTree → List Column → List (List ℕ × JsonTree)
configuration_members k columns =
    (field_name field.CustomName, str k.name)
    ∷ (field_name field.ColumnConfig, object (column_configs k columns))
    ∷ (field_name field.CustomRootFields, roots_json k.roots)
    ∷ []

-- the GraphQL names of a table
abbrev pub configuration_json : TrackedTree → List Column → JsonTree
configuration_json k columns = object (configuration_members k columns)

-- ---- relationships

-- a pair: the own column's name, and the remote one's
abbrev pub pair_json : (own remote : List Column) → Pair → List ℕ × JsonTree
pair_json own remote p = (name_at own p.own, str (name_at remote p.remote))

-- the members of what joins a relationship
abbrev pub link_members : List Table → (own : List Column) → Rel → List (List ℕ × JsonTree)
link_members tables own r =
    (field_name field.RemoteTable, table_ref (slice_get tables r.remote))
    ∷ (field_name field.ColumnMapping, object (map (pair_json own (columns_of tables r.remote)) r.pairs))
    ∷ []

-- the remote table, and the pairs
abbrev pub link_json : List Table → (own : List Column) → Rel → JsonTree
link_json tables own r = object (link_members tables own r)

-- the members of a relationship
abbrev pub rel_members : List Table → (own : List Column) → Rel → List (List ℕ × JsonTree)
rel_members tables own r =
    (field_name field.Name, str r.name)
    ∷ (field_name field.Using, object ((field_name field.ManualConfiguration, link_json tables own r) ∷ []))
    ∷ []

-- a relationship
abbrev pub rel_json : List Table → (own : List Column) → Rel → JsonTree
rel_json tables own r = object (rel_members tables own r)

-- ---- permissions

-- the most rows of a list, where there is a limit
abbrev pub limit_member : Option ℕ → List (List ℕ × JsonTree)
limit_member None = []
limit_member (Some n) = (field_name field.Limit, int (pos n)) ∷ []

-- the members of what a role may see
abbrev pub permission_members : List Column → PermTree → List (List ℕ × JsonTree)
permission_members columns p =
    (field_name field.Columns, texts (map (name_at columns) p.cols))
    ∷ (field_name field.Filter, object [])
    ∷ (limit_member p.limit ++ (field_name field.AllowAggregations, bool p.aggregations) ∷ [])

-- what a role may see
abbrev pub permission_json : List Column → PermTree → JsonTree
permission_json columns p = object (permission_members columns p)

-- the members of a permission
abbrev pub perm_members : List Column → PermTree → List (List ℕ × JsonTree)
perm_members columns p =
    (field_name field.Role, str p.role) ∷ (field_name field.Permission, permission_json columns p) ∷ []

-- a select permission of a role
abbrev pub perm_json : List Column → PermTree → JsonTree
perm_json columns p = object (perm_members columns p)

-- ---- the whole

-- the members of a tracked table
abbrev pub tracked_members : List Table → TrackedTree → List (List ℕ × JsonTree)
tracked_members tables k =
    let columns = columns_of tables k.table in
    (field_name field.Table, table_ref (slice_get tables k.table))
    ∷ (field_name field.Configuration, configuration_json k columns)
    ∷ (field_name field.ObjectRelationships, list (map (rel_json tables columns) (filter (λ r. not r.many) k.rels)))
    ∷ (field_name field.ArrayRelationships, list (map (rel_json tables columns) (filter (λ r. r.many) k.rels)))
    ∷ (field_name field.SelectPermissions, list (map (perm_json columns) k.perms))
    ∷ []

-- a tracked table
abbrev pub tracked_json : List Table → TrackedTree → JsonTree
tracked_json tables k = object (tracked_members tables k)

-- the members of the source
abbrev pub source_members : List Table → MetaTree → List (List ℕ × JsonTree)
source_members tables m =
    (field_name field.Name, str (codes "default"))
    ∷ (field_name field.Kind, str (codes "postgres"))
    ∷ (field_name field.Tables, list (map (tracked_json tables) m.tracked))
    ∷ []

-- the one source
abbrev pub source_json : List Table → MetaTree → JsonTree
source_json tables m = object (source_members tables m)

-- the members of a metadata
abbrev pub meta_members : List Table → MetaTree → List (List ℕ × JsonTree)
meta_members tables m =
    (field_name field.Version, int (pos 3)) ∷ (field_name field.Sources, list (source_json tables m ∷ [])) ∷ []

-- the metadata
abbrev pub meta_json : List Table → MetaTree → JsonTree
meta_json tables m = object (meta_members tables m)
