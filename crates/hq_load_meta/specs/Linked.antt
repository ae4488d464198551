-- The remote table of a relationship, and the pairs of columns that join it (Hasura v2, metadata format: ObjRelUsing,
-- ArrRelUsing).
use Rattle.std.specs.Prelude.{ℕ, List, [], ◌∷◌, map, zip, find, Bool, true, false, ◌&&◌, ◌==◌, Option, Some, None, slice_get, ok_or, Result, Ok, Err, if◌then◌else◌}
use Rattle.std.specs.List.{list_all, list_any}
use Rattle.hq_base.specs.Due.{◌>>=◌, mapped}
use Rattle.hq_base.specs.Json.{JsonTree}
use Rattle.hq_base.specs.Look.{str_in, array_in, object_in}
use Rattle.hq_load_filter.specs.Each.{each_member}
use Rattle.hq_model.specs.Catalog.{can_pair, type_of}
use Rattle.hq_model.specs.Meta.{MetaTree}
use Rattle.hq_model.specs.declared.meta.Pair.{Pair}
use Rattle.hq_model.specs.declared.table.Column.{Column}
use Rattle.hq_model.specs.declared.table.ForeignKey.{ForeignKey}
use Rattle.hq_model.specs.declared.table.Table.{Table}
use Rattle.hq_load_meta_tables.specs.declared.field.Field.TheVariants as field
use Rattle.hq_load_meta.specs.declared.link.Link.{Link}
use Rattle.hq_load_meta_tables.specs.declared.refusal.MetaRefusal.{MetaRefusal}
use Rattle.hq_load_meta_tables.specs.declared.refusal.MetaRefusal.TheVariants.{Shape, NoForeignKey, BadMapping}
use Rattle.hq_load_meta_tables.specs.Each.{each}
use Rattle.hq_load_meta_tables.specs.Found.{columns_of, column_named, column_at, remote_at, tracked_due}
use Rattle.hq_load_meta_tables.specs.Node.{required, checked, at, value_of, object_at, text_at, list_at, member_at}

-- two lists have the same columns, in any order
abbrev pub is_among : (c : ℕ) → List ℕ → Bool
is_among c cs = list_any (λ d. d == c) cs

abbrev pub same_columns : (cs ds : List ℕ) → Bool
same_columns cs ds = list_all (λ c. is_among c ds) cs && list_all (λ d. is_among d cs) ds

-- exactly one of two is there
abbrev pub just_one : {A : Type 0} → Option A → Option A → Bool
just_one (Some a) None = true
just_one None (Some b) = true
just_one _ _ = false

-- columns of one table beside those of another
abbrev pub pairs_of : (own remote : List ℕ) → List Pair
pairs_of own remote = map (λ p. record { own = p.0; remote = p.1 }) (zip own remote)

-- the foreign keys of a table
abbrev pub foreign_in : Option Table → List ForeignKey
foreign_in None = []
foreign_in (Some t) = t.foreign

abbrev pub foreign_of : List Table → (t : ℕ) → List ForeignKey
foreign_of tables t = foreign_in (slice_get tables t)

-- the first foreign key of table t that has these columns
unfoldable pub own_key : List Table → (t : ℕ) (path : List ℕ) → (columns : List ℕ) → Result ForeignKey MetaRefusal
own_key tables t path columns = ok_or (find (λ f. same_columns f.columns columns) (foreign_of tables t)) (NoForeignKey path)

-- the first foreign key of a remote table that has these columns and refers to table t
unfoldable pub remote_key : List Table → (t remote : ℕ) (path : List ℕ) → (columns : List ℕ) → Result ForeignKey MetaRefusal
remote_key tables t remote path columns =
    ok_or (find (λ f. (f.remote == t) && same_columns f.columns columns) (foreign_of tables remote)) (NoForeignKey path)

-- by a foreign key of table t, to the tracked table that it refers to
unfoldable pub by_own_key : List Table → MetaTree → (t : ℕ) (path : List ℕ) → (columns : List ℕ) → Result Link MetaRefusal
by_own_key tables m t path columns = do
  key ← own_key tables t path columns
  remote ← tracked_due m path key.remote
  Ok (record { remote = remote; pairs = pairs_of key.columns key.references })

-- the columns that a member `column`, or else a member `columns`, of the object at a path names
abbrev pub key_columns : List Column → (path : List ℕ) → (column columns : Option JsonTree) → Result (List ℕ) MetaRefusal
key_columns remote path (Some j) columns = mapped (λ c. c ∷ []) (column_at remote (at path field.Column) j)
key_columns remote path None columns = do
  j ← required (at path field.Columns) columns
  list ← list_at (at path field.Columns) j
  each (column_at remote) (at path field.Columns) list

-- by a foreign key of a remote table, which refers to table t
unfoldable pub by_remote_key : List Table → MetaTree → (t : ℕ) (path : List ℕ) → JsonTree → Result Link MetaRefusal
by_remote_key tables m t path j = do
  object ← object_at path j
  _ ← checked path (just_one (value_of object field.Column) (value_of object field.Columns))
  table ← member_at path object field.Table
  remote ← remote_at tables m (at path field.Table) table
  columns ← key_columns (columns_of tables remote) path (value_of object field.Column) (value_of object field.Columns)
  key ← remote_key tables t remote path columns
  Ok (record { remote = remote; pairs = pairs_of key.references key.columns })

-- by a foreign key: for an object relationship a text names the column of an own key, and a list the columns of one; else it
-- is a key of a remote table
abbrev pub by_key_of : List Table → MetaTree → (t : ℕ) (path : List ℕ) → JsonTree → (text : Option (List ℕ)) → (list : Option (List JsonTree)) → Result Link MetaRefusal
by_key_of tables m t path j (Some name) list = do
  c ← column_named (columns_of tables t) path name
  by_own_key tables m t path (c ∷ [])
by_key_of tables m t path j None (Some js) = do
  columns ← each (column_at (columns_of tables t)) path js
  by_own_key tables m t path columns
by_key_of tables m t path j None None = by_remote_key tables m t path j

abbrev pub by_key : List Table → MetaTree → (t : ℕ) → (many : Bool) → (path : List ℕ) → JsonTree → Result Link MetaRefusal
by_key tables m t true path j = by_remote_key tables m t path j
by_key tables m t false path j = by_key_of tables m t path j (str_in j) (array_in j)

-- a pair of columns whose values can be compared
abbrev pub pair_due : (own remote : List Column) → (path : List ℕ) → Pair → Result Pair MetaRefusal
pair_due own remote path p = if can_pair (type_of (slice_get own p.own)) (type_of (slice_get remote p.remote)) then Ok p else Err (BadMapping path)

-- the pair that a member at a path gives: it is named for an own column, and its text names a remote one
unfoldable pub pair_at : (own remote : List Column) → (name path : List ℕ) → JsonTree → Result Pair MetaRefusal
pair_at own remote name path j = do
  text ← text_at path j
  c ← column_named own path name
  d ← column_named remote path text
  pair_due own remote path (record { own = c; remote = d })

-- at least one pair is mapped
abbrev pub some_pair : {A : Type 0} → (path : List ℕ) → List A → Result (Unit {0}) MetaRefusal
some_pair path [] = Err (BadMapping path)
some_pair path (x ∷ xs) = Ok tt

-- the pairs of the mapping at a path
unfoldable pub pairs_at : (own remote : List Column) → (path : List ℕ) → JsonTree → Result (List Pair) MetaRefusal
pairs_at own remote path j = do
  members ← required path (object_in j)
  _ ← some_pair path members
  each_member (pair_at own remote) path members

-- by hand: a remote table and a mapping of columns
unfoldable pub by_hand : List Table → MetaTree → (t : ℕ) (path : List ℕ) → JsonTree → Result Link MetaRefusal
by_hand tables m t path j = do
  object ← object_at path j
  table ← member_at path object field.RemoteTable
  remote ← remote_at tables m (at path field.RemoteTable) table
  mapping ← member_at path object field.ColumnMapping
  pairs ← pairs_at (columns_of tables t) (columns_of tables remote) (at path field.ColumnMapping) mapping
  Ok (record { remote = remote; pairs = pairs })

-- the link that the member `using` at a path gives, by exactly one of its two members
abbrev pub link_by : List Table → MetaTree → (t : ℕ) → (many : Bool) → (path : List ℕ) → (key hand : Option JsonTree) → Result Link MetaRefusal
link_by tables m t many path (Some key) None = by_key tables m t many (at path field.ForeignKeyConstraintOn) key
link_by tables m t many path None (Some hand) = by_hand tables m t (at path field.ManualConfiguration) hand
link_by tables m t many path _ _ = Err (Shape path)

unfoldable pub link_at : List Table → MetaTree → (t : ℕ) → (many : Bool) → (path : List ℕ) → JsonTree → Result Link MetaRefusal
link_at tables m t many path j = link_by tables m t many path (value_of j field.ForeignKeyConstraintOn) (value_of j field.ManualConfiguration)
