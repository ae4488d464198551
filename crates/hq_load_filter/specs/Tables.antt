-- The tables that a metadata file names (Hasura v2, metadata format: QualifiedTable).
use Rattle.std.specs.Prelude.{ℕ, List, ◌&&◌, is_some, Option, Some, None, option_and_then, ok_or, position, Result, Ok, Err, if◌then◌else◌, bytes_eq, codes}
use Rattle.hq_base.specs.Due.{◌>>=◌}
use Rattle.hq_base.specs.Json.{JsonTree}
use Rattle.hq_base.specs.Look.{str_in, object_in, member_in}
use Rattle.hq_base.specs.Path.{member_path}
use Rattle.hq_model.specs.Meta.{MetaTree, tracked_table}
use Rattle.hq_model.specs.declared.table.Table.{Table}
use Rattle.hq_load_filter.specs.declared.refusal.FilterRefusal.{FilterRefusal}
use Rattle.hq_load_filter.specs.declared.refusal.FilterRefusal.TheVariants.{Shape, UnknownTable}

-- a member of the object at a path that must be a text
unfoldable pub text_member : (path : List ℕ) → JsonTree → (name : List ℕ) → Result (List ℕ) FilterRefusal
text_member path object name = ok_or (option_and_then str_in (member_in object name)) (Shape (member_path path name))

-- the place of the table of this schema and name
unfoldable pub table_named : List Table → (path schema name : List ℕ) → Result ℕ FilterRefusal
table_named tables path schema name = ok_or (position (λ t. bytes_eq t.schema schema && bytes_eq t.name name) tables) (UnknownTable path)

-- the table that an object with a schema and a name tells
unfoldable pub qualified_table : List Table → (path : List ℕ) → JsonTree → Result ℕ FilterRefusal
qualified_table tables path j = do
  _ ← ok_or (object_in j) (Shape path)
  schema ← text_member path j (codes "schema")
  name ← text_member path j (codes "name")
  table_named tables path schema name

-- the table that a node names: a text is the name of one of the schema `public`
abbrev pub table_by : List Table → (path : List ℕ) → JsonTree → (text : Option (List ℕ)) → Result ℕ FilterRefusal
table_by tables path j (Some name) = table_named tables path (codes "public") name
table_by tables path j None = qualified_table tables path j

unfoldable pub table_at : List Table → (path : List ℕ) → JsonTree → Result ℕ FilterRefusal
table_at tables path j = table_by tables path j (str_in j)

-- a table must be tracked
unfoldable pub tracked_due : MetaTree → (path : List ℕ) → (t : ℕ) → Result ℕ FilterRefusal
tracked_due m path t = if is_some (tracked_table m t) then Ok t else Err (UnknownTable path)

-- the tracked table that a node names
unfoldable pub remote_at : List Table → MetaTree → (path : List ℕ) → JsonTree → Result ℕ FilterRefusal
remote_at tables m path j = do
  t ← table_at tables path j
  tracked_due m path t
