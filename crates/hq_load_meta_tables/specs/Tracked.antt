-- The tracked tables with the names that their entries give, without relationships and permissions (Hasura v2, metadata
-- format: TableEntry).
use Rattle.std.specs.Prelude.{ℕ, List, [], map, ◌==◌, Option, Some, ok_or, slice_get, Result, Ok, Err, if◌then◌else◌}
use Rattle.std.specs.List.{list_any}
use Rattle.hq_base.specs.Due.{◌>>=◌}
use Rattle.hq_base.specs.Json.{JsonTree}
use Rattle.hq_model.specs.Meta.{TrackedTree, MetaTree}
use Rattle.hq_model.specs.declared.table.Table.{Table}
use Rattle.hq_load_meta_tables.specs.declared.field.Field.TheVariants as field
use Rattle.hq_load_meta_tables.specs.declared.refusal.MetaRefusal.{MetaRefusal}
use Rattle.hq_load_meta_tables.specs.declared.refusal.MetaRefusal.TheVariants.{UnknownTable, RepeatedName}
use Rattle.hq_load_meta_tables.specs.Configured.{own_name_due, table_name_due, column_names_due, roots_due}
use Rattle.hq_load_meta_tables.specs.Found.{table_at}
use Rattle.hq_load_meta_tables.specs.Node.{at, object_at, member_at, given_value, given_object}

-- a table is tracked once
abbrev pub new_table : (before : List TrackedTree) → (path : List ℕ) → (t : ℕ) → Result (Unit {0}) MetaRefusal
new_table before path t = if list_any (λ k. k.table == t) before then Err (RepeatedName path) else Ok tt

-- the table at a place of the catalog
abbrev pub table_of : List Table → (path : List ℕ) → (t : ℕ) → Result Table MetaRefusal
table_of tables path t = ok_or (slice_get tables t) (UnknownTable path)

-- the table that an entry tracks, and its place: one that is not tracked already. Where no name is given, its own is one.
unfoldable pub entry_table : List Table → (before : List TrackedTree) → (path : List ℕ) → JsonTree → (custom : Option JsonTree) → Result (ℕ × Table) MetaRefusal
entry_table tables before path object custom = do
  j ← member_at path object field.Table
  t ← table_at tables (at path field.Table) j
  table ← table_of tables (at path field.Table) t
  _ ← new_table before (at path field.Table) t
  _ ← own_name_due (at path field.Table) custom table
  Ok (t, table)

-- the names of a table at place t, where its configuration, which stands at a path, is given
unfoldable pub configured : (path : List ℕ) → (given : Option JsonTree) → (t : ℕ) → Table → Result TrackedTree MetaRefusal
configured path given t table = do
  configuration ← given_object path given
  name ← table_name_due (at path field.CustomName) (given_value configuration field.CustomName) table
  column_names ← column_names_due table.columns path configuration
  roots ← roots_due (at path field.CustomRootFields) name (given_value configuration field.CustomRootFields)
  Ok (record { table = t; name = name; column_names = column_names; roots = roots; rels = []; perms = [] })

-- the table that the entry at a path tracks, behind those before it
unfoldable pub tracked_at : List Table → (before : List TrackedTree) → (path : List ℕ) → JsonTree → Result TrackedTree MetaRefusal
tracked_at tables before path j = do
  object ← object_at path j
  table ← entry_table tables before path object (given_value (given_value (Some object) field.Configuration) field.CustomName)
  configured (at path field.Configuration) (given_value (Some object) field.Configuration) table.0 table.1

-- the places of the tracked tables
abbrev pub tables_of : MetaTree → List ℕ
tables_of m = map (λ k. k.table) m.tracked
