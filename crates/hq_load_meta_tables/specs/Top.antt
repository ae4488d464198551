-- The top of a metadata file down to the entries of its tables (Hasura v2, metadata format: versions 2 and 3).
use Rattle.std.specs.Prelude.{ℕ, ℤ, pos, List, [], ◌∷◌, length, Bool, true, false, is_some, Option, Some, None, option_and_then, unwrap_or, ok_or, Result, Ok, Err, if◌then◌else◌, bytes_eq, codes}
use Rattle.std.specs.Ordering.{int_eq}
use Rattle.hq_base.specs.Compact.{compact}
use Rattle.hq_base.specs.Due.{◌>>=◌}
use Rattle.hq_base.specs.Json.{JsonTree}
use Rattle.hq_base.specs.Look.{int_in, array_in, object_in}
use Rattle.hq_base.specs.Path.{top_path, item_path}
use Rattle.hq_load_meta_tables.specs.declared.field.Field.{Field}
use Rattle.hq_load_meta_tables.specs.declared.field.Field.TheVariants.{Customization, DisabledForRoles, GraphqlSchemaIntrospection, InheritedRoles, Kind, Metadata, Name, Sources, Tables, Version}
use Rattle.hq_load_meta_tables.specs.declared.refusal.MetaRefusal.{MetaRefusal}
use Rattle.hq_load_meta_tables.specs.declared.refusal.MetaRefusal.TheVariants as refusal
use Rattle.hq_load_meta_tables.specs.declared.version.MetaVersion.{MetaVersion}
use Rattle.hq_load_meta_tables.specs.declared.version.MetaVersion.TheVariants.{Two, Three}
use Rattle.hq_load_meta_tables.specs.Node.{required, checked, at, value_of, object_at, text_member, list_member, entries_member, given_value}

-- a wrapper has no version, and an object `metadata`, which is read in its place
abbrev pub unwrapped_by : (version metadata : Option JsonTree) → JsonTree → JsonTree
unwrapped_by None (Some m) j = if is_some (object_in m) then m else j
unwrapped_by _ _ j = j

unfoldable pub unwrapped : JsonTree → JsonTree
unwrapped j = unwrapped_by (value_of j Version) (value_of j Metadata) j

-- the version that a number tells
abbrev pub version_of : Option ℤ → Option MetaVersion
version_of None = None
version_of (Some n) = if int_eq n (pos 2) then Some Two else (if int_eq n (pos 3) then Some Three else None)

-- the version of the format is 2 or 3
abbrev pub version_due : Option JsonTree → Result MetaVersion MetaRefusal
version_due None = Err (refusal.Version [])
version_due (Some j) = ok_or (version_of (int_in j)) (refusal.Version (compact j))

-- a list of one element, or how many there are
abbrev pub sole : List JsonTree → Result JsonTree MetaRefusal
sole (j ∷ []) = Ok j
sole js = Err (refusal.Sources (length js))

-- nothing stands in a list
abbrev pub is_empty : {A : Type 0} → List A → Bool
is_empty [] = true
is_empty _ = false

-- a member is absent or an empty list
unfoldable pub no_entries : (path : List ℕ) → JsonTree → Field → Result (Unit {0}) MetaRefusal
no_entries path object field = do
  entries ← entries_member path object field
  checked (at path field) (is_empty entries)

-- introspection is closed to no role: to pass over what closes it would widen access
abbrev pub open_in : (path : List ℕ) → Option JsonTree → Result (Unit {0}) MetaRefusal
open_in path None = Ok tt
open_in path (Some j) = do
  object ← object_at path j
  no_entries path object DisabledForRoles

-- inherited roles stand in a list, and introspection is open to all; null counts as absent there
unfoldable pub roles_due : JsonTree → Result (Unit {0}) MetaRefusal
roles_due object = do
  _ ← entries_member top_path object InheritedRoles
  open_in (at top_path GraphqlSchemaIntrospection) (given_value (Some object) GraphqlSchemaIntrospection)

-- the entries of the inherited roles: none where there is no list of them
unfoldable pub role_entries : JsonTree → List JsonTree
role_entries j = unwrap_or (option_and_then array_in (value_of j InheritedRoles)) []

-- the path of the one source
unfoldable pub source_path : List ℕ
source_path = item_path (at top_path Sources) 0

-- the path of the list of tables: it stands at the top in version 2, and in the one source in version 3
unfoldable pub tables_path : MetaVersion → List ℕ
tables_path Two = at top_path Tables
tables_path Three = at source_path Tables

-- the source is a database of PostgreSQL
unfoldable pub kind_due : JsonTree → Result (Unit {0}) MetaRefusal
kind_due source = do
  kind ← text_member source_path source Kind
  checked (at source_path Kind) (bytes_eq kind (codes "postgres"))

-- a customization, which would change names, is absent or without members
abbrev pub plain_in : (path : List ℕ) → Option JsonTree → Result (Unit {0}) MetaRefusal
plain_in path None = Ok tt
plain_in path (Some j) = do
  members ← required path (object_in j)
  checked path (is_empty members)

-- the tables of a source
unfoldable pub source_tables : JsonTree → Result (List JsonTree) MetaRefusal
source_tables j = do
  source ← object_at source_path j
  _ ← text_member source_path source Name
  _ ← kind_due source
  _ ← plain_in (at source_path Customization) (value_of source Customization)
  list_member source_path source Tables

-- the entries of the tables, where the object at the top holds them itself
unfoldable pub own_entries : JsonTree → Result (List JsonTree) MetaRefusal
own_entries top = do
  tables ← list_member top_path top Tables
  _ ← roles_due top
  Ok tables

-- the entries of the tables, where the object at the top has a list of one source that holds them
unfoldable pub source_entries : JsonTree → Result (List JsonTree) MetaRefusal
source_entries top = do
  sources ← list_member top_path top Sources
  _ ← roles_due top
  source ← sole sources
  source_tables source

abbrev pub top_entries : MetaVersion → JsonTree → Result (List JsonTree) MetaRefusal
top_entries Two top = own_entries top
top_entries Three top = source_entries top

-- the version of a file, and the entries of its tables
unfoldable pub table_entries : JsonTree → Result (MetaVersion × List JsonTree) MetaRefusal
table_entries j = do
  version ← version_due (value_of j Version)
  top ← object_at top_path j
  entries ← top_entries version top
  Ok (version, entries)
