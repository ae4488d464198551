-- The names that the configuration of a table gives (Hasura v2, metadata format: TableConfig). A null counts as absent at
-- every member.
use Rattle.std.specs.Prelude.{ℕ, List, [], ◌++◌, map, Option, Some, None, option_and_then, unwrap_or, Result, Ok, if◌then◌else◌, bytes_eq, codes}
use Rattle.hq_base.specs.Due.{◌>>=◌, mapped}
use Rattle.hq_base.specs.Json.{JsonTree}
use Rattle.hq_base.specs.Look.{str_in, object_in}
use Rattle.hq_base.specs.Path.{member_path}
use Rattle.hq_model.specs.Names.{is_table_name}
use Rattle.hq_model.specs.declared.meta.RootNames.{RootNames}
use Rattle.hq_model.specs.declared.table.Column.{Column}
use Rattle.hq_model.specs.declared.table.Table.{Table}
use Rattle.hq_load_meta_tables.specs.declared.field.Field.{Field}
use Rattle.hq_load_meta_tables.specs.declared.field.Field.TheVariants as field
use Rattle.hq_load_meta_tables.specs.declared.refusal.MetaRefusal.{MetaRefusal}
use Rattle.hq_load_meta_tables.specs.Each.{all_pass}
use Rattle.hq_load_meta_tables.specs.Found.{column_named}
use Rattle.hq_load_meta_tables.specs.Node.{required, checked, at, object_at, text_at, free_name_at, unless_null, named_value, given_value, given_object}

-- a table's name where no other is given: its own for the schema `public`, else the schema's before it
abbrev pub own_name : Table → List ℕ
own_name t = if bytes_eq t.schema (codes "public") then t.name else t.schema ++ codes "_" ++ t.name

-- the table's own name is tested where no other is given
abbrev pub own_name_due : (path : List ℕ) → (custom : Option JsonTree) → Table → Result (Unit {0}) MetaRefusal
own_name_due path None t = checked path (is_table_name (own_name t))
own_name_due path (Some j) t = Ok tt

-- a table's name that is given at a path
unfoldable pub table_name_at : (path : List ℕ) → JsonTree → Result (List ℕ) MetaRefusal
table_name_at path j = do
  name ← text_at path j
  _ ← checked path (is_table_name name)
  Ok name

-- the name of a table: the one that is given at a path, else its own
abbrev pub table_name_due : (path : List ℕ) → (custom : Option JsonTree) → Table → Result (List ℕ) MetaRefusal
table_name_due path None t = Ok (own_name t)
table_name_due path (Some j) t = table_name_at path j

-- a text that may be absent
abbrev pub given_text_due : (path : List ℕ) → Option JsonTree → Result (Unit {0}) MetaRefusal
given_text_due path None = Ok tt
given_text_due path (Some j) = mapped (λ text. tt) (text_at path j)

-- a member of `column_config`, an object at a path, is named for a column
unfoldable pub column_config_at : List Column → (path name : List ℕ) → JsonTree → Result (Unit {0}) MetaRefusal
column_config_at columns path name j = do
  object ← object_at path j
  _ ← column_named columns path name
  given_text_due (at path field.CustomName) (given_value (Some object) field.CustomName)

-- a member of `custom_column_names`, a text at a path, is named for a column
unfoldable pub column_text_at : List Column → (path name : List ℕ) → JsonTree → Result (Unit {0}) MetaRefusal
column_text_at columns path name j = do
  _ ← text_at path j
  mapped (λ c. tt) (column_named columns path name)

-- a member of either is named for a column
abbrev pub column_due : Field → List Column → (path name : List ℕ) → JsonTree → Result (Unit {0}) MetaRefusal
column_due field.ColumnConfig = column_config_at
column_due _ = column_text_at

-- a member that is not null, of the object at a path
abbrev pub member_due : (test : (path name : List ℕ) → JsonTree → Result (Unit {0}) MetaRefusal) → (path name : List ℕ) → Option JsonTree → Result (Unit {0}) MetaRefusal
member_due test path name None = Ok tt
member_due test path name (Some j) = test (member_path path name) name j

-- the members of an object that may be absent
abbrev pub members_due : (test : (path name : List ℕ) → JsonTree → Result (Unit {0}) MetaRefusal) → (path : List ℕ) → Option JsonTree → Result (Unit {0}) MetaRefusal
members_due test path None = Ok tt
members_due test path (Some j) = required path (object_in j) >>= all_pass (λ m. member_due test path m.0 (unless_null m.1))

-- the text that is given, else the other one
abbrev pub text_or : Option JsonTree → (other : List ℕ) → List ℕ
text_or given other = unwrap_or (option_and_then str_in given) other

-- the name of a column: the one that its member of `column_config` gives; where it has no such member, its member of
-- `custom_column_names`; else its own
abbrev pub column_name_by : (config text : Option JsonTree) → (own : List ℕ) → List ℕ
column_name_by None text own = text_or text own
column_name_by (Some object) text own = text_or (given_value (Some object) field.CustomName) own

abbrev pub column_name_of : (config texts : Option JsonTree) → Column → List ℕ
column_name_of config texts c = column_name_by (named_value config c.name) (named_value texts c.name) c.name

-- the names of a table's columns, in the catalog's order, where the configuration at a path is given
unfoldable pub column_names_due : List Column → (path : List ℕ) → (given : Option JsonTree) → Result (List (List ℕ)) MetaRefusal
column_names_due columns path given =
    let config = given_value given field.ColumnConfig in
    let texts = given_value given field.CustomColumnNames in
    members_due (column_config_at columns) (at path field.ColumnConfig) config >>= λ _.
    members_due (column_text_at columns) (at path field.CustomColumnNames) texts >>= λ _.
    Ok (map (column_name_of config texts) columns)

-- the name of a root field, where a text gives it
abbrev pub root_text_due : (path : List ℕ) → Option JsonTree → Result (Option (List ℕ)) MetaRefusal
root_text_due path None = Ok None
root_text_due path (Some j) = mapped Some (free_name_at path j)

-- the name of a root field that is given as a text, or as an object with a text `name`
abbrev pub root_by : (path : List ℕ) → JsonTree → (text : Option (List ℕ)) → Result (Option (List ℕ)) MetaRefusal
root_by path j (Some name) = root_text_due path (Some j)
root_by path j None = do
  object ← object_at path j
  root_text_due (at path field.Name) (given_value (Some object) field.Name)

abbrev pub root_in : (path : List ℕ) → Option JsonTree → Result (Option (List ℕ)) MetaRefusal
root_in path None = Ok None
root_in path (Some j) = root_by path j (str_in j)

-- the name of a root field that the object at a path gives, or else the table's name with an end
unfoldable pub root_due : (path : List ℕ) → Option JsonTree → Field → (name end : List ℕ) → Result (List ℕ) MetaRefusal
root_due path given which name end = mapped (λ text. unwrap_or text (name ++ end)) (root_in (at path which) (given_value given which))

-- the names of the root fields of a table of this name, where the object at a path gives some
unfoldable pub roots_due : (path name : List ℕ) → Option JsonTree → Result RootNames MetaRefusal
roots_due path name given = do
  custom ← given_object path given
  select ← root_due path custom field.Select name []
  by_pk ← root_due path custom field.SelectByPk name (codes "_by_pk")
  aggregate ← root_due path custom field.SelectAggregate name (codes "_aggregate")
  Ok (record { select = select; select_aggregate = aggregate; select_by_pk = by_pk })
