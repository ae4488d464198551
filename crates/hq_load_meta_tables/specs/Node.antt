-- Nodes of a metadata file that must be of a kind: Shape at the node's path where it is absent or of another.
use Rattle.std.specs.Prelude.{ℕ, List, [], Bool, is_some, Option, Some, None, option_and_then, ok_or, Result, Ok, Err, if◌then◌else◌}
use Rattle.hq_base.specs.Due.{◌>>=◌, mapped}
use Rattle.hq_base.specs.Json.{JsonTree, null}
use Rattle.hq_base.specs.Look.{str_in, array_in, object_in, member_in}
use Rattle.hq_base.specs.Path.{member_path}
use Rattle.hq_model.specs.Names.{is_free_name}
use Rattle.hq_load_meta_tables.specs.declared.field.Field.{Field}
use Rattle.hq_load_meta_tables.specs.declared.refusal.MetaRefusal.{MetaRefusal}
use Rattle.hq_load_meta_tables.specs.declared.refusal.MetaRefusal.TheVariants.{Shape}
use Rattle.hq_load_meta_tables.specs.Field.{field_name}

-- what a node holds, or Shape at its path
abbrev pub required : {A : Type 0} → (path : List ℕ) → Option A → Result A MetaRefusal
required path held = ok_or held (Shape path)

-- a test of the node at a path
abbrev pub checked : (path : List ℕ) → Bool → Result (Unit {0}) MetaRefusal
checked path holds = if holds then Ok tt else Err (Shape path)

-- the path of a member of the object at a path
abbrev pub at : (path : List ℕ) → Field → List ℕ
at path field = member_path path (field_name field)

-- the value of a member, where the object has it
abbrev pub value_of : JsonTree → Field → Option JsonTree
value_of object field = member_in object (field_name field)

-- a node that must be an object
unfoldable pub object_at : (path : List ℕ) → JsonTree → Result JsonTree MetaRefusal
object_at path j = if is_some (object_in j) then Ok j else Err (Shape path)

-- a node that must be a text
unfoldable pub text_at : (path : List ℕ) → JsonTree → Result (List ℕ) MetaRefusal
text_at path j = required path (str_in j)

-- a node that must be a list
unfoldable pub list_at : (path : List ℕ) → JsonTree → Result (List JsonTree) MetaRefusal
list_at path j = required path (array_in j)

-- a name must be a Name that does not begin with two underscores
unfoldable pub free_name_at : (path : List ℕ) → JsonTree → Result (List ℕ) MetaRefusal
free_name_at path j = do
  name ← text_at path j
  _ ← checked path (is_free_name name)
  Ok name

-- a member that must be there
unfoldable pub member_at : (path : List ℕ) → JsonTree → Field → Result JsonTree MetaRefusal
member_at path object field = required (at path field) (value_of object field)

-- a member that must be a text
unfoldable pub text_member : (path : List ℕ) → JsonTree → Field → Result (List ℕ) MetaRefusal
text_member path object field = do
  j ← member_at path object field
  text_at (at path field) j

-- a member that must be a list
unfoldable pub list_member : (path : List ℕ) → JsonTree → Field → Result (List JsonTree) MetaRefusal
list_member path object field = do
  j ← member_at path object field
  list_at (at path field) j

-- a member that must be an object
unfoldable pub object_member : (path : List ℕ) → JsonTree → Field → Result JsonTree MetaRefusal
object_member path object field = do
  j ← member_at path object field
  object_at (at path field) j

-- a member that must be a list, and has no element where it is absent
abbrev pub entries_in : (path : List ℕ) → Option JsonTree → Result (List JsonTree) MetaRefusal
entries_in path None = Ok []
entries_in path (Some j) = list_at path j

unfoldable pub entries_member : (path : List ℕ) → JsonTree → Field → Result (List JsonTree) MetaRefusal
entries_member path object field = entries_in (at path field) (value_of object field)

-- a value that is not null
abbrev pub unless_null : JsonTree → Option JsonTree
unless_null null = None
unless_null j = Some j

-- the value of this name in an object that is given, where null counts as absent
unfoldable pub named_value : Option JsonTree → (name : List ℕ) → Option JsonTree
named_value given name = option_and_then (λ j. option_and_then unless_null (member_in j name)) given

-- the value of a member of an object that is given, where null counts as absent
abbrev pub given_value : Option JsonTree → Field → Option JsonTree
given_value given field = named_value given (field_name field)

-- a node that must be an object where it is given
abbrev pub given_object : (path : List ℕ) → Option JsonTree → Result (Option JsonTree) MetaRefusal
given_object path None = Ok None
given_object path (Some j) = mapped Some (object_at path j)
