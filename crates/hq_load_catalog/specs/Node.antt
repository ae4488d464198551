-- Nodes of a catalog file that must be of a kind: Shape at the node's path where it is absent or of another.
use Rattle.std.specs.Prelude.{ℕ, List, is_some, Option, option_and_then, ok_or, Result, Ok, Err, if◌then◌else◌}
use Rattle.hq_base.specs.Due.{◌>>=◌}
use Rattle.hq_base.specs.Json.{JsonTree}
use Rattle.hq_base.specs.Look.{str_in, array_in, object_in, member_in}
use Rattle.hq_base.specs.Path.{member_path}
use Rattle.hq_load_catalog.specs.declared.field.Field.{Field}
use Rattle.hq_load_catalog.specs.declared.refusal.CatalogRefusal.{CatalogRefusal}
use Rattle.hq_load_catalog.specs.declared.refusal.CatalogRefusal.TheVariants.{Shape}
use Rattle.hq_load_catalog.specs.Each.{each}
use Rattle.hq_load_catalog.specs.Field.{field_name}

-- what a node holds, or Shape at its path
abbrev pub required : {A : Type 0} → (path : List ℕ) → Option A → Result A CatalogRefusal
required path held = ok_or held (Shape path)

-- the path of a member of the object at a path
abbrev pub at : (path : List ℕ) → Field → List ℕ
at path field = member_path path (field_name field)

-- the value of a member, where the object has it
abbrev pub value_of : JsonTree → Field → Option JsonTree
value_of object field = member_in object (field_name field)

-- a node that must be an object
unfoldable pub object_at : (path : List ℕ) → JsonTree → Result JsonTree CatalogRefusal
object_at path j = if is_some (object_in j) then Ok j else Err (Shape path)

-- a node that must be a text
unfoldable pub text_at : (path : List ℕ) → JsonTree → Result (List ℕ) CatalogRefusal
text_at path j = required path (str_in j)

-- a member that must be a text
unfoldable pub text_member : (path : List ℕ) → JsonTree → Field → Result (List ℕ) CatalogRefusal
text_member path object field = required (at path field) (option_and_then str_in (value_of object field))

-- a member that must be a list
unfoldable pub list_member : (path : List ℕ) → JsonTree → Field → Result (List JsonTree) CatalogRefusal
list_member path object field = required (at path field) (option_and_then array_in (value_of object field))

-- a member that must be a list of texts
unfoldable pub names_member : (path : List ℕ) → JsonTree → Field → Result (List (List ℕ)) CatalogRefusal
names_member path object field = do
  list ← list_member path object field
  each text_at (at path field) list

-- a member that must be an object
unfoldable pub object_member : (path : List ℕ) → JsonTree → Field → Result JsonTree CatalogRefusal
object_member path object field = do
  j ← required (at path field) (value_of object field)
  object_at (at path field) j
