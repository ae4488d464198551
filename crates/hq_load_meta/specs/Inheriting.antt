-- The inherited roles of a metadata file (Hasura v2, metadata format: inherited_roles). An entry has all its tests before the
-- next one's: its form, then its names, and then that no entry before it is of its name.
use Rattle.std.specs.Prelude.{ℕ, List, [], position, Bool, false, not, Option, Some, None, option_and_then, Result, Ok, Err, if◌then◌else◌, bytes_eq}
use Rattle.std.specs.List.{list_any}
use Rattle.hq_base.specs.Due.{◌>>=◌}
use Rattle.hq_base.specs.Json.{JsonTree}
use Rattle.hq_base.specs.Look.{str_in}
use Rattle.hq_base.specs.Path.{top_path, item_path}
use Rattle.hq_model.specs.Names.{is_admin_name}
use Rattle.hq_model.specs.declared.meta.Inherited.{Inherited}
use Rattle.hq_load_meta_tables.specs.declared.field.Field.TheVariants as field
use Rattle.hq_load_meta_tables.specs.declared.refusal.MetaRefusal.{MetaRefusal}
use Rattle.hq_load_meta_tables.specs.declared.refusal.MetaRefusal.TheVariants.{Shape, RepeatedRole}
use Rattle.hq_load_meta_tables.specs.Each.{each, each_after}
use Rattle.hq_load_meta_tables.specs.Node.{checked, at, value_of, object_at, text_at, text_member, list_member}
use Rattle.hq_load_meta_tables.specs.Top.{is_empty}

-- a name that is given is this one
abbrev pub is_named : (name : List ℕ) → (given : Option (List ℕ)) → Bool
is_named name None = false
is_named name (Some given) = bytes_eq given name

-- some entry of the file is for a role of this name
abbrev pub is_entered : (entries : List JsonTree) → (name : List ℕ) → Bool
is_entered entries name = list_any (λ j. is_named name (option_and_then str_in (value_of j field.RoleName))) entries

-- the form of an entry: the name of a role, and a list of names
unfoldable pub inherited_form : (path : List ℕ) → JsonTree → Result Inherited MetaRefusal
inherited_form path j = do
  object ← object_at path j
  role ← text_member path object field.RoleName
  list ← list_member path object field.RoleSet
  set ← each text_at (at path field.RoleSet) list
  Ok (record { role = role; set = set })

-- an element of the list at a path is refused
abbrev pub unless_at : (path : List ℕ) → Option ℕ → Result (Unit {0}) MetaRefusal
unless_at path None = Ok tt
unless_at path (Some place) = Err (Shape (item_path path place))

-- no name is that of admin
abbrev pub plain_names : (path : List ℕ) → Inherited → Result (Unit {0}) MetaRefusal
plain_names path i = do
  _ ← checked (at path field.RoleName) (not (is_admin_name i.role))
  unless_at (at path field.RoleSet) (position is_admin_name i.set)

-- the set has a role at least, none of which is inherited itself
abbrev pub own_roles : (entries : List JsonTree) → (path : List ℕ) → Inherited → Result (Unit {0}) MetaRefusal
own_roles entries path i = do
  _ ← checked (at path field.RoleSet) (not (is_empty i.set))
  unless_at (at path field.RoleSet) (position (is_entered entries) i.set)

-- the role is none of those before it
abbrev pub new_role : (before : List Inherited) → (path role : List ℕ) → Result (Unit {0}) MetaRefusal
new_role before path role = if list_any (λ i. bytes_eq i.role role) before then Err (RepeatedRole path) else Ok tt

-- the inherited role that the entry at a path gives, behind those before it
unfoldable pub inherited_at : (entries : List JsonTree) → (before : List Inherited) → (path : List ℕ) → JsonTree → Result Inherited MetaRefusal
inherited_at entries before path j = do
  i ← inherited_form path j
  _ ← plain_names path i
  _ ← own_roles entries path i
  _ ← new_role before (at path field.RoleName) i.role
  Ok i

-- the inherited roles that the entries give
unfoldable pub inherited_due : (entries : List JsonTree) → Result (List Inherited) MetaRefusal
inherited_due entries = each_after (inherited_at entries) (at top_path field.InheritedRoles) 0 [] entries
