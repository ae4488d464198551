-- The selections that the types of introspection accept (GraphQL October 2021, section 4.2: schema introspection schema).
use Rattle.std.specs.Prelude.{◌≡◌, ℕ, List, [], ◌∷◌, Bool, true, false, ◌&&◌, ◌||◌, Option, Some, None, is_none, is_some, bytes_eq, codes}
use Rattle.std.specs.Map.{lookup}
use Rattle.hq_model.specs.Schema.{Schema}
use Rattle.hq_request_tree.specs.Everywhere.{FromRoot}
use Rattle.hq_request_tree.specs.Fields.{FieldTrees, FieldTree, column, typename, no_queries, object, list, by_key, aggregate, introspect, PartTree}
use Rattle.hq_request_tree.specs.Introspection.{IntrospectionTree, look, IntrospectionTrees, no_look, looks}
use Rattle.hq_request_tree.specs.ResponseKeys.{are_keys}

-- the types of introspection that have fields
pub data MetaType : Type 0 where
  schema_type : MetaType
  type_type : MetaType
  field_type : MetaType
  input_type : MetaType
  value_type : MetaType
  directive_type : MetaType

-- a field without fields of its own, and one whose fields are those of a type
abbrev pub leaf : List ℕ → List ℕ × Option MetaType
leaf name = (name, None)

abbrev pub branch : List ℕ → MetaType → List ℕ × Option MetaType
branch name type = (name, Some type)

-- the fields of a type
abbrev pub meta_fields : MetaType → List (List ℕ × Option MetaType)
meta_fields schema_type =
    leaf (codes "description") ∷ branch (codes "types") type_type ∷ branch (codes "queryType") type_type
    ∷ branch (codes "mutationType") type_type ∷ branch (codes "subscriptionType") type_type ∷ branch (codes "directives") directive_type ∷ []
meta_fields type_type =
    leaf (codes "kind") ∷ leaf (codes "name") ∷ leaf (codes "description") ∷ leaf (codes "specifiedByURL")
    ∷ branch (codes "fields") field_type ∷ branch (codes "interfaces") type_type ∷ branch (codes "possibleTypes") type_type
    ∷ branch (codes "enumValues") value_type ∷ branch (codes "inputFields") input_type ∷ branch (codes "ofType") type_type ∷ []
meta_fields field_type =
    leaf (codes "name") ∷ leaf (codes "description") ∷ branch (codes "args") input_type ∷ branch (codes "type") type_type
    ∷ leaf (codes "isDeprecated") ∷ leaf (codes "deprecationReason") ∷ []
meta_fields input_type =
    leaf (codes "name") ∷ leaf (codes "description") ∷ branch (codes "type") type_type ∷ leaf (codes "defaultValue") ∷ []
meta_fields value_type =
    leaf (codes "name") ∷ leaf (codes "description") ∷ leaf (codes "isDeprecated") ∷ leaf (codes "deprecationReason") ∷ []
meta_fields directive_type =
    leaf (codes "name") ∷ leaf (codes "description") ∷ leaf (codes "isRepeatable") ∷ leaf (codes "locations")
    ∷ branch (codes "args") input_type ∷ []

-- what a type has under a name; each type has `__typename`, which is a leaf
abbrev pub meta_field : MetaType → (name : List ℕ) → Option (Option MetaType)
meta_field type name = lookup (λ n. bytes_eq n name) (leaf (codes "__typename") ∷ meta_fields type)

-- the response keys of fields
abbrev pub look_keys : IntrospectionTrees → List (List ℕ)
look_keys no_look = []
look_keys (looks key f fs) = key ∷ look_keys fs

-- fields that stand in a type: its own, with fields below only where they have a type, and keys that differ
abbrev mutual
  pub accepts : MetaType → IntrospectionTrees → Bool
  accepts type no_look = true
  accepts type (looks key f fs) = accepts_one type f && accepts type fs

  pub accepts_one : MetaType → IntrospectionTree → Bool
  accepts_one type (look name type_name deprecated fs) = is_none type_name && accepts_below fs (meta_field type name)

  -- below a field that its type lacks there is nothing to accept; below a leaf there is nothing; below a field with a type
  -- are fields whose keys differ, and none where directives skip them all
  pub accepts_below : IntrospectionTrees → Option (Option MetaType) → Bool
  accepts_below no_look None = false
  accepts_below no_look (Some None) = true
  accepts_below no_look (Some (Some type)) = true
  accepts_below (looks key f fs) None = false
  accepts_below (looks key f fs) (Some None) = false
  accepts_below (looks key f fs) (Some (Some type)) = are_keys (key ∷ look_keys fs) && accepts_one type f && accepts type fs

-- the fields of an object of a type
abbrev pub accepts_object : MetaType → IntrospectionTrees → Bool
accepts_object type fs = accepts_below fs (Some (Some type))

-- a root field of introspection: `__schema`, or `__type` with the name of a type
abbrev pub is_introspection : IntrospectionTree → Bool
is_introspection (look name type_name deprecated fs) =
    (bytes_eq name (codes "__schema") && is_none type_name && accepts_object schema_type fs)
    || (bytes_eq name (codes "__type") && is_some type_name && accepts_object type_type fs)

-- a root field of a request
abbrev pub RootLooks : FieldTree → Type 0
RootLooks (column c) = Unit {0}
RootLooks (typename name) = Unit {0}
RootLooks no_queries = Unit {0}
RootLooks (object r fs) = Unit {0}
RootLooks (list o a fs) = Unit {0}
RootLooks (by_key u key fs) = Unit {0}
RootLooks (aggregate o a ps) = Unit {0}
RootLooks (introspect f) = is_introspection f ≡ true

-- nothing is asked of fields and parts below the root
abbrev pub AnyField : (t : ℕ) → FieldTree → Type 0
AnyField t f = Unit {0}

abbrev pub AnyPart : (u : ℕ) → PartTree → Type 0
AnyPart u p = Unit {0}

-- each root field of introspection
abbrev pub AllLooks : FieldTrees → Schema → (root : ℕ) → Type 0
AllLooks fs s root = FromRoot RootLooks AnyField AnyPart fs s root
