-- What introspection answers is the same in a schema without origins.
use Rattle.std.proofs.Common.{◌≡◌, ◌∙◌, ℕ, List, map, Bool, true, false, Option, Some, None, option_and_then, option_map, refl, sym, ap, ap₂}
use Rattle.std.specs.Cmp.Lexicographic.{slice_cmp}
use Rattle.std.specs.Option.{option_map_or}
use Rattle.std.specs.Ordering.{nat_cmp, on}
use Rattle.hq_base.specs.Json.{JsonTree, arr, obj, elements_of, MemberTrees, member}
use Rattle.hq_base.proofs.Sorts.{sort_map}
use Rattle.hq_request_tree.specs.Introspection.{IntrospectionTree, look, IntrospectionTrees, no_look, looks}
use Rattle.hq_schema.specs.Look.{type_at, type_named}
use Rattle.hq_schema.specs.Schema.{ArgTree, FieldTree, TypeTree, SchemaTree, TypeRefTree, named, list_of, non_null}
use Rattle.hq_schema.specs.declared.schema.Kind.{Kind}
use Rattle.hq_schema.specs.declared.schema.Kind.TheVariants as kinds
use Rattle.hq_request_introspect.specs.Answers.{type_by_name, root_value, answered}
use Rattle.hq_request_introspect.specs.FieldNames.{field_named}
use Rattle.hq_request_introspect.specs.Members.{field_value, input_value, enum_value, directive_value, default_value}
use Rattle.hq_request_introspect.specs.Nodes.{NodeTree, schema_node, type_node, list_node, non_null_node, field_node, input_node, value_node, directive_node, ResolvedTree, leaf, one, many, nothing, type_or_null}
use Rattle.hq_request_introspect.specs.Selections.{node_value, resolved, completed, members, value, object_of, json_of}
use Rattle.hq_request_introspect.specs.Types.{types_by_name, referred, schema_value, object_fields, object_interfaces, enum_values, input_fields, type_value, wrapper_value}
use Rattle.hq_request_introspect.specs.declared.directive.Directive.{Directive}
use Rattle.hq_request_introspect.specs.declared.field_name.FieldName.{FieldName}
use Rattle.hq_request_introspect.specs.declared.field_name.FieldName.TheVariants as name
use Rattle.hq_request_introspect.specs.declared.type_kind.TypeKind.{TypeKind}
use Rattle.hq_request_introspect.specs.declared.type_kind.TypeKind.TheVariants as wrapper
use Rattle.hq_laws_renumbered.specs.Schemas.Blank.{blank_arg, blank_field, blank_type, blank}
use Rattle.hq_laws_renumbered.proofs.Rules.Lists.{map_twice, and_alike, and_over}
use Rattle.hq_laws_renumbered.proofs.Rules.Looks.{blank_at, blank_named}

-- an object of introspection, and what a field gives, without origins
abbrev blank_node : NodeTree → NodeTree
blank_node (schema_node types) = schema_node (map blank_type types)
blank_node (type_node t) = type_node (blank_type t)
blank_node (list_node r) = list_node r
blank_node (non_null_node r) = non_null_node r
blank_node (field_node f) = field_node (blank_field f)
blank_node (input_node a) = input_node (blank_arg a)
blank_node (value_node v) = value_node v
blank_node (directive_node d) = directive_node d

abbrev blank_resolved : ResolvedTree → ResolvedTree
blank_resolved (leaf j) = leaf j
blank_resolved (one n) = one (blank_node n)
blank_resolved (many ns) = many (map blank_node ns)

-- lists of objects
blank_many : {A : Type 0} (f : A → A) (node : A → NodeTree) → ((x : A) → blank_node (node x) ≡ node (f x)) → (xs : List A) → many (map node (map f xs)) ≡ blank_resolved (many (map node xs))
blank_many f node same xs =
    ap many (map_twice node f (λ x. node (f x)) (λ x. refl) xs ∙ sym (map_twice blank_node node (λ x. node (f x)) same xs))

blank_or_null : (o : Option TypeTree) → type_or_null (option_map blank_type o) ≡ blank_resolved (type_or_null o)
blank_or_null None = refl
blank_or_null (Some t) = refl

blank_type_at : (s : SchemaTree) (t : ℕ) → type_or_null (type_at (blank s) t) ≡ blank_resolved (type_or_null (type_at s t))
blank_type_at s t = ap type_or_null (blank_at s t) ∙ blank_or_null (type_at s t)

blank_referred : (s : SchemaTree) (r : TypeRefTree) → referred (blank s) r ≡ blank_resolved (referred s r)
blank_referred s (named t) = blank_type_at s t
blank_referred s (list_of r) = refl
blank_referred s (non_null r) = refl

-- ---- fields

blank_schema : (s : SchemaTree) (types : List TypeTree) (f : FieldName) → schema_value (blank s) (map blank_type types) f ≡ blank_resolved (schema_value s types f)
blank_schema s types name.Types = blank_many blank_type type_node (λ t. refl) types
blank_schema s types name.QueryType = blank_type_at s s.query
blank_schema s types _ = refl

blank_fields : (k : Kind) (fs : List FieldTree) → object_fields k (map blank_field fs) ≡ blank_resolved (object_fields k fs)
blank_fields kinds.Object fs = blank_many blank_field field_node (λ f. refl) fs
blank_fields _ fs = refl

blank_interfaces : (k : Kind) → object_interfaces k ≡ blank_resolved (object_interfaces k)
blank_interfaces kinds.Object = refl
blank_interfaces _ = refl

same_nodes : (names : List (List ℕ)) → map value_node names ≡ map blank_node (map value_node names)
same_nodes names = sym (map_twice blank_node value_node value_node (λ n. refl) names)

blank_enums : (k : Kind) (names : List (List ℕ)) → enum_values k names ≡ blank_resolved (enum_values k names)
blank_enums kinds.Enum names = ap many (same_nodes names)
blank_enums _ names = refl

blank_inputs : (k : Kind) (inputs : List ArgTree) → input_fields k (map blank_arg inputs) ≡ blank_resolved (input_fields k inputs)
blank_inputs kinds.Input inputs = blank_many blank_arg input_node (λ a. refl) inputs
blank_inputs _ inputs = refl

blank_type_value : (t : TypeTree) (f : FieldName) → type_value (blank_type t) f ≡ blank_resolved (type_value t f)
blank_type_value t name.Fields = blank_fields t.kind t.fields
blank_type_value t name.Interfaces = blank_interfaces t.kind
blank_type_value t name.EnumValues = blank_enums t.kind t.values
blank_type_value t name.InputFields = blank_inputs t.kind t.inputs
blank_type_value t _ = refl

blank_wrapper : (s : SchemaTree) (k : TypeKind) (r : TypeRefTree) (f : FieldName) → wrapper_value (blank s) k r f ≡ blank_resolved (wrapper_value s k r f)
blank_wrapper s k r name.OfType = blank_referred s r
blank_wrapper s k r _ = refl

blank_field_value : (s : SchemaTree) (d : FieldTree) (f : FieldName) → field_value (blank s) (blank_field d) f ≡ blank_resolved (field_value s d f)
blank_field_value s d name.Args = blank_many blank_arg input_node (λ a. refl) d.args
blank_field_value s d name.«Type» = blank_referred s d.ty
blank_field_value s d _ = refl

blank_default : (b : Bool) → default_value b ≡ blank_resolved (default_value b)
blank_default true = refl
blank_default false = refl

blank_input_value : (s : SchemaTree) (a : ArgTree) (f : FieldName) → input_value (blank s) (blank_arg a) f ≡ blank_resolved (input_value s a f)
blank_input_value s a name.«Type» = blank_referred s a.ty
blank_input_value s a name.DefaultValue = blank_default a.default_false
blank_input_value s a _ = refl

blank_enum_value : (v : List ℕ) (f : FieldName) → enum_value v f ≡ blank_resolved (enum_value v f)
blank_enum_value v name.Typename = refl
blank_enum_value v name.Name = refl
blank_enum_value v name.IsDeprecated = refl
blank_enum_value v _ = refl

blank_directive_value : (s : SchemaTree) (d : Directive) (f : FieldName) → directive_value (blank s) d f ≡ blank_resolved (directive_value s d f)
blank_directive_value s d name.Args = blank_many blank_arg input_node (λ a. refl) s.conditions
blank_directive_value s d _ = refl

-- what a field of an object gives
blank_node_value : (s : SchemaTree) (n : NodeTree) (f : FieldName) → node_value (blank s) (blank_node n) f ≡ blank_resolved (node_value s n f)
blank_node_value s (schema_node types) f = blank_schema s types f
blank_node_value s (type_node t) f = blank_type_value t f
blank_node_value s (list_node r) f = blank_wrapper s wrapper.«List» r f
blank_node_value s (non_null_node r) f = blank_wrapper s wrapper.NonNull r f
blank_node_value s (field_node d) f = blank_field_value s d f
blank_node_value s (input_node a) f = blank_input_value s a f
blank_node_value s (value_node v) f = blank_enum_value v f
blank_node_value s (directive_node d) f = blank_directive_value s d f

-- a field by its name
by_name : (f g : FieldName → ResolvedTree) → ((n : FieldName) → f n ≡ blank_resolved (g n)) → (o : Option FieldName) → option_map_or f o nothing ≡ blank_resolved (option_map_or g o nothing)
by_name f g same None = refl
by_name f g same (Some n) = same n

blank_resolve : (s : SchemaTree) (n : NodeTree) (text : List ℕ) → resolved (blank s) (blank_node n) text ≡ blank_resolved (resolved s n text)
unfolding resolved
blank_resolve s n text = by_name (node_value (blank s) (blank_node n)) (node_value s n) (blank_node_value s n) (field_named text)

-- ---- JSON

same_completed : (f g : NodeTree → JsonTree) → ((n : NodeTree) → f (blank_node n) ≡ g n) → (r : ResolvedTree) → completed f (blank_resolved r) ≡ completed g r
same_completed f g same (leaf j) = refl
same_completed f g same (one n) = same n
same_completed f g same (many ns) = ap (λ l. arr (elements_of l)) (map_twice f blank_node g same ns)

mutual
  same_members : (fs : IntrospectionTrees) (s : SchemaTree) (n : NodeTree) → members fs (blank s) (blank_node n) ≡ members fs s n
  same_members no_look s n = refl
  same_members (looks key f fs) s n = ap₂ (λ (j : JsonTree) (ms : MemberTrees). member key j ms) (same_value f s n) (same_members fs s n)

  same_value : (f : IntrospectionTree) (s : SchemaTree) (n : NodeTree) → value f (blank s) (blank_node n) ≡ value f s n
  same_value (look text type_name deprecated fs) s n =
      ap (completed (λ below. obj (members fs (blank s) below))) (blank_resolve s n text)
      ∙ same_completed (λ below. obj (members fs (blank s) below)) (λ below. obj (members fs s below)) (λ below. ap obj (same_members fs s below)) (resolved s n text)

same_json : (fs : IntrospectionTrees) (s : SchemaTree) (r : ResolvedTree) → json_of fs (blank s) (blank_resolved r) ≡ json_of fs s r
same_json fs s r = same_completed (object_of fs (blank s)) (object_of fs s) (λ n. ap obj (same_members fs s n)) r

-- ---- root fields

blank_by_name : (s : SchemaTree) → types_by_name (blank s) ≡ map blank_type (types_by_name s)
unfolding types_by_name
blank_by_name s = sort_map blank_type (on (λ (t : TypeTree). t.name) (slice_cmp nat_cmp)) s.types

blank_type_named : (s : SchemaTree) (given : Option (List ℕ)) → type_by_name (blank s) given ≡ option_map blank_type (type_by_name s given)
blank_type_named s given =
    ap (option_and_then (type_at (blank s))) (and_alike (type_named (blank s)) (type_named s) (blank_named s) given)
    ∙ and_over blank_type (type_at (blank s)) (type_at s) (blank_at s) (option_and_then (type_named s) given)

blank_root : (s : SchemaTree) (given : Option (List ℕ)) (f : FieldName) → root_value (blank s) given f ≡ blank_resolved (root_value s given f)
blank_root s given name.WholeSchema = ap (λ types. one (schema_node types)) (blank_by_name s)
blank_root s given name.TypeByName = ap type_or_null (blank_type_named s given) ∙ blank_or_null (type_by_name s given)
blank_root s given _ = refl

-- the answer of a root field
pub same_answer : (s : SchemaTree) (field : IntrospectionTree) → answered (blank s) field ≡ answered s field
unfolding answered
same_answer s (look text given deprecated fs) =
    ap (json_of fs (blank s)) (by_name (root_value (blank s) given) (root_value s given) (blank_root s given) (field_named text))
    ∙ same_json fs s (option_map_or (root_value s given) (field_named text) nothing)
