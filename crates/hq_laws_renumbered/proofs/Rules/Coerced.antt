-- Coerced variables are the same in a schema without origins.
use Rattle.std.proofs.Common.{◌≡◌, ◌∙◌, ℕ, List, [], ◌∷◌, map, Bool, Option, Some, None, Result, option_and_then, option_map, slice_index_or, bytes_eq, refl, ap, ap₂}
use Rattle.std.specs.List.{list_any}
use Rattle.hq_base.specs.Due.{and_then, mapped}
use Rattle.hq_base.specs.Json.{JsonTree, null, bool, int, str, arr, obj, ElementTrees, no_element, element, MemberTrees, no_member, member, elements_of, names_of}
use Rattle.hq_schema.specs.declared.origin.TypeOrigin.{TypeOrigin}
use Rattle.hq_schema.specs.declared.origin.TypeOrigin.TheVariants as origin
use Rattle.hq_schema.specs.Look.{type_at, input_field_of}
use Rattle.hq_schema.specs.Schema.{TypeRefTree, base, ArgTree, TypeTree, SchemaTree}
use Rattle.hq_gql_tree.specs.Documents.{VarDefTree, DocumentTree}
use Rattle.hq_gql_nodes.specs.Fragments.{fragment_named, graph_of}
use Rattle.hq_gql_nodes.specs.Known.{element_type, input_at, resolved}
use Rattle.hq_gql_nodes.specs.Nodes.{NodeTree, value_node, PartTree, document_parts}
use Rattle.hq_gql_nodes.specs.Reach.{reached}
use Rattle.hq_request_coerce.specs.Choice.{operation_at}
use Rattle.hq_request_coerce.specs.Coercion.{enum_value, leaf_by, leaf_value, in_lists, is_lacking, default_member, object_of, inputs_in, inputs_at, coerced, coerced_elements, coerced_members}
use Rattle.hq_request_coerce.specs.Due.{given_members, given_value, checked_value, value_due, value_if_known, variable_due, with_value, values_due, variables_of, variables_due}
use Rattle.hq_request_coerce.specs.Required.{required_of, required_names, required_at, is_required_in, is_required}
use Rattle.hq_request_coerce.specs.Variables.{VarTree}
use Rattle.hq_request_coerce.specs.declared.refusal.CoerceRefusal.{CoerceRefusal}
use Rattle.hq_laws_renumbered.specs.Schemas.Blank.{blank_origin, blank_arg, blank_type, blank}
use Rattle.hq_laws_renumbered.proofs.Rules.Lists.{any_map, filter_map_map, map_twice, and_same, and_alike}
use Rattle.hq_laws_renumbered.proofs.Rules.Looks.{blank_at, blank_input_of, blank_enum}
use Rattle.hq_laws_renumbered.proofs.Rules.Known.{same_input, same_resolved}
use Rattle.hq_laws_renumbered.proofs.Rules.Nodes.{blank_node, blank_part, blank_parts}
use Rattle.hq_laws_renumbered.proofs.Rules.Rules.{same_graph}

-- ---- values

same_enum : (s : SchemaTree) (t : ℕ) (j : JsonTree) → enum_value (blank s) t j ≡ enum_value s t j
same_enum s t (str name) = ap (option_map (λ place. str name)) (blank_enum s t name)
same_enum s t _ = refl

same_leaf_by : (s : SchemaTree) (t : ℕ) (o : TypeOrigin) (j : JsonTree) → leaf_by (blank s) t (blank_origin o) j ≡ leaf_by s t o j
same_leaf_by s t (origin.Scalar ty) j = refl
same_leaf_by s t _ j = same_enum s t j

same_leaf : (s : SchemaTree) (t : ℕ) (j : JsonTree) → leaf_value (blank s) t j ≡ leaf_value s t j
same_leaf s t j =
    ap (option_and_then (λ (d : TypeTree). leaf_by (blank s) t d.origin j)) (blank_at s t)
    ∙ and_same blank_type (λ d. leaf_by (blank s) t d.origin j) (λ d. leaf_by s t d.origin j) (λ d. same_leaf_by s t d.origin j) (type_at s t)

blank_inputs : (o : Option TypeTree) → inputs_in (option_map blank_type o) ≡ map blank_arg (inputs_in o)
blank_inputs None = refl
blank_inputs (Some d) = refl

same_object : (given : List (List ℕ)) (inputs : List ArgTree) (members : List (List ℕ × JsonTree)) → object_of given (map blank_arg inputs) members ≡ object_of given inputs members
same_object given inputs members =
    rw (any_map (is_lacking given) (is_lacking given) blank_arg (λ a. refl) inputs, filter_map_map (default_member given) (default_member given) blank_arg (λ a. refl) inputs) refl

same_object_at : (s : SchemaTree) (t : ℕ) (given : List (List ℕ)) (members : List (List ℕ × JsonTree)) → object_of given (inputs_at (blank s) t) members ≡ object_of given (inputs_at s t) members
same_object_at s t given members = ap (λ inputs. object_of given inputs members) (ap inputs_in (blank_at s t) ∙ blank_inputs (type_at s t)) ∙ same_object given (inputs_at s t) members

mutual
  same_coerced : (s : SchemaTree) (j : JsonTree) (r : TypeRefTree) → coerced (blank s) j r ≡ coerced s j r
  same_coerced s null r = refl
  same_coerced s (bool b) r = ap (option_map (in_lists r)) (same_leaf s (base r) (bool b))
  same_coerced s (int n) r = ap (option_map (in_lists r)) (same_leaf s (base r) (int n))
  same_coerced s (str x) r = ap (option_map (in_lists r)) (same_leaf s (base r) (str x))
  same_coerced s (arr js) r = ap (option_map (λ xs. arr (elements_of xs))) (and_alike (coerced_elements (blank s) js) (coerced_elements s js) (same_elements s js) (element_type r))
  same_coerced s (obj ms) r =
      let member_value : SchemaTree → ℕ → Option JsonTree = λ z t. option_and_then (object_of (names_of ms) (inputs_at z t)) (coerced_members z ms t) in
      let same : (t : ℕ) → member_value (blank s) t ≡ member_value s t =
      λ t. ap (option_and_then (object_of (names_of ms) (inputs_at (blank s) t))) (same_members s ms t)
      ∙ and_alike (object_of (names_of ms) (inputs_at (blank s) t)) (object_of (names_of ms) (inputs_at s t)) (same_object_at s t (names_of ms)) (coerced_members s ms t) in
      ap (option_map (in_lists r)) (ap (option_and_then (member_value (blank s))) (same_input s (base r)) ∙ and_alike (member_value (blank s)) (member_value s) same (input_at s (base r)))

  same_elements : (s : SchemaTree) (js : ElementTrees) (r : TypeRefTree) → coerced_elements (blank s) js r ≡ coerced_elements s js r
  same_elements s no_element r = refl
  same_elements s (element j js) r =
      ap₂ (λ (o : Option JsonTree) (os : Option (List JsonTree)). option_and_then (λ x. option_map (λ xs. x ∷ xs) os) o) (same_coerced s j r) (same_elements s js r)

  same_members : (s : SchemaTree) (ms : MemberTrees) (t : ℕ) → coerced_members (blank s) ms t ≡ coerced_members s ms t
  same_members s no_member t = refl
  same_members s (member name j ms) t =
      let value : option_and_then (λ a. coerced (blank s) j a.ty) (input_field_of (blank s) t name) ≡ option_and_then (λ a. coerced s j a.ty) (input_field_of s t name) =
      ap (option_and_then (λ (a : ArgTree). coerced (blank s) j a.ty)) (blank_input_of s t name)
      ∙ and_same blank_arg (λ a. coerced (blank s) j a.ty) (λ a. coerced s j a.ty) (λ a. same_coerced s j a.ty) (input_field_of s t name) in
      ap₂ (λ (o : Option JsonTree) (os : Option (List (List ℕ × JsonTree))). option_and_then (λ x. option_map (λ xs. (name, x) ∷ xs) os) o) value (same_members s ms t)

-- ---- variables that may not be null

same_required_of : (n : NodeTree) → required_of (blank_node n) ≡ required_of n
same_required_of (value_node v place) = refl
same_required_of _ = refl

any_alike : {A : Type 0} (p q : A → Bool) → ((x : A) → p x ≡ q x) → (xs : List A) → list_any p xs ≡ list_any q xs
any_alike p q same [] = refl
any_alike p q same (x ∷ xs) = rw (same x, any_alike p q same xs) refl

same_required_at : (parts : List PartTree) (place : ℕ) → required_at (map blank_part parts) place ≡ required_at parts place
same_required_at parts place =
    ap (λ l. slice_index_or l place [])
    (map_twice (λ (p : PartTree). required_names p.nodes) blank_part (λ p. required_names p.nodes)
    (λ p. filter_map_map required_of required_of blank_node same_required_of p.nodes) parts)

pub same_required : (s : SchemaTree) (d : DocumentTree) (operation : ℕ) (name : List ℕ) → is_required (blank s) d operation name ≡ is_required s d operation name
same_required s d operation name =
    let places = fragment_named d in
    let parts = document_parts s d in
    ap (λ ps. is_required_in ps (graph_of places ps) operation name) (blank_parts s d)
    ∙ ap (λ g. is_required_in (map blank_part parts) g operation name) (same_graph places parts)
    ∙ any_alike (λ place. list_any (λ n. bytes_eq n name) (required_at (map blank_part parts) place)) (λ place. list_any (λ n. bytes_eq n name) (required_at parts place))
    (λ place. ap (list_any (λ n. bytes_eq n name)) (same_required_at parts place)) (reached (graph_of places parts) (operation ∷ []))

-- ---- variables

same_due : (s : SchemaTree) (at : ℕ) (required : Bool) (r : TypeRefTree) (given : Option JsonTree) → value_due (blank s) at required r given ≡ value_due s at required r given
same_due s at required r None = refl
same_due s at required r (Some j) = ap (checked_value at required) (same_coerced s j r)

same_if_known : (s : SchemaTree) (at : ℕ) (required : Bool) (ty : Option TypeRefTree) (given : Option JsonTree) → value_if_known (blank s) at required ty given ≡ value_if_known s at required ty given
same_if_known s at required None given = refl
same_if_known s at required (Some r) given = same_due s at required r given

same_values : (s : SchemaTree) (required wanted : List ℕ → Bool) → ((name : List ℕ) → required name ≡ wanted name)
    → (given : List (List ℕ × JsonTree)) (vs : List VarDefTree) → values_due (blank s) required given vs ≡ values_due s wanted given vs
same_values s required wanted same given [] = refl
same_values s required wanted same given (v ∷ vs) =
    let one : variable_due (blank s) required given v ≡ variable_due s wanted given v =
    ap₂ (λ (b : Bool) (ty : Option TypeRefTree). value_if_known (blank s) v.at b ty (given_value given v)) (same v.name) (same_resolved s v.ty)
    ∙ same_if_known s v.at (wanted v.name) (resolved s v.ty) (given_value given v) in
    ap₂
    (λ (r : Result (Option JsonTree) CoerceRefusal) (rest : Result (List VarTree) CoerceRefusal). and_then
    (λ o. mapped (with_value v.name o) rest) r)
    one (same_values s required wanted same given vs)

-- the variables of an operation
pub same_variables : (s : SchemaTree) (d : DocumentTree) (operation : ℕ) (given : Option JsonTree) → variables_due (blank s) d operation given ≡ variables_due s d operation given
same_variables s d operation given =
    same_values s (is_required (blank s) d operation) (is_required s d operation) (same_required s d operation) (given_members given)
    (variables_of (operation_at d operation))
