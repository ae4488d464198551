-- What is known where is the same in a schema without origins.
use Rattle.std.proofs.Common.{◌≡◌, ◌∙◌, ℕ, ◌==◌, List, map, false, cond, not, Option, Some, None, option_map, option_and_then, bytes_eq, refl, sym, ap}
use Rattle.std.specs.Option.{option_or, option_map_or}
use Rattle.hq_schema.specs.Look.{type_named, type_at, arg_in, field_in, field_of, input_field_of}
use Rattle.hq_schema.specs.Schema.{TypeRefTree, named, list_of, non_null, base, ArgTree, FieldTree, TypeTree as TypeDef, SchemaTree}
use Rattle.hq_gql_tree.specs.declared.document.OpKind.{OpKind}
use Rattle.hq_gql_tree.specs.declared.document.OpKind.TheVariants as op
use Rattle.hq_gql_tree.specs.declared.selection.TypeCond.{TypeCond}
use Rattle.hq_gql_tree.specs.Types.{TypeTree}
use Rattle.hq_gql_tree.specs.Types as written
use Rattle.hq_gql_nodes.specs.Known.{PlaceTree, place_of_arg, is_object, is_input, object_at, input_at, input_of, member_place, arg_place, meta_field, known_field, args_of_field, below_field, is_condition, args_of_directive, object_named, root_of, resolved, is_input_type, default_place}
use Rattle.hq_gql_nodes.specs.Nodes.{below_inline}
use Rattle.hq_laws_renumbered.specs.Schemas.Blank.{blank_arg, blank_field, blank_type, blank}
use Rattle.hq_laws_renumbered.proofs.Rules.Lists.{and_map, and_same, and_alike, and_over, maps_alike, map_or_same, or_map, cond_map}
use Rattle.hq_laws_renumbered.proofs.Rules.Looks.{blank_named, blank_at, blank_arg_in, blank_field_in, blank_field_of, blank_input_of}

pub same_object : (s : SchemaTree) (t : ℕ) → object_at (blank s) t ≡ object_at s t
same_object s t =
    ap (option_and_then (λ (d : TypeDef). cond (is_object d.kind) (Some t) None)) (blank_at s t)
    ∙ and_same blank_type (λ d. cond (is_object d.kind) (Some t) None) (λ d. cond (is_object d.kind) (Some t) None) (λ d. refl) (type_at s t)

pub same_input : (s : SchemaTree) (t : ℕ) → input_at (blank s) t ≡ input_at s t
same_input s t =
    ap (option_and_then (λ (d : TypeDef). cond (is_input d.kind) (Some t) None)) (blank_at s t)
    ∙ and_same blank_type (λ d. cond (is_input d.kind) (Some t) None) (λ d. cond (is_input d.kind) (Some t) None) (λ d. refl) (type_at s t)

pub same_input_of : (s : SchemaTree) (place : Option PlaceTree) → input_of (blank s) place ≡ input_of s place
same_input_of s place = and_alike (λ (p : PlaceTree). input_at (blank s) (base p.ty)) (λ p. input_at s (base p.ty)) (λ p. same_input s (base p.ty)) place

pub same_member : (s : SchemaTree) (input : Option ℕ) (name : List ℕ) → member_place (blank s) input name ≡ member_place s input name
same_member s input name =
    ap (option_map place_of_arg) (and_over blank_arg (λ t. input_field_of (blank s) t name) (λ t. input_field_of s t name) (λ t. blank_input_of s t name) input)
    ∙ maps_alike blank_arg place_of_arg place_of_arg (λ a. refl) (option_and_then (λ t. input_field_of s t name) input)

-- arguments without their origins
abbrev pub blank_args : Option (List ArgTree) → Option (List ArgTree)
blank_args args = option_map (map blank_arg) args

pub same_arg : (args : Option (List ArgTree)) (name : List ℕ) → arg_place (blank_args args) name ≡ arg_place args name
same_arg args name =
    ap (option_map place_of_arg) (and_map (map blank_arg) blank_arg (λ defs. arg_in defs name) (λ defs. arg_in defs name) (λ defs. blank_arg_in defs name) args)
    ∙ maps_alike blank_arg place_of_arg place_of_arg (λ a. refl) (option_and_then (λ defs. arg_in defs name) args)

blank_meta : (s : SchemaTree) (t : ℕ) (name : List ℕ) → meta_field (blank s) t name ≡ option_map blank_field (meta_field s t name)
blank_meta s t name =
    let inner : cond (t == s.query) (field_in (map blank_field s.introspection) name) None ≡ option_map blank_field (cond (t == s.query) (field_in s.introspection name) None) =
    ap (λ o. cond (t == s.query) o None) (blank_field_in s.introspection name) ∙ cond_map blank_field (t == s.query) (field_in s.introspection name) None in
    ap (λ o. cond (bytes_eq s.type_name.name name) (Some (blank_field s.type_name)) o) inner
    ∙ cond_map blank_field (bytes_eq s.type_name.name name) (Some s.type_name) (cond (t == s.query) (field_in s.introspection name) None)

pub blank_known : (s : SchemaTree) (parent : Option ℕ) (name : List ℕ) → known_field (blank s) parent name ≡ option_map blank_field (known_field s parent name)
blank_known s parent name =
    and_over blank_field (λ t. option_or (field_of (blank s) t name) (meta_field (blank s) t name)) (λ t. option_or (field_of s t name) (meta_field s t name))
    (λ t. rw (blank_field_of s t name, blank_meta s t name) (or_map blank_field (field_of s t name) (meta_field s t name))) parent

pub blank_args_of : (s : SchemaTree) (parent : Option ℕ) (name : List ℕ) → args_of_field (blank s) parent name ≡ blank_args (args_of_field s parent name)
blank_args_of s parent name =
    ap (option_map (λ (f : FieldTree). f.args)) (blank_known s parent name)
    ∙ maps_alike blank_field (λ f. f.args) (λ f. map blank_arg f.args) (λ f. refl) (known_field s parent name)
    ∙ sym (maps_alike (λ (f : FieldTree). f.args) (map blank_arg) (λ f. map blank_arg f.args) (λ f. refl) (known_field s parent name))

pub same_below : (s : SchemaTree) (parent : Option ℕ) (name : List ℕ) → below_field (blank s) parent name ≡ below_field s parent name
same_below s parent name =
    ap (option_and_then (λ (f : FieldTree). object_at (blank s) (base f.ty))) (blank_known s parent name)
    ∙ and_same blank_field (λ f. object_at (blank s) (base f.ty)) (λ f. object_at s (base f.ty)) (λ f. same_object s (base f.ty)) (known_field s parent name)

pub blank_args_of_directive : (s : SchemaTree) (name : List ℕ) → args_of_directive (blank s) name ≡ blank_args (args_of_directive s name)
blank_args_of_directive s name = cond_map (map blank_arg) (is_condition name) (Some s.conditions) None

pub same_object_named : (s : SchemaTree) (name : List ℕ) → object_named (blank s) name ≡ object_named s name
same_object_named s name =
    ap (option_and_then (λ t. object_at (blank s) t)) (blank_named s name)
    ∙ and_alike (λ t. object_at (blank s) t) (λ t. object_at s t) (λ t. same_object s t) (type_named s name)

pub same_inline : (s : SchemaTree) (parent : Option ℕ) (c : Option TypeCond) → below_inline (blank s) parent c ≡ below_inline s parent c
same_inline s parent None = refl
same_inline s parent (Some c) = same_object_named s c.name

pub same_root : (s : SchemaTree) (kind : OpKind) → root_of (blank s) kind ≡ root_of s kind
same_root s op.Query = same_object s s.query
same_root s op.Mutation = refl
same_root s op.Subscription = refl

pub same_resolved : (s : SchemaTree) (ty : TypeTree) → resolved (blank s) ty ≡ resolved s ty
same_resolved s (written.named at name) = ap (option_map named) (blank_named s name)
same_resolved s (written.list at of) = ap (option_map list_of) (same_resolved s of)
same_resolved s (written.non_null at of) = ap (option_map non_null) (same_resolved s of)

pub same_input_type : (s : SchemaTree) (r : TypeRefTree) → is_input_type (blank s) r ≡ is_input_type s r
same_input_type s r =
    ap (λ (o : Option TypeDef). option_map_or (λ (d : TypeDef). not (is_object d.kind)) o false) (blank_at s (base r))
    ∙ map_or_same blank_type (λ d. not (is_object d.kind)) (λ d. not (is_object d.kind)) false (λ d. refl) (type_at s (base r))

-- the place of a default of a type
abbrev placed : TypeRefTree → PlaceTree
placed r = record { ty = r; default_false = false }

pub same_default : (s : SchemaTree) (ty : Option TypeRefTree) → default_place (blank s) ty ≡ default_place s ty
same_default s ty =
    and_alike (λ r. cond (is_input_type (blank s) r) (Some (placed r)) None) (λ r. cond (is_input_type s r) (Some (placed r)) None)
    (λ r. ap (λ b. cond b (Some (placed r)) None) (same_input_type s r)) ty
