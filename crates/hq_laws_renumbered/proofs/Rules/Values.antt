-- The rules of fields, arguments and values find the same in a schema without origins.
use Rattle.std.proofs.Common.{◌≡◌, ◌∙◌, ℕ, ◌&&◌, List, map, false, not, Option, Some, None, is_some, is_none, option_map, refl, ap}
use Rattle.std.specs.Option.{option_map_or}
use Rattle.hq_schema.specs.declared.origin.TypeOrigin.{TypeOrigin}
use Rattle.hq_schema.specs.declared.origin.TypeOrigin.TheVariants as origin
use Rattle.hq_schema.specs.Look.{type_at, arg_in, input_field_of}
use Rattle.hq_schema.specs.Schema.{TypeRefTree, base, ArgTree, FieldTree, TypeTree, SchemaTree}
use Rattle.hq_gql_tree.specs.Values.{ValueTree, int, float, str, bool, null, enum, list, object, variable, ArgumentTree, MemberTrees, members_in}
use Rattle.hq_gql_nodes.specs.Known.{PlaceTree, known_field, object_at, input_of, args_of_field, args_of_directive}
use Rattle.hq_gql_nodes.specs.Least.{at_if, least_of}
use Rattle.hq_gql_nodes.specs.Nodes.{NodeTree, field_node, directive_node, argument_node, value_node, member_node, PartTree}
use Rattle.hq_rules_fields.specs.Literals.{enum_takes, leaf_by, leaf_takes, takes}
use Rattle.hq_rules_fields.specs.NodeRules.{fields_on_correct_type, has_selections, is_wrong_leaf, scalar_leafs, known_argument_names, lacks, lacks_any, provided_required_arguments, is_wrong_value, values_of_correct_type, known_input_fields, object_members, inputs_in, lacks_input, lacks_at, required_input_fields, unique_argument_names, unique_input_fields, node_place, rule_place}
use Rattle.hq_rules_fields.specs.declared.rules.NodeRule.{NodeRule}
use Rattle.hq_rules_fields.specs.declared.rules.NodeRule.TheVariants as rule
use Rattle.hq_laws_renumbered.specs.Schemas.Blank.{blank_origin, blank_arg, blank_field, blank_type, blank}
use Rattle.hq_laws_renumbered.proofs.Rules.Lists.{any_map, least_map, map_or_same, map_or_alike}
use Rattle.hq_laws_renumbered.proofs.Rules.Looks.{blank_at, blank_arg_in, blank_input_of, blank_enum}
use Rattle.hq_laws_renumbered.proofs.Rules.Known.{blank_args, same_object, same_input, same_input_of, blank_known, blank_args_of, blank_args_of_directive}
use Rattle.hq_laws_renumbered.proofs.Rules.Nodes.{blank_node, blank_part}
use Rattle.hq_laws_renumbered.proofs.Rules.Rules.{same_by}

some_map : {A B : Type 0} (f : A → B) (o : Option A) → is_some (option_map f o) ≡ is_some o
some_map f None = refl
some_map f (Some x) = refl

none_map : {A B : Type 0} (f : A → B) (o : Option A) → is_none (option_map f o) ≡ is_none o
none_map f None = refl
none_map f (Some x) = refl

-- ---- which literal stands for a value

same_enum : (s : SchemaTree) (t : ℕ) (v : ValueTree) → enum_takes (blank s) t v ≡ enum_takes s t v
same_enum s t (enum name) = ap is_some (blank_enum s t name)
same_enum s t _ = refl

same_leaf : (s : SchemaTree) (t : ℕ) (o : TypeOrigin) (v : ValueTree) → leaf_by (blank s) t (blank_origin o) v ≡ leaf_by s t o v
same_leaf s t (origin.Scalar ty) v = refl
same_leaf s t _ v = same_enum s t v

same_leaf_takes : (s : SchemaTree) (t : ℕ) (v : ValueTree) → leaf_takes (blank s) t v ≡ leaf_takes s t v
same_leaf_takes s t v =
    ap (λ (o : Option TypeTree). option_map_or (λ (d : TypeTree). leaf_by (blank s) t d.origin v) o false) (blank_at s t)
    ∙ map_or_same blank_type (λ d. leaf_by (blank s) t d.origin v) (λ d. leaf_by s t d.origin v) false (λ d. same_leaf s t d.origin v) (type_at s t)

same_takes : (s : SchemaTree) (r : TypeRefTree) (v : ValueTree) → takes (blank s) r v ≡ takes s r v
same_takes s r (int text) = same_leaf_takes s (base r) (int text)
same_takes s r (float text) = refl
same_takes s r (str text) = same_leaf_takes s (base r) (str text)
same_takes s r (bool b) = same_leaf_takes s (base r) (bool b)
same_takes s r null = refl
same_takes s r (enum name) = same_leaf_takes s (base r) (enum name)
same_takes s r (list vs) = refl
same_takes s r (object ms) = ap is_some (same_input s (base r))
same_takes s r (variable name) = refl

-- ---- rules at one node

same_correct : (s : SchemaTree) (n : NodeTree) → fields_on_correct_type (blank s) (blank_node n) ≡ fields_on_correct_type s n
same_correct s (field_node h below parent) = ap (λ b. at_if (is_some parent && b) h.at) (ap is_none (blank_known s parent h.name) ∙ none_map blank_field (known_field s parent h.name))
same_correct s _ = refl

same_leafs : (s : SchemaTree) (n : NodeTree) → scalar_leafs (blank s) (blank_node n) ≡ scalar_leafs s n
same_leafs s (field_node h below parent) =
    ap (λ b. at_if b h.at)
    (ap (λ (o : Option FieldTree). option_map_or (λ (f : FieldTree). is_wrong_leaf (is_some (object_at (blank s) (base f.ty))) (has_selections below)) o false) (blank_known s parent h.name)
    ∙ map_or_same blank_field (λ f. is_wrong_leaf (is_some (object_at (blank s) (base f.ty))) (has_selections below))
    (λ f. is_wrong_leaf (is_some (object_at s (base f.ty))) (has_selections below)) false
    (λ f. ap (λ o. is_wrong_leaf (is_some o) (has_selections below)) (same_object s (base f.ty))) (known_field s parent h.name))
same_leafs s _ = refl

same_argument_names : (n : NodeTree) → known_argument_names (blank_node n) ≡ known_argument_names n
same_argument_names (argument_node a args) =
    ap (λ b. at_if b a.at)
    (map_or_same (map blank_arg) (λ defs. is_none (arg_in defs a.name)) (λ defs. is_none (arg_in defs a.name)) false
    (λ defs. ap is_none (blank_arg_in defs a.name) ∙ none_map blank_arg (arg_in defs a.name)) args)
same_argument_names _ = refl

same_lacks : (given : List ArgumentTree) (defs : List ArgTree) → lacks_any given (map blank_arg defs) ≡ lacks_any given defs
same_lacks given defs = any_map (lacks given) (lacks given) blank_arg (λ a. refl) defs

same_lacks_or : (given : List ArgumentTree) (args : Option (List ArgTree)) → option_map_or (lacks_any given) (blank_args args) false ≡ option_map_or (lacks_any given) args false
same_lacks_or given args = map_or_same (map blank_arg) (lacks_any given) (lacks_any given) false (same_lacks given) args

same_provided : (s : SchemaTree) (n : NodeTree) → provided_required_arguments (blank s) (blank_node n) ≡ provided_required_arguments s n
same_provided s (field_node h below parent) =
    ap (λ b. at_if b h.at) (ap (λ o. option_map_or (lacks_any h.args) o false) (blank_args_of s parent h.name) ∙ same_lacks_or h.args (args_of_field s parent h.name))
same_provided s (directive_node d l) =
    ap (λ b. at_if b d.at) (ap (λ o. option_map_or (lacks_any d.args) o false) (blank_args_of_directive s d.name) ∙ same_lacks_or d.args (args_of_directive s d.name))
same_provided s _ = refl

same_wrong_value : (s : SchemaTree) (place : Option PlaceTree) (v : ValueTree) → is_wrong_value (blank s) place v ≡ is_wrong_value s place v
same_wrong_value s None v = refl
same_wrong_value s (Some p) v = ap not (same_takes s p.ty v)

same_values : (s : SchemaTree) (n : NodeTree) → values_of_correct_type (blank s) (blank_node n) ≡ values_of_correct_type s n
same_values s (value_node v place) = ap (λ b. at_if b v.at) (same_wrong_value s place v.value)
same_values s _ = refl

same_input_fields : (s : SchemaTree) (n : NodeTree) → known_input_fields (blank s) (blank_node n) ≡ known_input_fields s n
same_input_fields s (member_node m input) =
    ap (λ b. at_if b m.at)
    (map_or_alike (λ t. is_none (input_field_of (blank s) t m.name)) (λ t. is_none (input_field_of s t m.name)) false
    (λ t. ap is_none (blank_input_of s t m.name) ∙ none_map blank_arg (input_field_of s t m.name)) input)
same_input_fields s _ = refl

blank_inputs : (o : Option TypeTree) → inputs_in (option_map blank_type o) ≡ map blank_arg (inputs_in o)
blank_inputs None = refl
blank_inputs (Some d) = refl

same_lacks_input : (s : SchemaTree) (ms : List ArgumentTree) (t : ℕ) → lacks_input (blank s) ms t ≡ lacks_input s ms t
same_lacks_input s ms t = ap (lacks_any ms) (ap inputs_in (blank_at s t) ∙ blank_inputs (type_at s t)) ∙ same_lacks ms (inputs_in (type_at s t))

same_lacks_at : (s : SchemaTree) (place : Option PlaceTree) (ms : MemberTrees) → lacks_at (blank s) place ms ≡ lacks_at s place ms
same_lacks_at s place ms =
    ap (λ o. option_map_or (lacks_input (blank s) (members_in ms)) o false) (same_input_of s place)
    ∙ map_or_alike (lacks_input (blank s) (members_in ms)) (lacks_input s (members_in ms)) false (same_lacks_input s (members_in ms)) (input_of s place)

same_required : (s : SchemaTree) (n : NodeTree) → required_input_fields (blank s) (blank_node n) ≡ required_input_fields s n
same_required s (value_node v place) = ap (λ b. at_if b v.at) (map_or_alike (lacks_at (blank s) place) (lacks_at s place) false (same_lacks_at s place) (object_members v.value))
same_required s _ = refl

same_node : (r : NodeRule) (s : SchemaTree) (n : NodeTree) → node_place r (blank s) (blank_node n) ≡ node_place r s n
same_node rule.FieldsOnCorrectType s n = same_correct s n
same_node rule.ScalarLeafs s n = same_leafs s n
same_node rule.KnownArgumentNames s n = same_argument_names n
same_node rule.UniqueArgumentNames s n = same_by unique_argument_names (λ a args. refl) n
same_node rule.ProvidedRequiredArguments s n = same_provided s n
same_node rule.ValuesOfCorrectType s n = same_values s n
same_node rule.KnownInputFields s n = same_input_fields s n
same_node rule.UniqueInputFields s n = same_by unique_input_fields (λ a args. refl) n
same_node rule.RequiredInputFields s n = same_required s n

-- a rule over a document
pub same_rule : (r : NodeRule) (s : SchemaTree) (parts : List PartTree) → rule_place r (blank s) (map blank_part parts) ≡ rule_place r s parts
same_rule r s parts =
    least_map (λ (p : PartTree). least_of (node_place r (blank s)) p.nodes) (λ p. least_of (node_place r s) p.nodes) blank_part
    (λ p. least_map (node_place r (blank s)) (node_place r s) blank_node (same_node r s) p.nodes) parts
