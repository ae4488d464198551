-- Rules that look at one field, argument or value at a time (GraphQL October 2021, section 5): the place at which a node violates a
-- rule, if it does.
use Rattle.std.specs.Prelude.{ℕ, List, [], map, Bool, true, false, not, ◌&&◌, cond, Option, Some, None, is_some, is_none, option_and_then, bytes_eq, find}
use Rattle.std.specs.List.{list_any}
use Rattle.std.specs.Option.{option_map_or}
use Rattle.hq_schema.specs.Schema.{base, ArgTree, TypeTree, SchemaTree}
use Rattle.hq_schema.specs.Look.{type_at, arg_in, input_field_of}
use Rattle.hq_gql_tree.specs.Values.{ValueTree, float, object, ArgumentTree, MemberTrees, members_in}
use Rattle.hq_gql_tree.specs.Selections.{SelectionTrees, no_selection, selection}
use Rattle.hq_gql_nodes.specs.Known.{PlaceTree, known_field, object_at, input_of, args_of_field, args_of_directive, is_non_null, is_null}
use Rattle.hq_gql_nodes.specs.Least.{at_if, least_of}
use Rattle.hq_gql_nodes.specs.Names.{NameTree, least_repeat}
use Rattle.hq_gql_nodes.specs.Nodes.{NodeTree, field_node, directive_node, argument_node, value_node, member_node, PartTree}
use Rattle.hq_rules_fields.specs.declared.rules.NodeRule.{NodeRule}
use Rattle.hq_rules_fields.specs.declared.rules.NodeRule.TheVariants as rule
use Rattle.hq_rules_fields.specs.Literals.{takes}

-- 5.3.1: a field that its parent type lacks
abbrev pub fields_on_correct_type : SchemaTree → NodeTree → Option ℕ
fields_on_correct_type s (field_node h below parent) = at_if (is_some parent && is_none (known_field s parent h.name)) h.at
fields_on_correct_type s n = None

-- 5.3.3: a leaf with a selection set, or an object without one
abbrev pub has_selections : SelectionTrees → Bool
has_selections no_selection = false
has_selections (selection x more) = true

abbrev pub is_wrong_leaf : (is_object : Bool) → (has_selections : Bool) → Bool
is_wrong_leaf is_object has_selections = cond is_object (not has_selections) has_selections

abbrev pub scalar_leafs : SchemaTree → NodeTree → Option ℕ
scalar_leafs s (field_node h below parent) =
    at_if (option_map_or (λ f. is_wrong_leaf (is_some (object_at s (base f.ty))) (has_selections below)) (known_field s parent h.name) false) h.at
scalar_leafs s n = None

-- 5.4.1: an argument that the field or the directive lacks
abbrev pub known_argument_names : NodeTree → Option ℕ
known_argument_names (argument_node a args) = at_if (option_map_or (λ defs. is_none (arg_in defs a.name)) args false) a.at
known_argument_names n = None

-- 5.4.2: an argument whose name an earlier one there has
abbrev pub argument_name : ArgumentTree → NameTree
argument_name a = record { name = a.name; at = a.at }

abbrev pub unique_argument_names : NodeTree → Option ℕ
unique_argument_names (field_node h below parent) = least_repeat (map argument_name h.args)
unique_argument_names (directive_node d l) = least_repeat (map argument_name d.args)
unique_argument_names n = None

-- an argument or an input field is required where its type is without null and it has no default
abbrev pub is_required : ArgTree → Bool
is_required a = is_non_null a.ty && not a.default_false

-- .. and lacks where none of its name is given, or a literal null
abbrev pub is_given : List ArgumentTree → (name : List ℕ) → Bool
is_given given name = option_map_or (λ a. not (is_null a.value.value)) (find (λ a. bytes_eq a.name name) given) false

abbrev pub lacks : List ArgumentTree → ArgTree → Bool
lacks given a = is_required a && not (is_given given a.name)

abbrev pub lacks_any : List ArgumentTree → List ArgTree → Bool
lacks_any given defs = list_any (lacks given) defs

-- 5.4.2.1: a field or a directive without a required argument
abbrev pub provided_required_arguments : SchemaTree → NodeTree → Option ℕ
provided_required_arguments s (field_node h below parent) = at_if (option_map_or (lacks_any h.args) (args_of_field s parent h.name) false) h.at
provided_required_arguments s (directive_node d l) = at_if (option_map_or (lacks_any d.args) (args_of_directive s d.name) false) d.at
provided_required_arguments s n = None

-- 5.6.1: a value that its place does not take, where that is known; a number with a fraction or an exponent anywhere
abbrev pub is_float : ValueTree → Bool
is_float (float text) = true
is_float v = false

abbrev pub is_wrong_value : SchemaTree → Option PlaceTree → ValueTree → Bool
is_wrong_value s None v = is_float v
is_wrong_value s (Some p) v = not (takes s p.ty v)

abbrev pub values_of_correct_type : SchemaTree → NodeTree → Option ℕ
values_of_correct_type s (value_node v place) = at_if (is_wrong_value s place v.value) v.at
values_of_correct_type s n = None

-- 5.6.2: a member that its input object lacks
abbrev pub known_input_fields : SchemaTree → NodeTree → Option ℕ
known_input_fields s (member_node m input) = at_if (option_map_or (λ t. is_none (input_field_of s t m.name)) input false) m.at
known_input_fields s n = None

-- the members of an object
abbrev pub object_members : ValueTree → Option MemberTrees
object_members (object ms) = Some ms
object_members v = None

-- 5.6.3: a member whose name an earlier one of the object has
abbrev pub repeated_member : MemberTrees → Option ℕ
repeated_member ms = least_repeat (map argument_name (members_in ms))

abbrev pub unique_input_fields : NodeTree → Option ℕ
unique_input_fields (value_node v place) = option_and_then repeated_member (object_members v.value)
unique_input_fields n = None

-- 5.6.4: an object without a required input field
abbrev pub inputs_in : Option TypeTree → List ArgTree
inputs_in None = []
inputs_in (Some d) = d.inputs

abbrev pub lacks_input : SchemaTree → List ArgumentTree → (type : ℕ) → Bool
lacks_input s ms t = lacks_any ms (inputs_in (type_at s t))

-- the members of an object at a place lack one
abbrev pub lacks_at : SchemaTree → Option PlaceTree → MemberTrees → Bool
lacks_at s place ms = option_map_or (lacks_input s (members_in ms)) (input_of s place) false

abbrev pub required_input_fields : SchemaTree → NodeTree → Option ℕ
required_input_fields s (value_node v place) =
    at_if (option_map_or (lacks_at s place) (object_members v.value) false) v.at
required_input_fields s n = None

-- a rule at a node
abbrev pub node_place : NodeRule → SchemaTree → NodeTree → Option ℕ
node_place rule.FieldsOnCorrectType s n = fields_on_correct_type s n
node_place rule.ScalarLeafs s n = scalar_leafs s n
node_place rule.KnownArgumentNames s n = known_argument_names n
node_place rule.UniqueArgumentNames s n = unique_argument_names n
node_place rule.ProvidedRequiredArguments s n = provided_required_arguments s n
node_place rule.ValuesOfCorrectType s n = values_of_correct_type s n
node_place rule.KnownInputFields s n = known_input_fields s n
node_place rule.UniqueInputFields s n = unique_input_fields n
node_place rule.RequiredInputFields s n = required_input_fields s n

-- the least place at which a rule is violated in a document
abbrev pub rule_place : NodeRule → SchemaTree → List PartTree → Option ℕ
rule_place r s parts = least_of (λ p. least_of (node_place r s) p.nodes) parts
