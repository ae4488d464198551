-- Rules that look at one node at a time (GraphQL October 2021, section 5): the place at which a node violates a rule, if it does.
use Rattle.std.specs.Prelude.{ℕ, List, map, Bool, true, false, not, ◌&&◌, ◌==◌, Option, Some, None, is_none, option_and_then, slice_get}
use Rattle.std.specs.Option.{option_map_or}
use Rattle.hq_schema.specs.Schema.{SchemaTree}
use Rattle.hq_schema.specs.Look.{type_named}
use Rattle.hq_gql_tree.specs.declared.selection.TypeCond.{TypeCond}
use Rattle.hq_gql_tree.specs.Values.{DirectiveTree}
use Rattle.hq_gql_tree.specs.Documents.{DefinitionTree, operation, fragment, DocumentTree}
use Rattle.hq_gql_nodes.specs.Known.{object_named, is_condition, is_input_type}
use Rattle.hq_gql_nodes.specs.Least.{at_if, least_of}
use Rattle.hq_gql_nodes.specs.Names.{NameTree, least_repeat}
use Rattle.hq_gql_nodes.specs.Fragments.{Places}
use Rattle.hq_gql_nodes.specs.Nodes.{NodeTree, variable_node, condition_node, spread_node, inline_node, directives_node, directive_node, PartTree}
use Rattle.hq_gql_nodes.specs.declared.node.Location.{Location}
use Rattle.hq_gql_nodes.specs.declared.node.Location.TheVariants as location
use Rattle.hq_rules_doc.specs.declared.rules.NodeRule.{NodeRule}
use Rattle.hq_rules_doc.specs.declared.rules.NodeRule.TheVariants as rule

-- 5.5.1.2: a type condition that names no type
abbrev pub known_type_names : SchemaTree → NodeTree → Option ℕ
known_type_names s (condition_node c) = at_if (is_none (type_named s c.name)) c.at
known_type_names s n = None

-- 5.5.1.3: a type condition that names no object type
abbrev pub fragments_on_composite_types : SchemaTree → NodeTree → Option ℕ
fragments_on_composite_types s (condition_node c) = at_if (is_none (object_named s c.name)) c.at
fragments_on_composite_types s n = None

-- 5.5.2.1: a spread of a fragment that is not defined
abbrev pub known_fragment_names : Places → NodeTree → Option ℕ
known_fragment_names places (spread_node x parent) = at_if (is_none (places x.name)) x.at
known_fragment_names places n = None

-- the object type on which an inline fragment stands, and on which the fragment of a name does
abbrev pub type_of_condition : SchemaTree → Option TypeCond → Option ℕ
type_of_condition s cond = option_and_then (λ c. object_named s c.name) cond

abbrev pub condition_of : DefinitionTree → Option TypeCond
condition_of (operation o) = None
condition_of (fragment f) = Some f.cond

abbrev pub type_of_fragment : SchemaTree → DocumentTree → Places → (name : List ℕ) → Option ℕ
type_of_fragment s d places name = type_of_condition s (option_and_then condition_of (option_and_then (slice_get d) (places name)))

-- both types are known, and they differ
abbrev pub are_other : Option ℕ → Option ℕ → Bool
are_other None b = false
are_other (Some a) None = false
are_other (Some a) (Some b) = not (a == b)

-- 5.5.2.3: a spread or an inline fragment on another object type than the one that it stands in
abbrev pub possible_fragment_spreads : SchemaTree → DocumentTree → Places → NodeTree → Option ℕ
possible_fragment_spreads s d places (spread_node x parent) = at_if (are_other parent (type_of_fragment s d places x.name)) x.at
possible_fragment_spreads s d places (inline_node h parent) = at_if (are_other parent (type_of_condition s h.cond)) h.at
possible_fragment_spreads s d places n = None

-- 5.7.1: a directive that is not known
abbrev pub known_directives : NodeTree → Option ℕ
known_directives (directive_node d l) = at_if (not (is_condition d.name)) d.at
known_directives n = None

-- where `skip` and `include` may stand (3.13.1, 3.13.2)
abbrev pub takes_condition : Location → Bool
takes_condition location.Query = false
takes_condition location.Mutation = false
takes_condition location.Subscription = false
takes_condition location.Field = true
takes_condition location.FragmentDefinition = false
takes_condition location.FragmentSpread = true
takes_condition location.InlineFragment = true
takes_condition location.VariableDefinition = false

-- 5.7.2: a known directive where it may not stand
abbrev pub directives_in_locations : NodeTree → Option ℕ
directives_in_locations (directive_node d l) = at_if (is_condition d.name && not (takes_condition l)) d.at
directives_in_locations n = None

-- 5.7.3: a directive whose name an earlier one at the same place has
abbrev pub directive_name : DirectiveTree → NameTree
directive_name d = record { name = d.name; at = d.at }

abbrev pub unique_directives : NodeTree → Option ℕ
unique_directives (directives_node ds) = least_repeat (map directive_name ds)
unique_directives n = None

-- 5.8.2: a variable whose type is no input type
abbrev pub variables_are_input_types : SchemaTree → NodeTree → Option ℕ
variables_are_input_types s (variable_node v ty) = at_if (not (option_map_or (is_input_type s) ty false)) v.at
variables_are_input_types s n = None

-- a rule at a node
abbrev pub node_place : NodeRule → SchemaTree → DocumentTree → Places → NodeTree → Option ℕ
node_place rule.KnownTypeNames s d places n = known_type_names s n
node_place rule.FragmentsOnCompositeTypes s d places n = fragments_on_composite_types s n
node_place rule.KnownFragmentNames s d places n = known_fragment_names places n
node_place rule.PossibleFragmentSpreads s d places n = possible_fragment_spreads s d places n
node_place rule.KnownDirectives s d places n = known_directives n
node_place rule.DirectivesInLocations s d places n = directives_in_locations n
node_place rule.UniqueDirectives s d places n = unique_directives n
node_place rule.VariablesAreInputTypes s d places n = variables_are_input_types s n

-- the least place at which a rule is violated in a document
abbrev pub rule_place : NodeRule → SchemaTree → DocumentTree → Places → List PartTree → Option ℕ
rule_place r s d places parts = least_of (λ p. least_of (node_place r s d places) p.nodes) parts
