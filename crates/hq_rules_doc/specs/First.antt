-- The first rule of documents that a document violates, and the least place at which it does. The order is that of the rules'
-- numbers (GraphQL October 2021, section 5).
use Rattle.std.specs.Prelude.{List, Option, None}
use Rattle.std.specs.Option.{option_or}
use Rattle.hq_schema.specs.Schema.{SchemaTree}
use Rattle.hq_gql_tree.specs.declared.rule.RuleId.TheVariants as number
use Rattle.hq_gql_tree.specs.declared.fault.Fault.{Fault}
use Rattle.hq_gql_tree.specs.Documents.{DocumentTree}
use Rattle.hq_gql_nodes.specs.Faults.{or_later}
use Rattle.hq_gql_nodes.specs.Fragments.{Places, fragment_named, graph_of}
use Rattle.hq_gql_nodes.specs.Nodes.{PartTree, document_parts}
use Rattle.hq_gql_nodes.specs.Reach.{Graph}
use Rattle.hq_rules_doc.specs.NodeRules.{rule_place}
use Rattle.hq_rules_doc.specs.Operations.{unique_operation_names, lone_anonymous_operation, unique_fragment_names, unique_variable_names}
use Rattle.hq_rules_doc.specs.Subscriptions.{root_graph, single_field_subscriptions}
use Rattle.hq_rules_reach.specs.Spreads.{no_unused_fragments, no_fragment_cycles}
use Rattle.hq_rules_reach.specs.Uses.{all_uses}
use Rattle.hq_rules_reach.specs.Variables.{no_undefined_variables, no_unused_variables, variables_in_allowed_position}
use Rattle.hq_rules_doc.specs.declared.rules.NodeRule.TheVariants as rule

-- the rules of operations, of fragments, of directives and of variables, by the places of the fragments by name, the parts and the
-- graph of a document
abbrev pub operation_fault : DocumentTree → Places → Option Fault
operation_fault d places =
    or_later number.OperationNameUniqueness (unique_operation_names d)
    (or_later number.LoneAnonymousOperation (lone_anonymous_operation d)
    (or_later number.SingleRootField (single_field_subscriptions (root_graph places d) d) None))

abbrev pub fragment_fault : SchemaTree → DocumentTree → Places → List PartTree → Graph → Option Fault
fragment_fault s d places parts g =
    or_later number.FragmentNameUniqueness (unique_fragment_names d)
    (or_later number.FragmentSpreadTypeExistence (rule_place rule.KnownTypeNames s d places parts)
    (or_later number.FragmentsOnCompositeTypes (rule_place rule.FragmentsOnCompositeTypes s d places parts)
    (or_later number.FragmentsMustBeUsed (no_unused_fragments d parts)
    (or_later number.FragmentSpreadTargetDefined (rule_place rule.KnownFragmentNames s d places parts)
    (or_later number.FragmentSpreadsMustNotFormCycles (no_fragment_cycles g d)
    (or_later number.FragmentSpreadIsPossible (rule_place rule.PossibleFragmentSpreads s d places parts) None))))))

abbrev pub directive_fault : SchemaTree → DocumentTree → Places → List PartTree → Option Fault
directive_fault s d places parts =
    or_later number.DirectivesAreDefined (rule_place rule.KnownDirectives s d places parts)
    (or_later number.DirectivesAreInValidLocations (rule_place rule.DirectivesInLocations s d places parts)
    (or_later number.DirectivesAreUniquePerLocation (rule_place rule.UniqueDirectives s d places parts) None))

abbrev pub variable_fault : SchemaTree → DocumentTree → Places → List PartTree → Graph → Option Fault
variable_fault s d places parts g =
    or_later number.VariableUniqueness (unique_variable_names d)
    (or_later number.VariablesAreInputTypes (rule_place rule.VariablesAreInputTypes s d places parts)
    (or_later number.AllVariableUsesDefined (no_undefined_variables g (all_uses parts) d)
    (or_later number.AllVariablesUsed (no_unused_variables g (all_uses parts) d)
    (or_later number.AllVariableUsagesAreAllowed (variables_in_allowed_position s g (all_uses parts) d) None))))

abbrev pub fault_by : SchemaTree → DocumentTree → Places → List PartTree → Graph → Option Fault
fault_by s d places parts g =
    option_or (operation_fault d places) (option_or (fragment_fault s d places parts g) (option_or (directive_fault s d places parts) (variable_fault s d places parts g)))

-- the first fault of a document
abbrev pub first_doc_fault : SchemaTree → DocumentTree → Option Fault
first_doc_fault s d = fault_by s d (fragment_named d) (document_parts s d) (graph_of (fragment_named d) (document_parts s d))
