-- The first rule of fields, arguments and values that a document violates, and the least place at which it does. The order is that of
-- the rules' numbers (GraphQL October 2021, section 5).
use Rattle.std.specs.Prelude.{List, Option, None}
use Rattle.std.specs.Option.{option_or}
use Rattle.hq_schema.specs.Schema.{SchemaTree}
use Rattle.hq_gql_tree.specs.declared.rule.RuleId.TheVariants as number
use Rattle.hq_gql_tree.specs.declared.fault.Fault.{Fault}
use Rattle.hq_gql_tree.specs.Documents.{DocumentTree}
use Rattle.hq_gql_nodes.specs.Faults.{or_later}
use Rattle.hq_gql_nodes.specs.Nodes.{PartTree, document_parts}
use Rattle.hq_overlap_sets.specs.Places.{overlap_place}
use Rattle.hq_rules_fields.specs.NodeRules.{rule_place}
use Rattle.hq_rules_fields.specs.declared.rules.NodeRule.TheVariants as rule

-- the rules of fields, of arguments and of values, by the parts of a document
abbrev pub selection_fault : SchemaTree → DocumentTree → List PartTree → Option Fault
selection_fault s d parts =
    or_later number.FieldSelections (rule_place rule.FieldsOnCorrectType s parts)
    (or_later number.FieldSelectionMerging (overlap_place s d)
    (or_later number.LeafFieldSelections (rule_place rule.ScalarLeafs s parts) None))

abbrev pub argument_fault : SchemaTree → List PartTree → Option Fault
argument_fault s parts =
    or_later number.ArgumentNames (rule_place rule.KnownArgumentNames s parts)
    (or_later number.ArgumentUniqueness (rule_place rule.UniqueArgumentNames s parts)
    (or_later number.RequiredArguments (rule_place rule.ProvidedRequiredArguments s parts) None))

abbrev pub value_fault : SchemaTree → List PartTree → Option Fault
value_fault s parts =
    or_later number.ValuesOfCorrectType (rule_place rule.ValuesOfCorrectType s parts)
    (or_later number.InputObjectFieldNames (rule_place rule.KnownInputFields s parts)
    (or_later number.InputObjectFieldUniqueness (rule_place rule.UniqueInputFields s parts)
    (or_later number.InputObjectRequiredFields (rule_place rule.RequiredInputFields s parts) None)))

abbrev pub fault_by : SchemaTree → DocumentTree → List PartTree → Option Fault
fault_by s d parts = option_or (selection_fault s d parts) (option_or (argument_fault s parts) (value_fault s parts))

-- the first fault of a document
abbrev pub first_field_fault : SchemaTree → DocumentTree → Option Fault
first_field_fault s d = fault_by s d (document_parts s d)
