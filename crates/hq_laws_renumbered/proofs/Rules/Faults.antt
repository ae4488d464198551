-- The first rule that a document violates is the same in a schema without origins.
use Rattle.std.proofs.Common.{◌≡◌, ◌∙◌, List, map, refl, ap}
use Rattle.hq_schema.specs.Schema.{SchemaTree}
use Rattle.hq_gql_tree.specs.Documents.{DocumentTree}
use Rattle.hq_gql_nodes.specs.Fragments.{Places, fragment_named, graph_of}
use Rattle.hq_gql_nodes.specs.Nodes.{PartTree, document_parts}
use Rattle.hq_gql_nodes.specs.Reach.{Graph}
use Rattle.hq_rules_reach.specs.Uses.{all_uses}
use Rattle.hq_rules_doc.specs.First as document
use Rattle.hq_rules_doc.specs.First.{fragment_fault, directive_fault, variable_fault, first_doc_fault}
use Rattle.hq_rules_doc.specs.declared.rules.NodeRule.TheVariants as rule
use Rattle.hq_rules_fields.specs.First as fields
use Rattle.hq_rules_fields.specs.First.{selection_fault, argument_fault, value_fault, first_field_fault}
use Rattle.hq_rules_fields.specs.declared.rules.NodeRule.TheVariants as field_rule
use Rattle.hq_laws_renumbered.specs.Schemas.Blank.{blank}
use Rattle.hq_laws_renumbered.proofs.Rules.Nodes.{blank_part, blank_parts}
use Rattle.hq_laws_renumbered.proofs.Rules.Rules.{same_graph, same_unused_fragments, same_uses, same_positions, same_rule}
use Rattle.hq_laws_renumbered.proofs.Rules.Values as values
use Rattle.hq_laws_renumbered.proofs.Rules.Overlaps.{same_overlap}

-- ---- rules of documents

same_fragment : (s : SchemaTree) (d : DocumentTree) (places : Places) (parts : List PartTree) (g : Graph)
    → fragment_fault (blank s) d places (map blank_part parts) g ≡ fragment_fault s d places parts g
same_fragment s d places parts g =
    rw (
      same_rule rule.KnownTypeNames s d places parts,
      same_rule rule.FragmentsOnCompositeTypes s d places parts,
      same_unused_fragments d parts,
      same_rule rule.KnownFragmentNames s d places parts,
      same_rule rule.PossibleFragmentSpreads s d places parts,
    ) refl

same_directive : (s : SchemaTree) (d : DocumentTree) (places : Places) (parts : List PartTree) → directive_fault (blank s) d places (map blank_part parts) ≡ directive_fault s d places parts
same_directive s d places parts = rw (same_rule rule.KnownDirectives s d places parts, same_rule rule.DirectivesInLocations s d places parts, same_rule rule.UniqueDirectives s d places parts) refl

same_variable : (s : SchemaTree) (d : DocumentTree) (places : Places) (parts : List PartTree) (g : Graph)
    → variable_fault (blank s) d places (map blank_part parts) g ≡ variable_fault s d places parts g
same_variable s d places parts g =
    rw (same_rule rule.VariablesAreInputTypes s d places parts, same_uses parts, same_positions s g (all_uses parts) d) refl

same_document : (s : SchemaTree) (d : DocumentTree) (places : Places) (parts : List PartTree) (g : Graph)
    → document.fault_by (blank s) d places (map blank_part parts) g ≡ document.fault_by s d places parts g
same_document s d places parts g = rw (same_fragment s d places parts g, same_directive s d places parts, same_variable s d places parts g) refl

pub same_doc_fault : (s : SchemaTree) (d : DocumentTree) → first_doc_fault (blank s) d ≡ first_doc_fault s d
same_doc_fault s d =
    let places = fragment_named d in
    let parts = document_parts s d in
    ap (λ ps. document.fault_by (blank s) d places ps (graph_of places ps)) (blank_parts s d)
    ∙ ap (document.fault_by (blank s) d places (map blank_part parts)) (same_graph places parts)
    ∙ same_document s d places parts (graph_of places parts)

-- ---- rules of fields

same_selection : (s : SchemaTree) (d : DocumentTree) (parts : List PartTree) → selection_fault (blank s) d (map blank_part parts) ≡ selection_fault s d parts
same_selection s d parts = rw (values.same_rule field_rule.FieldsOnCorrectType s parts, same_overlap s d, values.same_rule field_rule.ScalarLeafs s parts) refl

same_argument : (s : SchemaTree) (parts : List PartTree) → argument_fault (blank s) (map blank_part parts) ≡ argument_fault s parts
same_argument s parts =
    rw (values.same_rule field_rule.KnownArgumentNames s parts, values.same_rule field_rule.UniqueArgumentNames s parts, values.same_rule field_rule.ProvidedRequiredArguments s parts) refl

same_value : (s : SchemaTree) (parts : List PartTree) → value_fault (blank s) (map blank_part parts) ≡ value_fault s parts
same_value s parts =
    rw (
      values.same_rule field_rule.ValuesOfCorrectType s parts,
      values.same_rule field_rule.KnownInputFields s parts,
      values.same_rule field_rule.UniqueInputFields s parts,
      values.same_rule field_rule.RequiredInputFields s parts,
    )
    refl

pub same_field_fault : (s : SchemaTree) (d : DocumentTree) → first_field_fault (blank s) d ≡ first_field_fault s d
same_field_fault s d =
    let parts = document_parts s d in
    ap (fields.fault_by (blank s) d) (blank_parts s d) ∙ rw (same_selection s d parts, same_argument s parts, same_value s parts) refl
