-- A document that violates no rule: each rule gives no place, and so it does at each node of each definition.
use Rattle.std.proofs.Common.{◌≡◌, refl, ℕ, List, [], ◌∷◌, map, Bool, true, false, Option, Some, None, slice_get}
use Rattle.std.specs.Option.{option_or}
use Rattle.hq_base.specs.Lists.{Each}
use Rattle.hq_schema.specs.Schema.{SchemaTree}
use Rattle.hq_gql_tree.specs.Documents.{DefinitionTree, DocumentTree}
use Rattle.hq_gql_tree.specs.declared.fault.Fault.{Fault}
use Rattle.hq_gql_tree.specs.declared.rule.RuleId.{RuleId}
use Rattle.hq_gql_nodes.specs.Faults.{or_later}
use Rattle.hq_gql_nodes.specs.Fragments.{fragment_named, graph_of}
use Rattle.hq_gql_nodes.specs.Least.{earlier, at_if, least_of}
use Rattle.hq_gql_nodes.specs.Nodes.{NodeTree, PartTree, part_of, definition_nodes, document_parts}
use Rattle.hq_overlap_sets.specs.Places.{overlap_place}
use Rattle.hq_rules_reach.specs.Uses.{all_uses}
use Rattle.hq_rules_reach.specs.Variables.{no_undefined_variables, no_unused_variables, variables_in_allowed_position}
use Rattle.hq_gql_tree.specs.declared.rule.RuleId.TheVariants as number
use Rattle.hq_rules_reach.specs.Spreads.{no_unused_fragments, no_fragment_cycles}
use Rattle.hq_rules_doc.specs.First.{operation_fault, fragment_fault, directive_fault, variable_fault, first_doc_fault}
use Rattle.hq_rules_doc.specs.NodeRules as doc
use Rattle.hq_rules_doc.specs.Operations.{unique_fragment_names, unique_variable_names}
use Rattle.hq_rules_doc.specs.declared.rules.NodeRule.{NodeRule as DocRule}
use Rattle.hq_rules_doc.specs.declared.rules.NodeRule.TheVariants as doc_rule
use Rattle.hq_rules_fields.specs.First.{first_field_fault}
use Rattle.hq_rules_fields.specs.NodeRules as fields
use Rattle.hq_rules_fields.specs.declared.rules.NodeRule.{NodeRule as FieldRule}
use Rattle.hq_rules_fields.specs.declared.rules.NodeRule.TheVariants as field_rule
use Rattle.hq_laws_request.proofs.Built.Items.{each_at}

-- ---- parts of nothing

pub earlier_parts : (a b : Option ℕ) → earlier a b ≡ None → (a ≡ None) × (b ≡ None)
earlier_parts None b h = (refl, h)
earlier_parts (Some a) None h = absurd cc
earlier_parts (Some a) (Some b) h = absurd cc

pub at_if_none : (b : Bool) (n : ℕ) → at_if b n ≡ None → b ≡ false
at_if_none true n h = absurd cc
at_if_none false n h = refl

pub least_none : {A : Type 0} (f : A → Option ℕ) (xs : List A) → least_of f xs ≡ None → Each (λ x. f x ≡ None) xs
least_none f [] h = tt
least_none f (x ∷ xs) h = let both = earlier_parts (f x) (least_of f xs) h in (both.0, least_none f xs both.1)

later_parts : (r : RuleId) (o : Option ℕ) (later : Option Fault) → or_later r o later ≡ None → (o ≡ None) × (later ≡ None)
later_parts r None later h = (refl, h)
later_parts r (Some at) later h = absurd cc

or_parts : (a b : Option Fault) → option_or a b ≡ None → (a ≡ None) × (b ≡ None)
or_parts None b h = (refl, h)
or_parts (Some a) b h = absurd cc

-- ---- the rules of a document

-- a rule that looks at nodes gives no place
abbrev pub DocRuleHolds : SchemaTree → DocumentTree → DocRule → Type 0
DocRuleHolds s d r = doc.rule_place r s d (fragment_named d) (document_parts s d) ≡ None

abbrev pub FieldRuleHolds : SchemaTree → DocumentTree → FieldRule → Type 0
FieldRuleHolds s d r = fields.rule_place r s (document_parts s d) ≡ None

pub record DocHolds (s : SchemaTree) (d : DocumentTree) : Type 0 where
  pub node : (r : DocRule) → DocRuleHolds s d r
  pub names : unique_variable_names d ≡ None
  pub defined : no_undefined_variables (graph_of (fragment_named d) (document_parts s d)) (all_uses (document_parts s d)) d ≡ None
  pub allowed : variables_in_allowed_position s (graph_of (fragment_named d) (document_parts s d)) (all_uses (document_parts s d)) d ≡ None

pub record FieldsHold (s : SchemaTree) (d : DocumentTree) : Type 0 where
  pub node : (r : FieldRule) → FieldRuleHolds s d r
  pub overlap : overlap_place s d ≡ None

pub doc_holds : (s : SchemaTree) (d : DocumentTree) → first_doc_fault s d ≡ None → DocHolds s d
doc_holds s d h =
    let a = or_parts (operation_fault d (fragment_named d))
    (option_or (fragment_fault s d (fragment_named d) (document_parts s d) (graph_of (fragment_named d) (document_parts s d)))
    (option_or (directive_fault s d (fragment_named d) (document_parts s d)) (variable_fault s d (fragment_named d) (document_parts s d) (graph_of (fragment_named d) (document_parts s d))))) h in
    let b = or_parts (fragment_fault s d (fragment_named d) (document_parts s d) (graph_of (fragment_named d) (document_parts s d)))
    (option_or (directive_fault s d (fragment_named d) (document_parts s d)) (variable_fault s d (fragment_named d) (document_parts s d) (graph_of (fragment_named d) (document_parts s d)))) a.1 in
    let c = or_parts (directive_fault s d (fragment_named d) (document_parts s d))
    (variable_fault s d (fragment_named d) (document_parts s d) (graph_of (fragment_named d) (document_parts s d))) b.1 in
    let f1 = later_parts number.FragmentNameUniqueness (unique_fragment_names d)
    (or_later number.FragmentSpreadTypeExistence (doc.rule_place doc_rule.KnownTypeNames s d (fragment_named d) (document_parts s d))
    (or_later number.FragmentsOnCompositeTypes (doc.rule_place doc_rule.FragmentsOnCompositeTypes s d (fragment_named d) (document_parts s d))
    (or_later number.FragmentsMustBeUsed (no_unused_fragments d (document_parts s d))
    (or_later number.FragmentSpreadTargetDefined (doc.rule_place doc_rule.KnownFragmentNames s d (fragment_named d) (document_parts s d))
    (or_later number.FragmentSpreadsMustNotFormCycles (no_fragment_cycles (graph_of (fragment_named d) (document_parts s d)) d)
    (or_later number.FragmentSpreadIsPossible (doc.rule_place doc_rule.PossibleFragmentSpreads s d (fragment_named d) (document_parts s d)) None)))))) b.0 in
    let f2 = later_parts number.FragmentSpreadTypeExistence (doc.rule_place doc_rule.KnownTypeNames s d (fragment_named d) (document_parts s d))
    (or_later number.FragmentsOnCompositeTypes (doc.rule_place doc_rule.FragmentsOnCompositeTypes s d (fragment_named d) (document_parts s d))
    (or_later number.FragmentsMustBeUsed (no_unused_fragments d (document_parts s d))
    (or_later number.FragmentSpreadTargetDefined (doc.rule_place doc_rule.KnownFragmentNames s d (fragment_named d) (document_parts s d))
    (or_later number.FragmentSpreadsMustNotFormCycles (no_fragment_cycles (graph_of (fragment_named d) (document_parts s d)) d)
    (or_later number.FragmentSpreadIsPossible (doc.rule_place doc_rule.PossibleFragmentSpreads s d (fragment_named d) (document_parts s d)) None))))) f1.1 in
    let f3 = later_parts number.FragmentsOnCompositeTypes (doc.rule_place doc_rule.FragmentsOnCompositeTypes s d (fragment_named d) (document_parts s d))
    (or_later number.FragmentsMustBeUsed (no_unused_fragments d (document_parts s d))
    (or_later number.FragmentSpreadTargetDefined (doc.rule_place doc_rule.KnownFragmentNames s d (fragment_named d) (document_parts s d))
    (or_later number.FragmentSpreadsMustNotFormCycles (no_fragment_cycles (graph_of (fragment_named d) (document_parts s d)) d)
    (or_later number.FragmentSpreadIsPossible (doc.rule_place doc_rule.PossibleFragmentSpreads s d (fragment_named d) (document_parts s d)) None)))) f2.1 in
    let f4 = later_parts number.FragmentsMustBeUsed (no_unused_fragments d (document_parts s d))
    (or_later number.FragmentSpreadTargetDefined (doc.rule_place doc_rule.KnownFragmentNames s d (fragment_named d) (document_parts s d))
    (or_later number.FragmentSpreadsMustNotFormCycles (no_fragment_cycles (graph_of (fragment_named d) (document_parts s d)) d)
    (or_later number.FragmentSpreadIsPossible (doc.rule_place doc_rule.PossibleFragmentSpreads s d (fragment_named d) (document_parts s d)) None))) f3.1 in
    let f5 = later_parts number.FragmentSpreadTargetDefined (doc.rule_place doc_rule.KnownFragmentNames s d (fragment_named d) (document_parts s d))
    (or_later number.FragmentSpreadsMustNotFormCycles (no_fragment_cycles (graph_of (fragment_named d) (document_parts s d)) d)
    (or_later number.FragmentSpreadIsPossible (doc.rule_place doc_rule.PossibleFragmentSpreads s d (fragment_named d) (document_parts s d)) None)) f4.1 in
    let f6 = later_parts number.FragmentSpreadsMustNotFormCycles (no_fragment_cycles (graph_of (fragment_named d) (document_parts s d)) d)
    (or_later number.FragmentSpreadIsPossible (doc.rule_place doc_rule.PossibleFragmentSpreads s d (fragment_named d) (document_parts s d)) None) f5.1 in
    let f7 = later_parts number.FragmentSpreadIsPossible (doc.rule_place doc_rule.PossibleFragmentSpreads s d (fragment_named d) (document_parts s d)) None f6.1 in
    let d1 = later_parts number.DirectivesAreDefined (doc.rule_place doc_rule.KnownDirectives s d (fragment_named d) (document_parts s d))
    (or_later number.DirectivesAreInValidLocations (doc.rule_place doc_rule.DirectivesInLocations s d (fragment_named d) (document_parts s d))
    (or_later number.DirectivesAreUniquePerLocation (doc.rule_place doc_rule.UniqueDirectives s d (fragment_named d) (document_parts s d)) None)) c.0 in
    let d2 = later_parts number.DirectivesAreInValidLocations (doc.rule_place doc_rule.DirectivesInLocations s d (fragment_named d) (document_parts s d))
    (or_later number.DirectivesAreUniquePerLocation (doc.rule_place doc_rule.UniqueDirectives s d (fragment_named d) (document_parts s d)) None) d1.1 in
    let d3 = later_parts number.DirectivesAreUniquePerLocation (doc.rule_place doc_rule.UniqueDirectives s d (fragment_named d) (document_parts s d)) None d2.1 in
    let v1 = later_parts number.VariableUniqueness (unique_variable_names d)
    (or_later number.VariablesAreInputTypes (doc.rule_place doc_rule.VariablesAreInputTypes s d (fragment_named d) (document_parts s d))
    (or_later number.AllVariableUsesDefined (no_undefined_variables (graph_of (fragment_named d) (document_parts s d)) (all_uses (document_parts s d)) d)
    (or_later number.AllVariablesUsed (no_unused_variables (graph_of (fragment_named d) (document_parts s d)) (all_uses (document_parts s d)) d)
    (or_later number.AllVariableUsagesAreAllowed (variables_in_allowed_position s (graph_of (fragment_named d) (document_parts s d)) (all_uses (document_parts s d)) d) None)))) c.1 in
    let v2 = later_parts number.VariablesAreInputTypes (doc.rule_place doc_rule.VariablesAreInputTypes s d (fragment_named d) (document_parts s d))
    (or_later number.AllVariableUsesDefined (no_undefined_variables (graph_of (fragment_named d) (document_parts s d)) (all_uses (document_parts s d)) d)
    (or_later number.AllVariablesUsed (no_unused_variables (graph_of (fragment_named d) (document_parts s d)) (all_uses (document_parts s d)) d)
    (or_later number.AllVariableUsagesAreAllowed (variables_in_allowed_position s (graph_of (fragment_named d) (document_parts s d)) (all_uses (document_parts s d)) d) None))) v1.1 in
    let v3 = later_parts number.AllVariableUsesDefined (no_undefined_variables (graph_of (fragment_named d) (document_parts s d)) (all_uses (document_parts s d)) d)
    (or_later number.AllVariablesUsed (no_unused_variables (graph_of (fragment_named d) (document_parts s d)) (all_uses (document_parts s d)) d)
    (or_later number.AllVariableUsagesAreAllowed (variables_in_allowed_position s (graph_of (fragment_named d) (document_parts s d)) (all_uses (document_parts s d)) d) None)) v2.1 in
    let v4 = later_parts number.AllVariablesUsed (no_unused_variables (graph_of (fragment_named d) (document_parts s d)) (all_uses (document_parts s d)) d)
    (or_later number.AllVariableUsagesAreAllowed (variables_in_allowed_position s (graph_of (fragment_named d) (document_parts s d)) (all_uses (document_parts s d)) d) None) v3.1 in
    let v5 = later_parts number.AllVariableUsagesAreAllowed (variables_in_allowed_position s (graph_of (fragment_named d) (document_parts s d)) (all_uses (document_parts s d)) d) None v4.1 in
    record { node = node f2.0 f3.0 f5.0 f7.0 d1.0 d2.0 d3.0 v2.0; names = v1.0; defined = v3.0; allowed = v5.0 }
  where
    node : DocRuleHolds s d doc_rule.KnownTypeNames → DocRuleHolds s d doc_rule.FragmentsOnCompositeTypes → DocRuleHolds s d doc_rule.KnownFragmentNames
        → DocRuleHolds s d doc_rule.PossibleFragmentSpreads
        → DocRuleHolds s d doc_rule.KnownDirectives → DocRuleHolds s d doc_rule.DirectivesInLocations → DocRuleHolds s d doc_rule.UniqueDirectives → DocRuleHolds s d doc_rule.VariablesAreInputTypes
        → (r : DocRule) → DocRuleHolds s d r
    node a b c e f g h i doc_rule.KnownTypeNames = a
    node a b c e f g h i doc_rule.FragmentsOnCompositeTypes = b
    node a b c e f g h i doc_rule.KnownFragmentNames = c
    node a b c e f g h i doc_rule.PossibleFragmentSpreads = e
    node a b c e f g h i doc_rule.KnownDirectives = f
    node a b c e f g h i doc_rule.DirectivesInLocations = g
    node a b c e f g h i doc_rule.UniqueDirectives = h
    node a b c e f g h i doc_rule.VariablesAreInputTypes = i

pub fields_hold : (s : SchemaTree) (d : DocumentTree) → first_field_fault s d ≡ None → FieldsHold s d
fields_hold s d h =
    let a = or_parts _ _ h in
    let b = or_parts _ _ a.1 in
    let s1 = later_parts _ _ _ a.0 in
    let s2 = later_parts _ _ _ s1.1 in
    let s3 = later_parts _ _ _ s2.1 in
    let a1 = later_parts _ _ _ b.0 in
    let a2 = later_parts _ _ _ a1.1 in
    let a3 = later_parts _ _ _ a2.1 in
    let v1 = later_parts _ _ _ b.1 in
    let v2 = later_parts _ _ _ v1.1 in
    let v3 = later_parts _ _ _ v2.1 in
    let v4 = later_parts _ _ _ v3.1 in
    record { node = node s1.0 s3.0 a1.0 a2.0 a3.0 v1.0 v2.0 v3.0 v4.0; overlap = s2.0 }
  where
    node : FieldRuleHolds s d field_rule.FieldsOnCorrectType → FieldRuleHolds s d field_rule.ScalarLeafs → FieldRuleHolds s d field_rule.KnownArgumentNames
        → FieldRuleHolds s d field_rule.UniqueArgumentNames
        → FieldRuleHolds s d field_rule.ProvidedRequiredArguments → FieldRuleHolds s d field_rule.ValuesOfCorrectType → FieldRuleHolds s d field_rule.KnownInputFields
        → FieldRuleHolds s d field_rule.UniqueInputFields
        → FieldRuleHolds s d field_rule.RequiredInputFields → (r : FieldRule) → FieldRuleHolds s d r
    node a b c e f g h i j field_rule.FieldsOnCorrectType = a
    node a b c e f g h i j field_rule.ScalarLeafs = b
    node a b c e f g h i j field_rule.KnownArgumentNames = c
    node a b c e f g h i j field_rule.UniqueArgumentNames = e
    node a b c e f g h i j field_rule.ProvidedRequiredArguments = f
    node a b c e f g h i j field_rule.ValuesOfCorrectType = g
    node a b c e f g h i j field_rule.KnownInputFields = h
    node a b c e f g h i j field_rule.UniqueInputFields = i
    node a b c e f g h i j field_rule.RequiredInputFields = j

-- ---- each node of a definition

pub record Holds (s : SchemaTree) (d : DocumentTree) (n : NodeTree) : Type 0 where
  pub doc : (r : DocRule) → doc.node_place r s d (fragment_named d) n ≡ None
  pub fields : (r : FieldRule) → fields.node_place r s n ≡ None

-- facts of all of one kind, of each item
each_pi : {A R : Type 0} (P : R → A → Type 0) (xs : List A) → ((r : R) → Each (P r) xs) → Each (λ x. (r : R) → P r x) xs
each_pi P [] h = tt
each_pi P (x ∷ xs) h = ((λ r. (h r).0), each_pi P xs (λ r. (h r).1))

pub each_both : {A : Type 0} (P Q S : A → Type 0) → ((x : A) → P x → Q x → S x) → (xs : List A) → Each P xs → Each Q xs → Each S xs
each_both P Q S join [] h g = tt
each_both P Q S join (x ∷ xs) h g = (join x h.0 g.0, each_both P Q S join xs h.1 g.1)

pub each_unmap : {A B : Type 0} (P : B → Type 0) (f : A → B) (xs : List A) → Each P (map f xs) → Each (λ x. P (f x)) xs
each_unmap P f [] h = tt
each_unmap P f (x ∷ xs) h = (h.0, each_unmap P f xs h.1)

module _ (s : SchemaTree) (d : DocumentTree) (of_doc : DocHolds s d) (of_fields : FieldsHold s d) where
  -- a rule at each node of the definition at a place
  at_nodes : (f : NodeTree → Option ℕ) → least_of (λ (p : PartTree). least_of f p.nodes) (document_parts s d) ≡ None
      → (i : ℕ) (x : DefinitionTree) → slice_get d i ≡ Some x → Each (λ n. f n ≡ None) (definition_nodes s x)
  at_nodes f h i x at =
      let parts = least_none (λ (p : PartTree). least_of f p.nodes) (document_parts s d) h in
      least_none f (definition_nodes s x)
      (each_at (λ (y : DefinitionTree). least_of f (definition_nodes s y) ≡ None) d i x at (each_unmap (λ (p : PartTree). least_of f p.nodes ≡ None) (part_of s) d parts))

  pub nodes_hold : (i : ℕ) (x : DefinitionTree) → slice_get d i ≡ Some x → Each (Holds s d) (definition_nodes s x)
  nodes_hold i x at =
      each_both (λ n. (r : DocRule) → doc.node_place r s d (fragment_named d) n ≡ None) (λ n. (r : FieldRule) → fields.node_place r s n ≡ None) (Holds s d)
      (λ n a b. record { doc = a; fields = b })
      (definition_nodes s x)
      (each_pi (λ r n. doc.node_place r s d (fragment_named d) n ≡ None) (definition_nodes s x) (λ r. at_nodes (doc.node_place r s d (fragment_named d)) (of_doc.node r) i x at))
      (each_pi (λ r n. fields.node_place r s n ≡ None) (definition_nodes s x) (λ r. at_nodes (fields.node_place r s) (of_fields.node r) i x at))
