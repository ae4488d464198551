-- The rules of documents find the same in a schema without origins.
use Rattle.std.proofs.Common.{◌≡◌, ◌∙◌, ℕ, zero, suc, List, [], ◌∷◌, length, map, false, not, Option, None, is_none, option_and_then, slice_get, refl, sym, ap}
use Rattle.std.specs.List.{list_any}
use Rattle.hq_schema.specs.Schema.{ArgTree, SchemaTree}
use Rattle.hq_gql_tree.specs.Values.{ArgumentTree}
use Rattle.hq_gql_tree.specs.declared.selection.TypeCond.{TypeCond}
use Rattle.hq_gql_tree.specs.Documents.{VarDefTree, DefinitionTree, operation, fragment, DocumentTree}
use Rattle.hq_gql_nodes.specs.Fragments.{Places, spread_target, spread_targets, graph_of}
use Rattle.hq_gql_nodes.specs.Known.{object_named, is_input_type, resolved}
use Rattle.hq_gql_nodes.specs.Least.{at_if, least_of}
use Rattle.hq_gql_nodes.specs.Nodes.{NodeTree, variable_node, condition_node, spread_node, inline_node, argument_node, value_node, PartTree}
use Rattle.hq_gql_nodes.specs.Reach.{Graph, reached}
use Rattle.hq_rules_reach.specs.Spreads.{least_below, place_at, spreads, is_spread, unused_by, no_unused_fragments}
use Rattle.hq_rules_reach.specs.Uses.{UseTree, use_of, uses_of, all_uses, uses_at}
use Rattle.hq_rules_reach.specs.Variables.{variable_named, has_default, is_wrong_type, wrong_use, wrong_in, in_operation, variables_in_allowed_position}
use Rattle.hq_rules_doc.specs.NodeRules.{known_type_names, fragments_on_composite_types, type_of_condition, type_of_fragment, condition_of, are_other, possible_fragment_spreads, variables_are_input_types, node_place, rule_place}
use Rattle.hq_rules_doc.specs.declared.rules.NodeRule.{NodeRule}
use Rattle.hq_rules_doc.specs.declared.rules.NodeRule.TheVariants as rule
use Rattle.hq_laws_renumbered.specs.Schemas.Blank.{blank}
use Rattle.hq_laws_renumbered.proofs.Rules.Lists.{any_map, filter_map_map, map_twice, least_map, least_alike, and_alike, map_or_alike}
use Rattle.hq_laws_renumbered.proofs.Rules.Looks.{blank_named}
use Rattle.hq_laws_renumbered.proofs.Rules.Known.{blank_args, same_object_named, same_resolved, same_input_type}
use Rattle.hq_laws_renumbered.proofs.Rules.Nodes.{blank_node, blank_part}

-- ---- what a document spreads and uses

same_target : (places : Places) (n : NodeTree) → spread_target places (blank_node n) ≡ spread_target places n
same_target places (spread_node x parent) = refl
same_target places _ = refl

pub same_graph : (places : Places) (parts : List PartTree) → graph_of places (map blank_part parts) ≡ graph_of places parts
same_graph places parts =
    map_twice (λ (p : PartTree). spread_targets places p.nodes) blank_part (λ p. spread_targets places p.nodes)
    (λ p. filter_map_map (spread_target places) (spread_target places) blank_node (same_target places) p.nodes) parts

same_spread : (name : List ℕ) (n : NodeTree) → spreads name (blank_node n) ≡ spreads name n
same_spread name (spread_node x parent) = refl
same_spread name _ = refl

same_is_spread : (parts : List PartTree) (name : List ℕ) → is_spread (map blank_part parts) name ≡ is_spread parts name
same_is_spread parts name =
    any_map (λ (p : PartTree). list_any (spreads name) p.nodes) (λ p. list_any (spreads name) p.nodes) blank_part
    (λ p. any_map (spreads name) (spreads name) blank_node (same_spread name) p.nodes) parts

same_unused : (parts : List PartTree) (x : DefinitionTree) → unused_by (is_spread (map blank_part parts)) x ≡ unused_by (is_spread parts) x
same_unused parts (operation o) = refl
same_unused parts (fragment f) = ap (λ b. at_if (not b) f.at) (same_is_spread parts f.name)

pub same_unused_fragments : (d : DocumentTree) (parts : List PartTree) → no_unused_fragments d (map blank_part parts) ≡ no_unused_fragments d parts
same_unused_fragments d parts = least_alike (unused_by (is_spread (map blank_part parts))) (unused_by (is_spread parts)) (same_unused parts) d

same_use : (n : NodeTree) → use_of (blank_node n) ≡ use_of n
same_use (value_node v place) = refl
same_use _ = refl

pub same_uses : (parts : List PartTree) → all_uses (map blank_part parts) ≡ all_uses parts
same_uses parts = map_twice (λ (p : PartTree). uses_of p.nodes) blank_part (λ p. uses_of p.nodes) (λ p. filter_map_map use_of use_of blank_node same_use p.nodes) parts

-- ---- uses of variables

same_wrong : (s : SchemaTree) (vars : List VarDefTree) (u : UseTree (List ℕ)) → wrong_use (blank s) vars (variable_named vars) u ≡ wrong_use s vars (variable_named vars) u
same_wrong s vars u =
    and_alike (λ (v : VarDefTree). at_if (is_wrong_type (resolved (blank s) v.ty) (has_default v.default) u.place) u.at)
    (λ v. at_if (is_wrong_type (resolved s v.ty) (has_default v.default) u.place) u.at)
    (λ v. ap (λ ty. at_if (is_wrong_type ty (has_default v.default) u.place) u.at) (same_resolved s v.ty)) (option_and_then (slice_get vars) (variable_named vars u.name))

same_wrong_in : (s : SchemaTree) (all : List (List (UseTree (List ℕ)))) (vars : List VarDefTree) (definitions : List ℕ) → wrong_in (blank s) all vars definitions ≡ wrong_in s all vars definitions
same_wrong_in s all vars definitions =
    least_alike (λ j. least_of (wrong_use (blank s) vars (variable_named vars)) (uses_at all j)) (λ j. least_of (wrong_use s vars (variable_named vars)) (uses_at all j))
    (λ j. least_alike (wrong_use (blank s) vars (variable_named vars)) (wrong_use s vars (variable_named vars)) (same_wrong s vars) (uses_at all j)) definitions

same_at : (s : SchemaTree) (g : Graph) (all : List (List (UseTree (List ℕ)))) (at : ℕ) (x : DefinitionTree) → in_operation (wrong_in (blank s) all) g at x ≡ in_operation (wrong_in s all) g at x
same_at s g all at (operation o) = same_wrong_in s all o.vars (reached g (at ∷ []))
same_at s g all at (fragment f) = refl

below_alike : (f g : ℕ → Option ℕ) → ((n : ℕ) → f n ≡ g n) → (n : ℕ) → least_below f n ≡ least_below g n
below_alike f g same zero = refl
below_alike f g same (suc n) = rw (below_alike f g same n, same n) refl

pub same_positions : (s : SchemaTree) (g : Graph) (all : List (List (UseTree (List ℕ)))) (d : DocumentTree) → variables_in_allowed_position (blank s) g all d ≡ variables_in_allowed_position s g all d
same_positions s g all d =
    below_alike (place_at (in_operation (wrong_in (blank s) all) g) d) (place_at (in_operation (wrong_in s all) g) d)
    (λ at. and_alike (in_operation (wrong_in (blank s) all) g at) (in_operation (wrong_in s all) g at) (same_at s g all at) (slice_get d at)) (length d)

-- ---- rules at one node

same_condition : (s : SchemaTree) (c : Option TypeCond) → type_of_condition (blank s) c ≡ type_of_condition s c
same_condition s c = and_alike (λ (x : TypeCond). object_named (blank s) x.name) (λ x. object_named s x.name) (λ x. same_object_named s x.name) c

same_fragment : (s : SchemaTree) (d : DocumentTree) (places : Places) (name : List ℕ) → type_of_fragment (blank s) d places name ≡ type_of_fragment s d places name
same_fragment s d places name = same_condition s (option_and_then condition_of (option_and_then (slice_get d) (places name)))

same_known : (s : SchemaTree) (n : NodeTree) → known_type_names (blank s) (blank_node n) ≡ known_type_names s n
same_known s (condition_node c) = ap (λ o. at_if (is_none o) c.at) (blank_named s c.name)
same_known s _ = refl

same_composite : (s : SchemaTree) (n : NodeTree) → fragments_on_composite_types (blank s) (blank_node n) ≡ fragments_on_composite_types s n
same_composite s (condition_node c) = ap (λ o. at_if (is_none o) c.at) (same_object_named s c.name)
same_composite s _ = refl

same_possible : (s : SchemaTree) (d : DocumentTree) (places : Places) (n : NodeTree) → possible_fragment_spreads (blank s) d places (blank_node n) ≡ possible_fragment_spreads s d places n
same_possible s d places (spread_node x parent) = ap (λ t. at_if (are_other parent t) x.at) (same_fragment s d places x.name)
same_possible s d places (inline_node h parent) = ap (λ t. at_if (are_other parent t) h.at) (same_condition s h.cond)
same_possible s d places _ = refl

same_input_types : (s : SchemaTree) (n : NodeTree) → variables_are_input_types (blank s) (blank_node n) ≡ variables_are_input_types s n
same_input_types s (variable_node v ty) = ap (λ b. at_if (not b) v.at) (map_or_alike (is_input_type (blank s)) (is_input_type s) false (same_input_type s) ty)
same_input_types s _ = refl

-- a rule that looks at no schema
pub same_by : (f : NodeTree → Option ℕ) → ((a : ArgumentTree) (args : Option (List ArgTree)) → f (argument_node a args) ≡ None) → (n : NodeTree) → f (blank_node n) ≡ f n
same_by f none (argument_node a args) = none a (blank_args args) ∙ sym (none a args)
same_by f none _ = refl

same_node : (r : NodeRule) (s : SchemaTree) (d : DocumentTree) (places : Places) (n : NodeTree) → node_place r (blank s) d places (blank_node n) ≡ node_place r s d places n
same_node rule.KnownTypeNames s d places n = same_known s n
same_node rule.FragmentsOnCompositeTypes s d places n = same_composite s n
same_node rule.KnownFragmentNames s d places n = same_by (node_place rule.KnownFragmentNames s d places) (λ a args. refl) n
same_node rule.PossibleFragmentSpreads s d places n = same_possible s d places n
same_node rule.KnownDirectives s d places n = same_by (node_place rule.KnownDirectives s d places) (λ a args. refl) n
same_node rule.DirectivesInLocations s d places n = same_by (node_place rule.DirectivesInLocations s d places) (λ a args. refl) n
same_node rule.UniqueDirectives s d places n = same_by (node_place rule.UniqueDirectives s d places) (λ a args. refl) n
same_node rule.VariablesAreInputTypes s d places n = same_input_types s n

-- a rule over a document
pub same_rule : (r : NodeRule) (s : SchemaTree) (d : DocumentTree) (places : Places) (parts : List PartTree) → rule_place r (blank s) d places (map blank_part parts) ≡ rule_place r s d places parts
same_rule r s d places parts =
    least_map (λ (p : PartTree). least_of (node_place r (blank s) d places) p.nodes) (λ p. least_of (node_place r s d places) p.nodes) blank_part
    (λ p. least_map (node_place r (blank s) d places) (node_place r s d places) blank_node (same_node r s d places) p.nodes) parts
