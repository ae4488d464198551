-- 5.2.3.1: a subscription has one root field (GraphQL October 2021). Type conditions and directives are not looked at, a spread of
-- an undefined fragment adds nothing, and a fragment counts once.
use Rattle.std.specs.Prelude.{ℕ, List, [], ◌∷◌, ◌++◌, map, Bool, true, false, not, ◌||◌, ◌&&◌, Option, None, bytes_eq, codes, nat_eq, unwrap_or, slice_get}
use Rattle.std.specs.Option.{option_map_or, option_to_list}
use Rattle.std.specs.List.{list_any, flat_map, starts_with}
use Rattle.hq_gql_tree.specs.declared.document.OpKind.{OpKind}
use Rattle.hq_gql_tree.specs.declared.document.OpKind.TheVariants as op
use Rattle.hq_gql_tree.specs.Selections.{FieldHead, SelectionTree, field, spread, inline, SelectionTrees, no_selection, selection}
use Rattle.hq_gql_tree.specs.Documents.{DefinitionTree, operation, fragment, DocumentTree}
use Rattle.hq_gql_nodes.specs.Least.{at_if}
use Rattle.hq_gql_nodes.specs.Fragments.{Places}
use Rattle.hq_gql_nodes.specs.Reach.{Graph, reached}
use Rattle.hq_rules_doc.specs.RootFields.{RootFieldTree}
use Rattle.hq_rules_reach.specs.Spreads.{least_at}

-- a field's response key
abbrev pub response_key : FieldHead → List ℕ
response_key h = unwrap_or h.alias h.name

-- the fields of a selection set and of the inline fragments in it
abbrev mutual
  pub root_fields_of : SelectionTree → List RootFieldTree
  root_fields_of (field h below) = record { key = response_key h; name = h.name } ∷ []
  root_fields_of (spread x) = []
  root_fields_of (inline h below) = root_fields below

  pub root_fields : SelectionTrees → List RootFieldTree
  root_fields no_selection = []
  root_fields (selection x more) = root_fields_of x ++ root_fields more

-- the fragments that they spread
abbrev mutual
  pub root_spreads_of : Places → SelectionTree → List ℕ
  root_spreads_of places (field h below) = []
  root_spreads_of places (spread x) = option_to_list (places x.name)
  root_spreads_of places (inline h below) = root_spreads places below

  pub root_spreads : Places → SelectionTrees → List ℕ
  root_spreads places no_selection = []
  root_spreads places (selection x more) = root_spreads_of places x ++ root_spreads places more

abbrev pub selections_of_definition : DefinitionTree → SelectionTrees
selections_of_definition (operation o) = o.selections
selections_of_definition (fragment f) = f.selections

abbrev pub root_graph : Places → DocumentTree → Graph
root_graph places d = map (λ x. root_spreads places (selections_of_definition x)) d

-- the root fields of the definition at a place
abbrev pub root_fields_at : DocumentTree → ℕ → List RootFieldTree
root_fields_at d at = option_map_or (λ x. root_fields (selections_of_definition x)) (slice_get d at) []

-- the root fields are not of one key, or one of them is of introspection
abbrev pub is_introspection : RootFieldTree → Bool
is_introspection f = starts_with nat_eq f.name (codes "__")

abbrev pub have_other_keys : List RootFieldTree → Bool
have_other_keys fields = list_any (λ f. list_any (λ g. not (bytes_eq f.key g.key)) fields) fields

abbrev pub are_wrong_root_fields : List RootFieldTree → Bool
are_wrong_root_fields fields = not (list_any (λ f. true) fields) || (have_other_keys fields || list_any is_introspection fields)

abbrev pub is_subscription : OpKind → Bool
is_subscription op.Query = false
is_subscription op.Mutation = false
is_subscription op.Subscription = true

-- the subscription at a place, where its root fields are wrong
abbrev pub wrong_subscription : (wrong : Bool) → DefinitionTree → Option ℕ
wrong_subscription wrong (operation o) = at_if (is_subscription o.kind && wrong) o.at
wrong_subscription wrong (fragment f) = None

abbrev pub root_fields_from : Graph → DocumentTree → ℕ → List RootFieldTree
root_fields_from g d at = flat_map (root_fields_at d) (reached g (at ∷ []))

abbrev pub subscription_at : Graph → DocumentTree → ℕ → DefinitionTree → Option ℕ
subscription_at g d at x = wrong_subscription (are_wrong_root_fields (root_fields_from g d at)) x

-- 5.2.3.1; g is the graph of the fragments that stand among the root fields
abbrev pub single_field_subscriptions : Graph → DocumentTree → Option ℕ
single_field_subscriptions g d = least_at (subscription_at g d) d
