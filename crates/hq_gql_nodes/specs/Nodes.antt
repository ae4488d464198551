-- The nodes of a document that the rules look at (GraphQL October 2021, section 5), in the order of the text, each with what it
-- stands in. A rule is a filter of this list.
use Rattle.std.specs.Prelude.{ℕ, List, [], ◌∷◌, ◌++◌, Option, Some, None, option_map, map}
use Rattle.hq_gql_tree.specs.declared.document.OpKind.{OpKind}
use Rattle.hq_gql_tree.specs.declared.document.OpKind.TheVariants as op
use Rattle.hq_gql_tree.specs.declared.selection.TypeCond.{TypeCond}
use Rattle.hq_gql_tree.specs.Values.{ValueTree, int, float, str, bool, null, enum, list, object, variable, ElementTrees, no_element, element, MemberTrees, no_member, member, PlacedTree, ArgumentTree, DirectiveTree, placed_view, argument_view, directive_view}
use Rattle.hq_gql_tree.specs.Selections.{FieldHead, SpreadTree, InlineHead, SelectionTree, field, spread, inline, SelectionTrees, no_selection, selection, spread_view, field_view, inline_view}
use Rattle.hq_gql_tree.specs.Documents.{VarDefTree, OperationTree, FragmentTree, DefinitionTree, operation, fragment, DocumentTree, var_def_view, definition_view}
use Rattle.hq_schema.specs.Schema.{TypeRefTree, ArgTree, SchemaTree, arg_view, type_ref_view}
use Rattle.hq_gql_nodes.specs.Known.{PlaceTree, place_view, element_place, input_of, member_place, arg_place, args_of_field, below_field, args_of_directive, object_named, root_of, resolved, default_place}
use Rattle.hq_gql_nodes.specs.declared.node.Location.{Location}
use Rattle.hq_gql_nodes.specs.declared.node.Location.TheVariants as location
use Rattle.hq_gql_nodes.specs.declared.parts.Part.{Part}
use Rattle.hq_gql_nodes.specs.declared.node.Node.{Node}
use Rattle.hq_gql_nodes.specs.declared.node.Node.TheVariants as node

pub data NodeTree : Type 0 where
  -- a definition of a variable, and its type
  variable_node : VarDefTree → Option TypeRefTree → NodeTree
  -- a type condition
  condition_node : TypeCond → NodeTree
  -- a field, its selections, and the object type that it stands in
  field_node : FieldHead → SelectionTrees → (parent : Option ℕ) → NodeTree
  -- a fragment spread, and the object type that it stands in
  spread_node : SpreadTree → (parent : Option ℕ) → NodeTree
  -- an inline fragment, and the object type that it stands in
  inline_node : InlineHead → (parent : Option ℕ) → NodeTree
  -- all directives that stand at one place
  directives_node : List DirectiveTree → NodeTree
  -- a directive, and what it stands at
  directive_node : DirectiveTree → Location → NodeTree
  -- an argument, and the arguments of what it is given to
  argument_node : ArgumentTree → Option (List ArgTree) → NodeTree
  -- a value, also an element or a member, and its place
  value_node : PlacedTree → Option PlaceTree → NodeTree
  -- a member of an object, and the input object that it stands in
  member_node : ArgumentTree → (input : Option ℕ) → NodeTree

-- what a node is seen as
abbrev pub node_view : Node → NodeTree
node_view (node.Variable v ty) = variable_node (var_def_view v.now) (option_map (λ r. type_ref_view r.now) ty)
node_view (node.Condition c) = condition_node c.now
node_view (node.Field f parent) = field_node (field_view f.now).0 (field_view f.now).1 parent
node_view (node.Spread s parent) = spread_node (spread_view s.now) parent
node_view (node.Inline i parent) = inline_node (inline_view i.now).0 parent
node_view (node.Directives ds) = directives_node (map directive_view ds.now.items)
node_view (node.Directive d l) = directive_node (directive_view d.now) l
node_view (node.Argument a args) = argument_node (argument_view a.now) (option_map (λ defs. map arg_view defs.now) args)
node_view (node.Value v place) = value_node (placed_view v.now) (option_map place_view place)
node_view (node.Member m input) = member_node (argument_view m.now) input

-- what stands in a value
abbrev mutual
  pub nodes_in_value : SchemaTree → Option PlaceTree → ValueTree → List NodeTree
  nodes_in_value s place (int text) = []
  nodes_in_value s place (float text) = []
  nodes_in_value s place (str text) = []
  nodes_in_value s place (bool b) = []
  nodes_in_value s place null = []
  nodes_in_value s place (enum name) = []
  nodes_in_value s place (list vs) = elements_nodes s (element_place place) vs
  nodes_in_value s place (object ms) = members_nodes s (input_of s place) ms
  nodes_in_value s place (variable name) = []

  pub elements_nodes : SchemaTree → Option PlaceTree → ElementTrees → List NodeTree
  elements_nodes s place no_element = []
  elements_nodes s place (element at v vs) = value_node (record { at = at; value = v }) place ∷ (nodes_in_value s place v ++ elements_nodes s place vs)

  pub members_nodes : SchemaTree → Option ℕ → MemberTrees → List NodeTree
  members_nodes s input no_member = []
  members_nodes s input (member at name value_at v ms) =
      member_node (record { at = at; name = name; value = record { at = value_at; value = v } }) input
      ∷ (value_node (record { at = value_at; value = v }) (member_place s input name)
      ∷ (nodes_in_value s (member_place s input name) v ++ members_nodes s input ms))

-- a value, and what stands in it
abbrev pub value_nodes : SchemaTree → Option PlaceTree → PlacedTree → List NodeTree
value_nodes s place p = value_node p place ∷ nodes_in_value s place p.value

-- a member, and its value
abbrev pub member_nodes : SchemaTree → Option ℕ → ArgumentTree → List NodeTree
member_nodes s input m = member_node m input ∷ value_nodes s (member_place s input m.name) m.value

-- an argument, and its value
abbrev pub argument_nodes : SchemaTree → Option (List ArgTree) → ArgumentTree → List NodeTree
argument_nodes s args a = argument_node a args ∷ value_nodes s (arg_place args a.name) a.value

abbrev pub arguments_nodes : SchemaTree → Option (List ArgTree) → List ArgumentTree → List NodeTree
arguments_nodes s args [] = []
arguments_nodes s args (a ∷ more) = argument_nodes s args a ++ arguments_nodes s args more

-- a directive, and its arguments
abbrev pub directive_nodes : SchemaTree → Location → DirectiveTree → List NodeTree
directive_nodes s l d = directive_node d l ∷ arguments_nodes s (args_of_directive s d.name) d.args

abbrev pub each_directive : SchemaTree → Location → List DirectiveTree → List NodeTree
each_directive s l [] = []
each_directive s l (d ∷ ds) = directive_nodes s l d ++ each_directive s l ds

-- the directives that stand at one place, and each of them
abbrev pub directives_nodes : SchemaTree → Location → List DirectiveTree → List NodeTree
directives_nodes s l ds = directives_node ds ∷ each_directive s l ds

-- a type condition, if there is one
abbrev pub condition_nodes : Option TypeCond → List NodeTree
condition_nodes None = []
condition_nodes (Some c) = condition_node c ∷ []

-- the parent type below an inline fragment
abbrev pub below_inline : SchemaTree → Option ℕ → Option TypeCond → Option ℕ
below_inline s parent None = parent
below_inline s parent (Some c) = object_named s c.name

-- what stands at a field, and at an inline fragment, beside its selections
abbrev pub field_head_nodes : SchemaTree → Option ℕ → FieldHead → List NodeTree
field_head_nodes s parent h = arguments_nodes s (args_of_field s parent h.name) h.args ++ directives_nodes s location.Field h.directives

abbrev pub inline_head_nodes : SchemaTree → InlineHead → List NodeTree
inline_head_nodes s h = condition_nodes h.cond ++ directives_nodes s location.InlineFragment h.directives

-- selections
abbrev mutual
  pub selection_nodes : SchemaTree → Option ℕ → SelectionTree → List NodeTree
  selection_nodes s parent (field h below) =
      field_node h below parent ∷ (field_head_nodes s parent h ++ selections_nodes s (below_field s parent h.name) below)
  selection_nodes s parent (spread x) = spread_node x parent ∷ directives_nodes s location.FragmentSpread x.directives
  selection_nodes s parent (inline h below) =
      inline_node h parent ∷ (inline_head_nodes s h ++ selections_nodes s (below_inline s parent h.cond) below)

  pub selections_nodes : SchemaTree → Option ℕ → SelectionTrees → List NodeTree
  selections_nodes s parent no_selection = []
  selections_nodes s parent (selection x more) = selection_nodes s parent x ++ selections_nodes s parent more

-- a default value, if there is one
abbrev pub default_nodes : SchemaTree → Option PlaceTree → Option PlacedTree → List NodeTree
default_nodes s place None = []
default_nodes s place (Some v) = value_nodes s place v

-- a definition of a variable, its default, and its directives
abbrev pub variable_nodes : SchemaTree → VarDefTree → List NodeTree
variable_nodes s v =
    variable_node v (resolved s v.ty)
    ∷ (default_nodes s (default_place s (resolved s v.ty)) v.default ++ directives_nodes s location.VariableDefinition v.directives)

abbrev pub variables_nodes : SchemaTree → List VarDefTree → List NodeTree
variables_nodes s [] = []
variables_nodes s (v ∷ vs) = variable_nodes s v ++ variables_nodes s vs

abbrev pub location_of : OpKind → Location
location_of op.Query = location.Query
location_of op.Mutation = location.Mutation
location_of op.Subscription = location.Subscription

-- the nodes of an operation, of a fragment, and of either
abbrev pub operation_nodes : SchemaTree → OperationTree → List NodeTree
operation_nodes s o =
    variables_nodes s o.vars ++ (directives_nodes s (location_of o.kind) o.directives ++ selections_nodes s (root_of s o.kind) o.selections)

abbrev pub fragment_nodes : SchemaTree → FragmentTree → List NodeTree
fragment_nodes s f = condition_node f.cond ∷ (directives_nodes s location.FragmentDefinition f.directives ++ selections_nodes s (object_named s f.cond.name) f.selections)

abbrev pub definition_nodes : SchemaTree → DefinitionTree → List NodeTree
definition_nodes s (operation o) = operation_nodes s o
definition_nodes s (fragment f) = fragment_nodes s f

-- a definition of a document, and its nodes
pub record PartTree : Type 0 where
  pub definition : DefinitionTree
  pub nodes : List NodeTree

abbrev pub part_view : Part → PartTree
part_view p = record { definition = definition_view p.definition.now; nodes = map node_view p.nodes.items }

-- the part of a definition, and the parts of a document in the order of the text
abbrev pub part_of : SchemaTree → DefinitionTree → PartTree
part_of s d = record { definition = d; nodes = definition_nodes s d }

abbrev pub document_parts : SchemaTree → DocumentTree → List PartTree
document_parts s d = map (part_of s) d

-- the types of the variables of a definition
abbrev pub variable_types : SchemaTree → DefinitionTree → List (Option TypeRefTree)
variable_types s (operation o) = map (λ v. resolved s v.ty) o.vars
variable_types s (fragment f) = []
