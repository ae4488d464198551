-- Documents without where they lie in memory (GraphQL October 2021, 2.2, 2.3, 2.8, 2.10).
use Rattle.std.specs.Prelude.{ℕ, Option, List, map}
use Rattle.std.specs.Option.{option_map}
use Rattle.hq_gql_tree.specs.declared.document.Definition.{Definition}
use Rattle.hq_gql_tree.specs.declared.document.Definition.TheVariants as definition
use Rattle.hq_gql_tree.specs.declared.document.Operation.{Operation}
use Rattle.hq_gql_tree.specs.declared.document.OpKind.{OpKind}
use Rattle.hq_gql_tree.specs.declared.document.VarDef.{VarDef}
use Rattle.hq_gql_tree.specs.declared.document.Fragment.{Fragment}
use Rattle.hq_gql_tree.specs.declared.selection.TypeCond.{TypeCond}
use Rattle.hq_gql_tree.specs.Values.{PlacedTree, placed_view, DirectiveTree, directive_view}
use Rattle.hq_gql_tree.specs.Types.{TypeTree, type_view}
use Rattle.hq_gql_tree.specs.Selections.{SelectionTrees, selections_of, selection_view}

-- the definition of a variable
pub record VarDefTree : Type 0 where
  pub at : ℕ
  pub name : List ℕ
  pub ty : TypeTree
  pub default : Option PlacedTree
  pub directives : List DirectiveTree

abbrev pub var_def_view : VarDef → VarDefTree
var_def_view v = record {
  at = v.at;
  name = v.name;
  ty = type_view v.ty;
  default = option_map placed_view v.default;
  directives = map directive_view v.directives.items;
}

-- an operation
pub record OperationTree : Type 0 where
  pub at : ℕ
  pub kind : OpKind
  pub name : Option (List ℕ)
  pub vars : List VarDefTree
  pub directives : List DirectiveTree
  pub selections : SelectionTrees

abbrev pub operation_view : Operation → OperationTree
operation_view o = record {
  at = o.at;
  kind = o.kind;
  name = o.name;
  vars = map var_def_view o.vars.items;
  directives = map directive_view o.directives.items;
  selections = selections_of (map selection_view o.selections.items);
}

-- a fragment
pub record FragmentTree : Type 0 where
  pub at : ℕ
  pub name : List ℕ
  pub cond : TypeCond
  pub directives : List DirectiveTree
  pub selections : SelectionTrees

abbrev pub fragment_view : Fragment → FragmentTree
fragment_view f = record {
  at = f.at;
  name = f.name;
  cond = f.cond;
  directives = map directive_view f.directives.items;
  selections = selections_of (map selection_view f.selections.items);
}

-- an operation or a fragment
pub data DefinitionTree : Type 0 where
  operation : OperationTree → DefinitionTree
  fragment : FragmentTree → DefinitionTree

abbrev pub definition_view : Definition → DefinitionTree
definition_view (definition.Operation o) = operation (operation_view o)
definition_view (definition.Fragment f) = fragment (fragment_view f)

-- a document, by its definitions in the order of the text
abbrev pub DocumentTree : Type 0
DocumentTree = List DefinitionTree
