-- How deep the selection sets, objects and lists of a document nest: how many `{` and `[` are open at once at most.
use Rattle.std.specs.Prelude.{ℕ, suc, max, Option, Some, None, List, [], ◌∷◌}
use Rattle.hq_gql_tree.specs.Values.{ValueTree, int, float, str, bool, null, enum, list, object, variable, ElementTrees, no_element, element, MemberTrees, no_member, member, PlacedTree, ArgumentTree, DirectiveTree}
use Rattle.hq_gql_tree.specs.Types.{TypeTree, named, non_null}
use Rattle.hq_gql_tree.specs.Types.{list as list_type}
use Rattle.hq_gql_tree.specs.Selections.{SelectionTree, field, spread, inline, SelectionTrees, no_selection, selection}
use Rattle.hq_gql_tree.specs.Documents.{VarDefTree, DefinitionTree, operation, fragment, DocumentTree}

abbrev mutual
  pub value_nest : ValueTree → ℕ
  value_nest (int text) = 0
  value_nest (float text) = 0
  value_nest (str text) = 0
  value_nest (bool b) = 0
  value_nest null = 0
  value_nest (enum name) = 0
  value_nest (list vs) = suc (elements_nest vs)
  value_nest (object ms) = suc (members_nest ms)
  value_nest (variable name) = 0

  pub elements_nest : ElementTrees → ℕ
  elements_nest no_element = 0
  elements_nest (element at v vs) = max (value_nest v) (elements_nest vs)

  pub members_nest : MemberTrees → ℕ
  members_nest no_member = 0
  members_nest (member at name value_at v ms) = max (value_nest v) (members_nest ms)

abbrev pub arguments_nest : List ArgumentTree → ℕ
arguments_nest [] = 0
arguments_nest (a ∷ more) = max (value_nest a.value.value) (arguments_nest more)

abbrev pub directives_nest : List DirectiveTree → ℕ
directives_nest [] = 0
directives_nest (d ∷ ds) = max (arguments_nest d.args) (directives_nest ds)

abbrev mutual
  pub selection_nest : SelectionTree → ℕ
  selection_nest (field head below) = max (max (arguments_nest head.args) (directives_nest head.directives)) (set_nest below)
  selection_nest (spread s) = directives_nest s.directives
  selection_nest (inline head below) = max (directives_nest head.directives) (set_nest below)

  -- a selection set, if there is one
  pub set_nest : SelectionTrees → ℕ
  set_nest no_selection = 0
  set_nest (selection s more) = suc (max (selection_nest s) (selections_nest more))

  pub selections_nest : SelectionTrees → ℕ
  selections_nest no_selection = 0
  selections_nest (selection s more) = max (selection_nest s) (selections_nest more)

abbrev pub type_nest : TypeTree → ℕ
type_nest (named at name) = 0
type_nest (list_type at of) = suc (type_nest of)
type_nest (non_null at of) = type_nest of

abbrev pub default_nest : Option PlacedTree → ℕ
default_nest None = 0
default_nest (Some v) = value_nest v.value

abbrev pub vars_nest : List VarDefTree → ℕ
vars_nest [] = 0
vars_nest (v ∷ vs) = max (max (type_nest v.ty) (max (default_nest v.default) (directives_nest v.directives))) (vars_nest vs)

abbrev pub definition_nest : DefinitionTree → ℕ
definition_nest (operation o) = max (vars_nest o.vars) (max (directives_nest o.directives) (set_nest o.selections))
definition_nest (fragment f) = max (directives_nest f.directives) (set_nest f.selections)

abbrev pub document_nest : DocumentTree → ℕ
document_nest [] = 0
document_nest (d ∷ ds) = max (definition_nest d) (document_nest ds)
