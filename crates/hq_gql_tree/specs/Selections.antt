-- Selections without where they lie in memory (GraphQL October 2021, 2.4, 2.5, 2.8).
use Rattle.std.specs.Prelude.{ℕ, Option, List, [], ◌∷◌, map}
use Rattle.hq_gql_tree.specs.declared.selection.Selection.{Selection, fold-Selection}
use Rattle.hq_gql_tree.specs.declared.selection.Field.{Field, fold-Field}
use Rattle.hq_gql_tree.specs.declared.selection.Inline.{Inline, fold-Inline}
use Rattle.hq_gql_tree.specs.declared.selection.Selection.TheOpen.{Selection-F, Field-F, Inline-F}
use Rattle.hq_gql_tree.specs.declared.selection.Spread.{Spread}
use Rattle.hq_gql_tree.specs.declared.selection.TypeCond.{TypeCond}
use Rattle.hq_gql_tree.specs.Values.{ArgumentTree, argument_view, DirectiveTree, directive_view}

-- a field without its selections
pub record FieldHead : Type 0 where
  pub at : ℕ
  pub alias : Option (List ℕ)
  pub name : List ℕ
  pub args : List ArgumentTree
  pub directives : List DirectiveTree

-- a fragment spread
pub record SpreadTree : Type 0 where
  pub at : ℕ
  pub name : List ℕ
  pub directives : List DirectiveTree

-- an inline fragment without its selections
pub record InlineHead : Type 0 where
  pub at : ℕ
  pub cond : Option TypeCond
  pub directives : List DirectiveTree

-- a selection; a field without a selection set has none below it
mutual
  pub data SelectionTree : Type 0 where
    field : FieldHead → SelectionTrees → SelectionTree
    spread : SpreadTree → SelectionTree
    inline : InlineHead → SelectionTrees → SelectionTree

  pub data SelectionTrees : Type 0 where
    no_selection : SelectionTrees
    selection : SelectionTree → SelectionTrees → SelectionTrees

-- the selections of a list, and the list of selections
abbrev pub selections_of : List SelectionTree → SelectionTrees
selections_of [] = no_selection
selections_of (s ∷ more) = selection s (selections_of more)

abbrev pub selections_in : SelectionTrees → List SelectionTree
selections_in no_selection = []
selections_in (selection s more) = s ∷ selections_in more

abbrev pub spread_view : Spread → SpreadTree
spread_view s = record { at = s.at; name = s.name; directives = map directive_view s.directives.items }

-- a field and an inline fragment, each with its selections
abbrev pub FieldTree : Type 0
FieldTree = FieldHead × SelectionTrees

abbrev pub InlineTree : Type 0
InlineTree = InlineHead × SelectionTrees

-- one level of a selection, whose parts are seen already
abbrev pub selection_step : Selection-F SelectionTree FieldTree InlineTree → SelectionTree
selection_step (Selection-F.Field f) = field f.0 f.1
selection_step (Selection-F.Spread s) = spread (spread_view s)
selection_step (Selection-F.Inline i) = inline i.0 i.1

abbrev pub field_step : Field-F SelectionTree FieldTree InlineTree → FieldTree
field_step f = (
  record {
    at = f.at;
    alias = f.alias;
    name = f.name;
    args = map argument_view f.args.items;
    directives = map directive_view f.directives.items;
  },
  selections_of f.selections.items,
)

abbrev pub inline_step : Inline-F SelectionTree FieldTree InlineTree → InlineTree
inline_step i = (record { at = i.at; cond = i.cond; directives = map directive_view i.directives.items }, selections_of i.selections.items)

-- what each is seen as
abbrev pub selection_view : Selection → SelectionTree
selection_view = fold-Selection SelectionTree FieldTree InlineTree selection_step field_step inline_step

abbrev pub field_view : Field → FieldTree
field_view = fold-Field SelectionTree FieldTree InlineTree selection_step field_step inline_step

abbrev pub inline_view : Inline → InlineTree
inline_view = fold-Inline SelectionTree FieldTree InlineTree selection_step field_step inline_step
