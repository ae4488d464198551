-- Selections (GraphQL October 2021, 2.4, 2.5, 2.7, 2.8).
use Rattle.std.specs.Prelude.{◌≡◌, ℕ, false, List, Option, Some, None}
use Rattle.hq_gql_lexer.specs.declared.token.Punct.TheVariants.{Spread, Colon, OpenBrace, CloseBrace}
use Rattle.hq_gql_lexer.specs.declared.token.TokenKind.TheVariants as kind
use Rattle.hq_gql_tree.specs.declared.selection.TypeCond.{TypeCond}
use Rattle.hq_gql_tree.specs.Selections.{SelectionTree, field, spread, inline, SelectionTrees, no_selection, selection}
use Rattle.hq_gql_parser.specs.declared.keyword.Keyword.TheVariants as keyword
use Rattle.hq_gql_parser.specs.Lookahead.{keyword_text, is_keyword}
use Rattle.hq_gql_parser.specs.Languages.{Language, IsNothing, IsToken, IsPunct, IsName, ◌▸◌}
use Rattle.hq_gql_parser.specs.Values.{AreArguments, AreDirectives}

-- a name, or an alias and a name (2.7)
abbrev pub IsHead : (at : ℕ) → (alias : Option (List ℕ)) → (name : List ℕ) → Language
IsHead at None name = IsToken at (kind.Name name)
IsHead at (Some alias) name = IsToken at (kind.Name alias) ▸ IsPunct Colon ▸ IsName name

-- any name but `on` (2.8)
abbrev pub IsFragmentName : List ℕ → Language
IsFragmentName name ts = (is_keyword name keyword.On ≡ false) × IsName name ts

-- a type condition (2.8.1)
abbrev pub IsCondition : TypeCond → Language
IsCondition c = IsToken c.at (kind.Name (keyword_text keyword.On)) ▸ IsName c.name

abbrev pub IsSomeCondition : Option TypeCond → Language
IsSomeCondition None = IsNothing
IsSomeCondition (Some c) = IsCondition c

-- a selection; the selections of a set in braces, or no token where there are none; selections one behind the other
abbrev mutual
  pub IsSelection : SelectionTree → Language
  IsSelection (field h set) = IsHead h.at h.alias h.name ▸ AreArguments false h.args ▸ AreDirectives false h.directives ▸ IsSet set
  IsSelection (spread s) = IsToken s.at (kind.Punct Spread) ▸ IsFragmentName s.name ▸ AreDirectives false s.directives
  IsSelection (inline h no_selection) = λ ts. ⊥
  IsSelection (inline h (selection s more)) =
      IsToken h.at (kind.Punct Spread) ▸ IsSomeCondition h.cond ▸ AreDirectives false h.directives ▸ IsPunct OpenBrace ▸ (IsSelection s ▸ AreSelections more) ▸ IsPunct CloseBrace

  pub IsSet : SelectionTrees → Language
  IsSet no_selection = IsNothing
  IsSet (selection s more) = IsPunct OpenBrace ▸ (IsSelection s ▸ AreSelections more) ▸ IsPunct CloseBrace

  pub AreSelections : SelectionTrees → Language
  AreSelections no_selection = IsNothing
  AreSelections (selection s more) = IsSelection s ▸ AreSelections more

-- a selection set, whose brace stands at this place (2.4)
abbrev pub IsSelectionSet : (at : ℕ) → SelectionTrees → Language
IsSelectionSet at no_selection = λ ts. ⊥
IsSelectionSet at (selection s more) = IsToken at (kind.Punct OpenBrace) ▸ (IsSelection s ▸ AreSelections more) ▸ IsPunct CloseBrace
