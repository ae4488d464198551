-- Values, arguments and directives (GraphQL October 2021, 2.6, 2.9, 2.12). Where they are constant, no variable stands
-- in them.
use Rattle.std.specs.Prelude.{◌≡◌, ℕ, Bool, true, false, List, if◌then◌else◌}
use Rattle.hq_gql_lexer.specs.declared.token.Punct.TheVariants.{Dollar, Colon, At, OpenBracket, CloseBracket, OpenBrace, CloseBrace}
use Rattle.hq_gql_lexer.specs.declared.token.TokenKind.TheVariants as kind
use Rattle.hq_gql_tree.specs.Values.{ValueTree, int, float, str, bool, null, enum, list, object, variable, ElementTrees, no_element, element, MemberTrees, no_member, member, PlacedTree, ArgumentTree, DirectiveTree}
use Rattle.hq_gql_parser.specs.declared.keyword.Keyword.TheVariants as keyword
use Rattle.hq_gql_parser.specs.Lookahead.{is_keyword}
use Rattle.hq_gql_parser.specs.Languages.{Language, IsNothing, IsToken, IsPunct, IsName, ◌▸◌, Each, InParentheses}

-- the value that a name is: a boolean, null, or an enum value (2.9.3, 2.9.5, 2.9.6)
unfoldable pub name_value : List ℕ → ValueTree
name_value name =
    if is_keyword name keyword.True then bool true
    else (if is_keyword name keyword.False then bool false else (if is_keyword name keyword.Null then null else enum name))

-- a name that is this value
abbrev pub IsNamed : (at : ℕ) → ValueTree → Language
IsNamed at v ts = (name : List ℕ) × (v ≡ name_value name) × IsToken at (kind.Name name) ts

-- a value (2.9), elements of a list (2.9.7), members of an object (2.9.8)
abbrev mutual
  pub IsValue : (constant : Bool) (at : ℕ) → ValueTree → Language
  IsValue c at (int text) = IsToken at (kind.Int text)
  IsValue c at (float text) = IsToken at (kind.Float text)
  IsValue c at (str text) = IsToken at (kind.Str text)
  IsValue c at (bool b) = IsNamed at (bool b)
  IsValue c at null = IsNamed at null
  IsValue c at (enum name) = IsNamed at (enum name)
  IsValue c at (list vs) = IsToken at (kind.Punct OpenBracket) ▸ AreElements c vs ▸ IsPunct CloseBracket
  IsValue c at (object ms) = IsToken at (kind.Punct OpenBrace) ▸ AreMembers c ms ▸ IsPunct CloseBrace
  IsValue c at (variable name) = λ ts. (c ≡ false) × (IsToken at (kind.Punct Dollar) ▸ IsName name) ts

  pub AreElements : (constant : Bool) → ElementTrees → Language
  AreElements c no_element = IsNothing
  AreElements c (element at v vs) = IsValue c at v ▸ AreElements c vs

  pub AreMembers : (constant : Bool) → MemberTrees → Language
  AreMembers c no_member = IsNothing
  AreMembers c (member at name value_at v ms) = (IsToken at (kind.Name name) ▸ IsPunct Colon ▸ IsValue c value_at v) ▸ AreMembers c ms

abbrev pub IsPlaced : (constant : Bool) → PlacedTree → Language
IsPlaced c v = IsValue c v.at v.value

-- an argument
abbrev pub IsArgument : (constant : Bool) → ArgumentTree → Language
IsArgument c a = IsToken a.at (kind.Name a.name) ▸ IsPunct Colon ▸ IsPlaced c a.value

abbrev pub AreArguments : (constant : Bool) → List ArgumentTree → Language
AreArguments c = InParentheses (IsArgument c)

-- a directive
abbrev pub IsDirective : (constant : Bool) → DirectiveTree → Language
IsDirective c d = IsToken d.at (kind.Punct At) ▸ IsName d.name ▸ AreArguments c d.args

abbrev pub AreDirectives : (constant : Bool) → List DirectiveTree → Language
AreDirectives c = Each (IsDirective c)
