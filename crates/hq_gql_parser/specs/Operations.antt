-- Operations and fragments (GraphQL October 2021, 2.2, 2.3, 2.8, 2.10).
use Rattle.std.specs.Prelude.{◌≡◌, ℕ, ◌⊎◌, true, false, List, [], ◌∷◌, Option, Some, None}
use Rattle.hq_gql_lexer.specs.declared.token.Punct.TheVariants.{Dollar, Colon, Equals}
use Rattle.hq_gql_lexer.specs.declared.token.TokenKind.TheVariants as kind
use Rattle.hq_gql_tree.specs.declared.document.OpKind.{OpKind}
use Rattle.hq_gql_tree.specs.declared.document.OpKind.TheVariants.{Query, Mutation, Subscription}
use Rattle.hq_gql_tree.specs.Values.{PlacedTree}
use Rattle.hq_gql_tree.specs.Documents.{VarDefTree, OperationTree, FragmentTree, DefinitionTree, operation, fragment, DocumentTree}
use Rattle.hq_gql_parser.specs.declared.keyword.Keyword.{Keyword}
use Rattle.hq_gql_parser.specs.declared.keyword.Keyword.TheVariants as keyword
use Rattle.hq_gql_parser.specs.Lookahead.{keyword_text}
use Rattle.hq_gql_parser.specs.Languages.{Language, IsNothing, IsToken, IsPunct, IsName, ◌▸◌, Each, InParentheses}
use Rattle.hq_gql_parser.specs.Values.{IsPlaced, AreDirectives}
use Rattle.hq_gql_parser.specs.Types.{IsType}
use Rattle.hq_gql_parser.specs.Selections.{IsFragmentName, IsCondition, IsSelectionSet}

-- a default value, if there is one (2.10)
abbrev pub IsDefault : Option PlacedTree → Language
IsDefault None = IsNothing
IsDefault (Some v) = IsPunct Equals ▸ IsPlaced true v

-- the definition of a variable (2.10)
abbrev pub IsVariable : VarDefTree → Language
IsVariable v = IsToken v.at (kind.Punct Dollar) ▸ IsName v.name ▸ IsPunct Colon ▸ IsType v.ty ▸ IsDefault v.default ▸ AreDirectives true v.directives

abbrev pub AreVariables : List VarDefTree → Language
AreVariables = InParentheses IsVariable

-- the keyword of a kind of operations (2.3)
abbrev pub kind_keyword : OpKind → Keyword
kind_keyword Query = keyword.Query
kind_keyword Mutation = keyword.Mutation
kind_keyword Subscription = keyword.Subscription

abbrev pub IsSomeName : Option (List ℕ) → Language
IsSomeName None = IsNothing
IsSomeName (Some name) = IsName name

-- an operation that begins with its keyword
abbrev pub IsNamedOperation : OperationTree → Language
IsNamedOperation o =
    IsToken o.at (kind.Name (keyword_text (kind_keyword o.kind))) ▸ IsSomeName o.name ▸ AreVariables o.vars ▸ AreDirectives false o.directives ▸ (λ ts. (at : ℕ) × IsSelectionSet at o.selections ts)

-- a query that is a selection set alone
abbrev pub IsShorthand : OperationTree → Language
IsShorthand o ts = (o.kind ≡ Query) × (o.name ≡ None) × (o.vars ≡ []) × (o.directives ≡ []) × IsSelectionSet o.at o.selections ts

-- a fragment (2.8)
abbrev pub IsFragment : FragmentTree → Language
IsFragment f =
    IsToken f.at (kind.Name (keyword_text keyword.Fragment)) ▸ IsFragmentName f.name ▸ IsCondition f.cond ▸ AreDirectives false f.directives ▸ (λ ts. (at : ℕ) × IsSelectionSet at f.selections ts)

abbrev pub IsDefinition : DefinitionTree → Language
IsDefinition (operation o) = λ ts. IsShorthand o ts ⊎ IsNamedOperation o ts
IsDefinition (fragment f) = IsFragment f

-- a document: one definition, and more (2.2)
abbrev pub IsDocument : DocumentTree → Language
IsDocument [] = λ ts. ⊥
IsDocument (d ∷ ds) = IsDefinition d ▸ Each IsDefinition ds
