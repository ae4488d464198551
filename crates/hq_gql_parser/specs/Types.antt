-- Types of variables (GraphQL October 2021, 2.11).
use Rattle.std.specs.Prelude.{◌≡◌, ℕ}
use Rattle.hq_gql_lexer.specs.declared.token.Punct.TheVariants.{Bang, OpenBracket, CloseBracket}
use Rattle.hq_gql_lexer.specs.declared.token.TokenKind.TheVariants as kind
use Rattle.hq_gql_tree.specs.Types.{TypeTree, named, list, non_null}
use Rattle.hq_gql_parser.specs.Languages.{Language, IsToken, IsPunct, ◌▸◌}

abbrev mutual
  -- a type without a `!` behind it, at this place
  pub IsNullable : (at : ℕ) → TypeTree → Language
  IsNullable at (named place name) = λ ts. (at ≡ place) × IsToken place (kind.Name name) ts
  IsNullable at (list place of) = λ ts. (at ≡ place) × (IsToken place (kind.Punct OpenBracket) ▸ IsType of ▸ IsPunct CloseBracket) ts
  IsNullable at (non_null place of) = λ ts. ⊥

  -- a type
  pub IsType : TypeTree → Language
  IsType (named at name) = IsToken at (kind.Name name)
  IsType (list at of) = IsToken at (kind.Punct OpenBracket) ▸ IsType of ▸ IsPunct CloseBracket
  IsType (non_null at of) = IsNullable at of ▸ IsPunct Bang
