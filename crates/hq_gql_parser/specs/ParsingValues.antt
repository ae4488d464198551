-- Parsing values, arguments and directives.
use Rattle.std.specs.Prelude.{ℕ, zero, suc, Bool, not, ◌&&◌, List, [], Option, Some, None, Ok, Err}
use Rattle.hq_base.specs.Due.{◌>>=◌}
use Rattle.hq_gql_lexer.specs.declared.token.Punct.TheVariants.{Dollar, OpenParenthesis, CloseParenthesis, Colon, At, OpenBracket, CloseBracket, OpenBrace, CloseBrace}
use Rattle.hq_gql_lexer.specs.declared.token.Token.{Token}
use Rattle.hq_gql_lexer.specs.declared.token.TokenKind.{TokenKind}
use Rattle.hq_gql_lexer.specs.declared.token.TokenKind.TheVariants as kind
use Rattle.hq_gql_tree.specs.Values.{ValueTree, int, float, str, list, object, variable, PlacedTree, elements_of, ArgumentTree, members_of, DirectiveTree}
use Rattle.hq_gql_parser.specs.declared.lookahead.Lookahead.{Lookahead}
use Rattle.hq_gql_parser.specs.declared.lookahead.Lookahead.TheVariants as ahead
use Rattle.hq_gql_parser.specs.Lookahead.{is_at}
use Rattle.hq_gql_parser.specs.Values.{name_value}
use Rattle.hq_gql_parser.specs.Parsing.{Parse, take, punct_at, name_at, too_deep_or_unexpected, either, all, some, until_punct}

-- a literal of one token
abbrev pub literal_of : TokenKind → Option ValueTree
literal_of (kind.Punct p) = None
literal_of (kind.Name name) = Some (name_value name)
literal_of (kind.Int text) = Some (int text)
literal_of (kind.Float text) = Some (float text)
literal_of (kind.Str value) = Some (str value)

abbrev pub placed_at : ℕ → Option ValueTree → Option PlacedTree
placed_at at None = None
placed_at at (Some v) = Some (record { at = at; value = v })

abbrev pub literal_use : Token → Option PlacedTree
literal_use t = placed_at t.from (literal_of t.kind)

unfoldable pub literal_at : Parse PlacedTree
literal_at = take literal_use

unfoldable pub variable_at : Parse PlacedTree
variable_at ts = do
  d ← punct_at Dollar ts
  n ← name_at d.1
  Ok (record { at = d.0; value = variable n.0.1 }, n.1)

abbrev pub is_bracket : Lookahead → Bool
is_bracket = is_at (ahead.Punct OpenBracket)

abbrev pub is_brace : Lookahead → Bool
is_brace = is_at (ahead.Punct OpenBrace)

abbrev pub is_variable : (constant : Bool) → Lookahead → Bool
is_variable c n = not c && is_at (ahead.Punct Dollar) n

unfoldable pub value_with : (constant : Bool) → (list_at object_at : Parse PlacedTree) → Parse PlacedTree
value_with c list_at object_at = either is_bracket list_at (either is_brace object_at (either (is_variable c) variable_at literal_at))

unfoldable pub list_with : Parse PlacedTree → Parse PlacedTree
list_with value ts = do
  o ← punct_at OpenBracket ts
  vs ← all (until_punct CloseBracket) value o.1
  c ← punct_at CloseBracket vs.1
  Ok (record { at = o.0; value = list (elements_of vs.0) }, c.1)

unfoldable pub argument_with : Parse PlacedTree → Parse ArgumentTree
argument_with value ts = do
  n ← name_at ts
  c ← punct_at Colon n.1
  v ← value c.1
  Ok (record { at = n.0.0; name = n.0.1; value = v.0 }, v.1)

unfoldable pub object_with : Parse PlacedTree → Parse PlacedTree
object_with value ts = do
  o ← punct_at OpenBrace ts
  ms ← all (until_punct CloseBrace) (argument_with value) o.1
  c ← punct_at CloseBrace ms.1
  Ok (record { at = o.0; value = object (members_of ms.0) }, c.1)

-- a list and an object, where so many brackets may still open
unfoldable mutual
  pub list_at : (constant : Bool) → ℕ → Parse PlacedTree
  list_at c zero = λ ts. Err (too_deep_or_unexpected OpenBracket ts)
  list_at c (suc n) = list_with (value_with c (list_at c n) (object_at c n))

  pub object_at : (constant : Bool) → ℕ → Parse PlacedTree
  object_at c zero = λ ts. Err (too_deep_or_unexpected OpenBrace ts)
  object_at c (suc n) = object_with (value_with c (list_at c n) (object_at c n))

abbrev pub value_at : (constant : Bool) → ℕ → Parse PlacedTree
value_at c n = value_with c (list_at c n) (object_at c n)

abbrev pub argument_at : (constant : Bool) → ℕ → Parse ArgumentTree
argument_at c n = argument_with (value_at c n)

-- arguments in parentheses
unfoldable pub listed_at : (constant : Bool) → ℕ → Parse (List ArgumentTree)
listed_at c n ts = do
  o ← punct_at OpenParenthesis ts
  more ← some (until_punct CloseParenthesis) (argument_at c n) o.1
  e ← punct_at CloseParenthesis more.1
  Ok (more.0, e.1)

unfoldable pub arguments_at : (constant : Bool) → ℕ → Parse (List ArgumentTree)
arguments_at c n = either (is_at (ahead.Punct OpenParenthesis)) (listed_at c n) (λ ts. Ok ([], ts))

unfoldable pub directive_at : (constant : Bool) → ℕ → Parse DirectiveTree
directive_at c n ts = do
  a ← punct_at At ts
  m ← name_at a.1
  more ← arguments_at c n m.1
  Ok (record { at = a.0; name = m.0.1; args = more.0 }, more.1)

abbrev pub directives_at : (constant : Bool) → ℕ → Parse (List DirectiveTree)
directives_at c n = all (is_at (ahead.Punct At)) (directive_at c n)
