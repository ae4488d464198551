-- Parsing operations, fragments and documents.
use Rattle.std.specs.Prelude.{ℕ, true, false, List, [], Option, Some, None, Ok}
use Rattle.hq_base.specs.Due.{◌>>=◌}
use Rattle.hq_gql_lexer.specs.declared.token.Punct.TheVariants.{Dollar, OpenParenthesis, CloseParenthesis, Colon, Equals, OpenBrace}
use Rattle.hq_gql_tree.specs.declared.document.OpKind.{OpKind}
use Rattle.hq_gql_tree.specs.declared.document.OpKind.TheVariants.{Query, Mutation, Subscription}
use Rattle.hq_gql_tree.specs.Values.{PlacedTree}
use Rattle.hq_gql_tree.specs.Selections.{selections_of}
use Rattle.hq_gql_tree.specs.Documents.{VarDefTree, DefinitionTree, operation, fragment}
use Rattle.hq_gql_parser.specs.declared.keyword.Keyword.TheVariants as keyword
use Rattle.hq_gql_parser.specs.declared.lookahead.Lookahead.TheVariants as ahead
use Rattle.hq_gql_parser.specs.Lookahead.{is_at, is_name}
use Rattle.hq_gql_parser.specs.Operations.{kind_keyword}
use Rattle.hq_gql_parser.specs.Parsing.{Parse, punct_at, name_at, keyword_at, fragment_name_at, either, some, until, until_punct}
use Rattle.hq_gql_parser.specs.ParsingValues.{value_at, directives_at}
use Rattle.hq_gql_parser.specs.ParsingTypes.{type_at}
use Rattle.hq_gql_parser.specs.ParsingSelections.{condition_at, set_at}

unfoldable pub default_at : ℕ → Parse (Option PlacedTree)
default_at n = either (is_at (ahead.Punct Equals)) (λ ts. punct_at Equals ts >>= λ e. value_at true n e.1 >>= λ v. Ok (Some v.0, v.1)) (λ ts. Ok (None, ts))

unfoldable pub variable_definition_at : ℕ → Parse VarDefTree
variable_definition_at n ts = do
  o ← punct_at Dollar ts
  m ← name_at o.1
  c ← punct_at Colon m.1
  t ← type_at n c.1
  v ← default_at n t.1
  d ← directives_at true n v.1
  Ok (record { at = o.0; name = m.0.1; ty = t.0; default = v.0; directives = d.0 }, d.1)

-- definitions of variables in parentheses
unfoldable pub listed_variables_at : ℕ → Parse (List VarDefTree)
listed_variables_at n ts = do
  o ← punct_at OpenParenthesis ts
  vs ← some (until_punct CloseParenthesis) (variable_definition_at n) o.1
  c ← punct_at CloseParenthesis vs.1
  Ok (vs.0, c.1)

unfoldable pub variables_at : ℕ → Parse (List VarDefTree)
variables_at n = either (is_at (ahead.Punct OpenParenthesis)) (listed_variables_at n) (λ ts. Ok ([], ts))

unfoldable pub some_name_at : Parse (Option (List ℕ))
some_name_at = either is_name (λ ts. name_at ts >>= λ n. Ok (Some n.0.1, n.1)) (λ ts. Ok (None, ts))

-- an operation that begins with the keyword of this kind
unfoldable pub operation_with : ℕ → OpKind → Parse DefinitionTree
operation_with n k ts = do
  w ← keyword_at (kind_keyword k) ts
  m ← some_name_at w.1
  vs ← variables_at n m.1
  d ← directives_at false n vs.1
  s ← set_at n d.1
  Ok (operation (record { at = w.0; kind = k; name = m.0; vars = vs.0; directives = d.0; selections = selections_of s.0.1 }), s.1)

unfoldable pub shorthand_at : ℕ → Parse DefinitionTree
shorthand_at n ts = set_at n ts >>= λ s. Ok (operation (record { at = s.0.0; kind = Query; name = None; vars = []; directives = []; selections = selections_of s.0.1 }), s.1)

unfoldable pub fragment_at : ℕ → Parse DefinitionTree
fragment_at n ts = do
  w ← keyword_at keyword.Fragment ts
  m ← fragment_name_at w.1
  c ← condition_at m.1
  d ← directives_at false n c.1
  s ← set_at n d.1
  Ok (fragment (record { at = w.0; name = m.0; cond = c.0; directives = d.0; selections = selections_of s.0.1 }), s.1)

unfoldable pub definition_at : ℕ → Parse DefinitionTree
definition_at n =
    either (is_at (ahead.Punct OpenBrace)) (shorthand_at n)
    (either (is_at (ahead.Keyword keyword.Fragment)) (fragment_at n)
    (either (is_at (ahead.Keyword keyword.Mutation)) (operation_with n Mutation)
    (either (is_at (ahead.Keyword keyword.Subscription)) (operation_with n Subscription) (operation_with n Query))))

-- one definition, and more up to the end
abbrev pub document_at : ℕ → Parse (List DefinitionTree)
document_at n = some (until ahead.End) (definition_at n)
