-- Parsing selections.
use Rattle.std.specs.Prelude.{ℕ, zero, suc, false, List, [], Option, Some, None, Ok, Err}
use Rattle.hq_base.specs.Due.{◌>>=◌}
use Rattle.hq_gql_lexer.specs.declared.token.Punct.TheVariants.{Spread, Colon, OpenBrace, CloseBrace}
use Rattle.hq_gql_tree.specs.declared.selection.TypeCond.{TypeCond}
use Rattle.hq_gql_tree.specs.Selections.{SelectionTree, field, spread, inline, selections_of}
use Rattle.hq_gql_parser.specs.declared.keyword.Keyword.TheVariants as keyword
use Rattle.hq_gql_parser.specs.declared.lookahead.Lookahead.TheVariants as ahead
use Rattle.hq_gql_parser.specs.Lookahead.{is_at, is_fragment_name}
use Rattle.hq_gql_parser.specs.Parsing.{Parse, punct_at, name_at, keyword_at, fragment_name_at, too_deep_or_unexpected, either, some, until_punct}
use Rattle.hq_gql_parser.specs.ParsingValues.{arguments_at, directives_at}

-- a place, an alias if there is one, and a name
abbrev pub Head : Type 0
Head = ℕ × Option (List ℕ) × List ℕ

-- behind a first name: a colon and the field's name, or nothing
unfoldable pub alias_at : ℕ × List ℕ → Parse Head
alias_at n = either (is_at (ahead.Punct Colon))
    (λ ts. punct_at Colon ts >>= λ c. name_at c.1 >>= λ m. Ok ((n.0, Some n.1, m.0.1), m.1)) (λ ts. Ok ((n.0, None, n.1), ts))

unfoldable pub head_at : Parse Head
head_at ts = name_at ts >>= λ n. alias_at n.0 n.1

-- a set in braces, with the place of its brace
abbrev pub SetParse : Type 0
SetParse = Parse (ℕ × List SelectionTree)

-- its selections, or none where there is no brace
unfoldable pub some_set_with : SetParse → Parse (List SelectionTree)
some_set_with set = either (is_at (ahead.Punct OpenBrace)) (λ ts. set ts >>= λ s. Ok (s.0.1, s.1)) (λ ts. Ok ([], ts))

unfoldable pub field_with : ℕ → SetParse → Parse SelectionTree
field_with n set ts = do
  h ← head_at ts
  a ← arguments_at false n h.1
  d ← directives_at false n a.1
  s ← some_set_with set d.1
  Ok (field (record { at = h.0.0; alias = h.0.1; name = h.0.2; args = a.0; directives = d.0 }) (selections_of s.0), s.1)

unfoldable pub condition_at : Parse TypeCond
condition_at ts = do
  o ← keyword_at keyword.On ts
  n ← name_at o.1
  Ok (record { at = o.0; name = n.0.1 }, n.1)

unfoldable pub some_condition_at : Parse (Option TypeCond)
some_condition_at = either (is_at (ahead.Keyword keyword.On)) (λ ts. condition_at ts >>= λ c. Ok (Some c.0, c.1)) (λ ts. Ok (None, ts))

-- behind the `...` of a spread
unfoldable pub spread_with : ℕ → (at : ℕ) → Parse SelectionTree
spread_with n at ts = do
  m ← fragment_name_at ts
  d ← directives_at false n m.1
  Ok (spread (record { at = at; name = m.0; directives = d.0 }), d.1)

-- behind the `...` of an inline fragment
unfoldable pub inline_with : ℕ → SetParse → (at : ℕ) → Parse SelectionTree
inline_with n set at ts = do
  c ← some_condition_at ts
  d ← directives_at false n c.1
  s ← set d.1
  Ok (inline (record { at = at; cond = c.0; directives = d.0 }) (selections_of s.0.1), s.1)

unfoldable pub fragment_with : ℕ → SetParse → Parse SelectionTree
fragment_with n set ts = punct_at Spread ts >>= λ o. either is_fragment_name (spread_with n o.0) (inline_with n set o.0) o.1

unfoldable pub selection_with : ℕ → SetParse → Parse SelectionTree
selection_with n set = either (is_at (ahead.Punct Spread)) (fragment_with n set) (field_with n set)

unfoldable pub set_with : Parse SelectionTree → SetParse
set_with item ts = do
  o ← punct_at OpenBrace ts
  s ← some (until_punct CloseBrace) item o.1
  c ← punct_at CloseBrace s.1
  Ok ((o.0, s.0), c.1)

-- a set, where so many brackets may still open
unfoldable pub set_at : ℕ → SetParse
set_at zero = λ ts. Err (too_deep_or_unexpected OpenBrace ts)
set_at (suc n) = set_with (selection_with n (set_at n))

abbrev pub selection_at : ℕ → Parse SelectionTree
selection_at n = selection_with n (set_at n)
