-- Parsing types.
use Rattle.std.specs.Prelude.{ℕ, zero, suc, Ok, Err}
use Rattle.hq_base.specs.Due.{◌>>=◌}
use Rattle.hq_gql_lexer.specs.declared.token.Punct.TheVariants.{Bang, OpenBracket, CloseBracket}
use Rattle.hq_gql_tree.specs.Types.{TypeTree, named, list, non_null}
use Rattle.hq_gql_parser.specs.declared.lookahead.Lookahead.TheVariants as ahead
use Rattle.hq_gql_parser.specs.Lookahead.{is_at}
use Rattle.hq_gql_parser.specs.Parsing.{Parse, punct_at, name_at, too_deep_or_unexpected, either}

-- a type without a `!` behind it, with its place
unfoldable pub named_type_at : Parse (ℕ × TypeTree)
named_type_at ts = name_at ts >>= λ n. Ok ((n.0.0, named n.0.0 n.0.1), n.1)

unfoldable pub nullable_with : Parse (ℕ × TypeTree) → Parse (ℕ × TypeTree)
nullable_with list_type = either (is_at (ahead.Punct OpenBracket)) list_type named_type_at

-- the type, or the one with a `!` behind it
unfoldable pub non_null_type_at : ℕ × TypeTree → Parse TypeTree
non_null_type_at t = either (is_at (ahead.Punct Bang)) (λ ts. punct_at Bang ts >>= λ b. Ok (non_null t.0 t.1, b.1)) (λ ts. Ok (t.1, ts))

unfoldable pub type_with : Parse (ℕ × TypeTree) → Parse TypeTree
type_with list_type ts = nullable_with list_type ts >>= λ t. non_null_type_at t.0 t.1

unfoldable pub list_type_with : Parse TypeTree → Parse (ℕ × TypeTree)
list_type_with type_of ts = do
  o ← punct_at OpenBracket ts
  t ← type_of o.1
  c ← punct_at CloseBracket t.1
  Ok ((o.0, list o.0 t.0), c.1)

-- a list type, where so many brackets may still open
unfoldable pub list_type_at : ℕ → Parse (ℕ × TypeTree)
list_type_at zero = λ ts. Err (too_deep_or_unexpected OpenBracket ts)
list_type_at (suc n) = list_type_with (type_with (list_type_at n))

abbrev pub type_at : ℕ → Parse TypeTree
type_at n = type_with (list_type_at n)
