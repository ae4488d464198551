-- What stands next: one token ahead, as far as the grammar looks at it.
use Rattle.std.specs.Prelude.{ℕ, Bool, true, false, nat_eq, bytes_eq, List, [], ◌∷◌, Option, Some, None, codes, if◌then◌else◌, ◌&&◌, not}
use Rattle.hq_gql_lexer.specs.declared.token.Punct.{Punct}
use Rattle.hq_gql_lexer.specs.declared.token.Punct.TheVariants as punct
use Rattle.hq_gql_lexer.specs.declared.token.Token.{Token}
use Rattle.hq_gql_lexer.specs.declared.token.TokenKind.{TokenKind}
use Rattle.hq_gql_lexer.specs.declared.token.TokenKind.TheVariants as kind
use Rattle.hq_gql_parser.specs.declared.keyword.Keyword.{Keyword}
use Rattle.hq_gql_parser.specs.declared.keyword.Keyword.TheVariants as keyword
use Rattle.hq_gql_parser.specs.declared.lookahead.Lookahead.{Lookahead}
use Rattle.hq_gql_parser.specs.declared.lookahead.Lookahead.TheVariants as ahead

-- the letters of a keyword (GraphQL October 2021, 2.3, 2.8, 2.9.3, 2.9.5)
unfoldable pub keyword_text : Keyword → List ℕ
keyword_text keyword.Query = codes "query"
keyword_text keyword.Mutation = codes "mutation"
keyword_text keyword.Subscription = codes "subscription"
keyword_text keyword.Fragment = codes "fragment"
keyword_text keyword.On = codes "on"
keyword_text keyword.True = codes "true"
keyword_text keyword.False = codes "false"
keyword_text keyword.Null = codes "null"

abbrev pub is_keyword : List ℕ → Keyword → Bool
is_keyword name w = bytes_eq name (keyword_text w)

-- all of them
abbrev pub keywords : List Keyword
keywords = keyword.Query ∷ keyword.Mutation ∷ keyword.Subscription ∷ keyword.Fragment ∷ keyword.On ∷ keyword.True ∷ keyword.False ∷ keyword.Null ∷ []

-- the first of these keywords that a name is
abbrev pub keyword_among : List Keyword → List ℕ → Option Keyword
keyword_among [] name = None
keyword_among (w ∷ ws) name = if is_keyword name w then Some w else keyword_among ws name

-- the keyword that a name is, if it is one
abbrev pub keyword_of : List ℕ → Option Keyword
keyword_of name = keyword_among keywords name

abbrev pub named : Option Keyword → Lookahead
named None = ahead.Name
named (Some w) = ahead.Keyword w

-- what a token is
abbrev pub next_of : TokenKind → Lookahead
next_of (kind.Punct p) = ahead.Punct p
next_of (kind.Name name) = named (keyword_of name)
next_of (kind.Int text) = ahead.Int
next_of (kind.Float text) = ahead.Float
next_of (kind.Str value) = ahead.Str

-- what the first token is
abbrev pub next : List Token → Lookahead
next [] = ahead.End
next (t ∷ ts) = next_of t.kind

-- each punctuator and each keyword by a number of its own
abbrev pub punct_number : Punct → ℕ
punct_number punct.Bang = 0
punct_number punct.Dollar = 1
punct_number punct.Ampersand = 2
punct_number punct.OpenParenthesis = 3
punct_number punct.CloseParenthesis = 4
punct_number punct.Spread = 5
punct_number punct.Colon = 6
punct_number punct.Equals = 7
punct_number punct.At = 8
punct_number punct.OpenBracket = 9
punct_number punct.CloseBracket = 10
punct_number punct.OpenBrace = 11
punct_number punct.Pipe = 12
punct_number punct.CloseBrace = 13

abbrev pub keyword_number : Keyword → ℕ
keyword_number keyword.Query = 0
keyword_number keyword.Mutation = 1
keyword_number keyword.Subscription = 2
keyword_number keyword.Fragment = 3
keyword_number keyword.On = 4
keyword_number keyword.True = 5
keyword_number keyword.False = 6
keyword_number keyword.Null = 7

abbrev pub next_number : Lookahead → ℕ
next_number ahead.End = 0
next_number (ahead.Punct p) = 1
next_number (ahead.Keyword w) = 2
next_number ahead.Name = 3
next_number ahead.Int = 4
next_number ahead.Float = 5
next_number ahead.Str = 6

-- whether this stands next
unfoldable pub is_at : Lookahead → Lookahead → Bool
is_at ahead.End n = nat_eq (next_number n) 0
is_at (ahead.Punct p) ahead.End = false
is_at (ahead.Punct p) (ahead.Punct q) = nat_eq (punct_number q) (punct_number p)
is_at (ahead.Punct p) (ahead.Keyword w) = false
is_at (ahead.Punct p) ahead.Name = false
is_at (ahead.Punct p) ahead.Int = false
is_at (ahead.Punct p) ahead.Float = false
is_at (ahead.Punct p) ahead.Str = false
is_at (ahead.Keyword v) ahead.End = false
is_at (ahead.Keyword v) (ahead.Punct p) = false
is_at (ahead.Keyword v) (ahead.Keyword w) = nat_eq (keyword_number w) (keyword_number v)
is_at (ahead.Keyword v) ahead.Name = false
is_at (ahead.Keyword v) ahead.Int = false
is_at (ahead.Keyword v) ahead.Float = false
is_at (ahead.Keyword v) ahead.Str = false
is_at ahead.Name n = nat_eq (next_number n) 3
is_at ahead.Int n = nat_eq (next_number n) 4
is_at ahead.Float n = nat_eq (next_number n) 5
is_at ahead.Str n = nat_eq (next_number n) 6

-- any name, and any but `on`
unfoldable pub is_name : Lookahead → Bool
is_name ahead.End = false
is_name (ahead.Punct p) = false
is_name (ahead.Keyword w) = true
is_name ahead.Name = true
is_name ahead.Int = false
is_name ahead.Float = false
is_name ahead.Str = false

unfoldable pub is_fragment_name : Lookahead → Bool
is_fragment_name n = is_name n && not (is_at (ahead.Keyword keyword.On) n)
