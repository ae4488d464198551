-- Comparing what stands next.
use Rattle.std.proofs.Common.{◌≡◌, ℕ, nat_eq, refl, ap, ◌∙◌}
use denote.Enum.Declared.{tag_of}
use Rattle.hq_gql_lexer.specs.declared.token.Punct.{Punct}
use Rattle.hq_gql_lexer.specs.declared.token.Punct.TheVariants as punct
use Rattle.hq_gql_lexer.specs.contracts.token.Punct as punct_type
use Rattle.hq_gql_parser.specs.declared.keyword.Keyword.{Keyword}
use Rattle.hq_gql_parser.specs.declared.keyword.Keyword.TheVariants as keyword
use Rattle.hq_gql_parser.specs.contracts.keyword.Keyword as keyword_type
use Rattle.hq_gql_parser.specs.declared.lookahead.Lookahead.{Lookahead}
use Rattle.hq_gql_parser.specs.declared.lookahead.Lookahead.TheVariants as ahead
use Rattle.hq_gql_parser.specs.contracts.lookahead.LookaheadPartialEq.TheImpl as derived
use Rattle.hq_gql_parser.specs.Lookahead.{punct_number, keyword_number, is_at}

-- a variant's tag is its number
pub punct_tag : (p : Punct) → tag_of punct_type.the_type p ≡ punct_number p
punct_tag punct.Bang = refl
punct_tag punct.Dollar = refl
punct_tag punct.Ampersand = refl
punct_tag punct.OpenParenthesis = refl
punct_tag punct.CloseParenthesis = refl
punct_tag punct.Spread = refl
punct_tag punct.Colon = refl
punct_tag punct.Equals = refl
punct_tag punct.At = refl
punct_tag punct.OpenBracket = refl
punct_tag punct.CloseBracket = refl
punct_tag punct.OpenBrace = refl
punct_tag punct.Pipe = refl
punct_tag punct.CloseBrace = refl

pub keyword_tag : (w : Keyword) → tag_of keyword_type.the_type w ≡ keyword_number w
keyword_tag keyword.Query = refl
keyword_tag keyword.Mutation = refl
keyword_tag keyword.Subscription = refl
keyword_tag keyword.Fragment = refl
keyword_tag keyword.On = refl
keyword_tag keyword.True = refl
keyword_tag keyword.False = refl
keyword_tag keyword.Null = refl

pub same : (a b c d : ℕ) → a ≡ c → b ≡ d → nat_eq a b ≡ nat_eq c d
same a b c d e f = ap (λ k. nat_eq k b) e ∙ ap (nat_eq c) f

-- the derived `==` is the test
pub eq_is : (a b : Lookahead) → derived.eq-value.it a b ≡ is_at b a
unfolding is_at
eq_is ahead.End ahead.End = refl
eq_is ahead.End (ahead.Punct q) = refl
eq_is ahead.End (ahead.Keyword v) = refl
eq_is ahead.End ahead.Name = refl
eq_is ahead.End ahead.Int = refl
eq_is ahead.End ahead.Float = refl
eq_is ahead.End ahead.Str = refl
eq_is (ahead.Punct p) ahead.End = refl
eq_is (ahead.Punct p) (ahead.Punct q) = same _ _ _ _ (punct_tag p) (punct_tag q)
eq_is (ahead.Punct p) (ahead.Keyword v) = refl
eq_is (ahead.Punct p) ahead.Name = refl
eq_is (ahead.Punct p) ahead.Int = refl
eq_is (ahead.Punct p) ahead.Float = refl
eq_is (ahead.Punct p) ahead.Str = refl
eq_is (ahead.Keyword w) ahead.End = refl
eq_is (ahead.Keyword w) (ahead.Punct q) = refl
eq_is (ahead.Keyword w) (ahead.Keyword v) = same _ _ _ _ (keyword_tag w) (keyword_tag v)
eq_is (ahead.Keyword w) ahead.Name = refl
eq_is (ahead.Keyword w) ahead.Int = refl
eq_is (ahead.Keyword w) ahead.Float = refl
eq_is (ahead.Keyword w) ahead.Str = refl
eq_is ahead.Name ahead.End = refl
eq_is ahead.Name (ahead.Punct q) = refl
eq_is ahead.Name (ahead.Keyword v) = refl
eq_is ahead.Name ahead.Name = refl
eq_is ahead.Name ahead.Int = refl
eq_is ahead.Name ahead.Float = refl
eq_is ahead.Name ahead.Str = refl
eq_is ahead.Int ahead.End = refl
eq_is ahead.Int (ahead.Punct q) = refl
eq_is ahead.Int (ahead.Keyword v) = refl
eq_is ahead.Int ahead.Name = refl
eq_is ahead.Int ahead.Int = refl
eq_is ahead.Int ahead.Float = refl
eq_is ahead.Int ahead.Str = refl
eq_is ahead.Float ahead.End = refl
eq_is ahead.Float (ahead.Punct q) = refl
eq_is ahead.Float (ahead.Keyword v) = refl
eq_is ahead.Float ahead.Name = refl
eq_is ahead.Float ahead.Int = refl
eq_is ahead.Float ahead.Float = refl
eq_is ahead.Float ahead.Str = refl
eq_is ahead.Str ahead.End = refl
eq_is ahead.Str (ahead.Punct q) = refl
eq_is ahead.Str (ahead.Keyword v) = refl
eq_is ahead.Str ahead.Name = refl
eq_is ahead.Str ahead.Int = refl
eq_is ahead.Str ahead.Float = refl
eq_is ahead.Str ahead.Str = refl
