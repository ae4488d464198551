-- Sets of what may stand next, and their inclusions by computing.
use Rattle.std.proofs.Common.{◌≡◌, ℕ, zero, suc, Bool, true, false, ◌||◌, List, [], ◌∷◌, ◌++◌, Option, Some, None, refl, if◌then◌else◌}
use Rattle.hq_gql_lexer.specs.declared.token.Punct.TheVariants as punct
use Rattle.hq_gql_lexer.specs.declared.token.Token.{Token}
use Rattle.hq_gql_lexer.specs.declared.token.TokenKind.{TokenKind}
use Rattle.hq_gql_lexer.specs.declared.token.TokenKind.TheVariants as kind
use Rattle.hq_gql_parser.specs.declared.keyword.Keyword.{Keyword}
use Rattle.hq_gql_parser.specs.declared.keyword.Keyword.TheVariants as keyword
use Rattle.hq_gql_parser.specs.declared.lookahead.Lookahead.{Lookahead}
use Rattle.hq_gql_parser.specs.declared.lookahead.Lookahead.TheVariants as ahead
use Rattle.hq_gql_parser.specs.Lookahead.{next_of, named, keyword_of, next}

abbrev pub Set : Type 0
Set = Lookahead → Bool

abbrev pub everything : List Lookahead
everything =
    ahead.End ∷ ahead.Name ∷ ahead.Int ∷ ahead.Float ∷ ahead.Str
    ∷ ahead.Punct punct.Bang ∷ ahead.Punct punct.Dollar ∷ ahead.Punct punct.Ampersand ∷ ahead.Punct punct.OpenParenthesis ∷ ahead.Punct punct.CloseParenthesis
    ∷ ahead.Punct punct.Spread ∷ ahead.Punct punct.Colon ∷ ahead.Punct punct.Equals ∷ ahead.Punct punct.At ∷ ahead.Punct punct.OpenBracket
    ∷ ahead.Punct punct.CloseBracket ∷ ahead.Punct punct.OpenBrace ∷ ahead.Punct punct.Pipe ∷ ahead.Punct punct.CloseBrace ∷ ahead.Keyword keyword.Query
    ∷ ahead.Keyword keyword.Mutation ∷ ahead.Keyword keyword.Subscription ∷ ahead.Keyword keyword.Fragment ∷ ahead.Keyword keyword.On ∷ ahead.Keyword keyword.True
    ∷ ahead.Keyword keyword.False ∷ ahead.Keyword keyword.Null ∷ []

abbrev pub holds : Set → List Lookahead → Bool
holds f [] = true
holds f (a ∷ more) = if f a then holds f more else false

abbrev pick : ℕ → List Lookahead → Option Lookahead
pick n [] = None
pick zero (a ∷ more) = Some a
pick (suc n) (a ∷ more) = pick n more

-- the first of a test's two parts holds, and so does the other
here : (b c : Bool) → (if b then c else false) ≡ true → b ≡ true
here true c e = refl
here false c e = absurd cc

later : (b c : Bool) → (if b then c else false) ≡ true → c ≡ true
later true c e = e
later false c e = absurd cc

holds_pick : (f : Set) (xs : List Lookahead) (n : ℕ) (a : Lookahead) → holds f xs ≡ true → pick n xs ≡ Some a → f a ≡ true
holds_pick f [] n a h e = absurd cc
holds_pick f (x ∷ xs) zero a h e = let same : x ≡ a = cc in rw (← same) (here (f x) (holds f xs) h)
holds_pick f (x ∷ xs) (suc n) a h e = holds_pick f xs n a (later (f x) (holds f xs) h) e

-- what holds of all that is listed holds everywhere
everywhere : (f : Set) → holds f everything ≡ true → (a : Lookahead) → f a ≡ true
everywhere f h ahead.End = holds_pick f everything 0 _ h refl
everywhere f h ahead.Name = holds_pick f everything 1 _ h refl
everywhere f h ahead.Int = holds_pick f everything 2 _ h refl
everywhere f h ahead.Float = holds_pick f everything 3 _ h refl
everywhere f h ahead.Str = holds_pick f everything 4 _ h refl
everywhere f h (ahead.Punct punct.Bang) = holds_pick f everything 5 _ h refl
everywhere f h (ahead.Punct punct.Dollar) = holds_pick f everything 6 _ h refl
everywhere f h (ahead.Punct punct.Ampersand) = holds_pick f everything 7 _ h refl
everywhere f h (ahead.Punct punct.OpenParenthesis) = holds_pick f everything 8 _ h refl
everywhere f h (ahead.Punct punct.CloseParenthesis) = holds_pick f everything 9 _ h refl
everywhere f h (ahead.Punct punct.Spread) = holds_pick f everything 10 _ h refl
everywhere f h (ahead.Punct punct.Colon) = holds_pick f everything 11 _ h refl
everywhere f h (ahead.Punct punct.Equals) = holds_pick f everything 12 _ h refl
everywhere f h (ahead.Punct punct.At) = holds_pick f everything 13 _ h refl
everywhere f h (ahead.Punct punct.OpenBracket) = holds_pick f everything 14 _ h refl
everywhere f h (ahead.Punct punct.CloseBracket) = holds_pick f everything 15 _ h refl
everywhere f h (ahead.Punct punct.OpenBrace) = holds_pick f everything 16 _ h refl
everywhere f h (ahead.Punct punct.Pipe) = holds_pick f everything 17 _ h refl
everywhere f h (ahead.Punct punct.CloseBrace) = holds_pick f everything 18 _ h refl
everywhere f h (ahead.Keyword keyword.Query) = holds_pick f everything 19 _ h refl
everywhere f h (ahead.Keyword keyword.Mutation) = holds_pick f everything 20 _ h refl
everywhere f h (ahead.Keyword keyword.Subscription) = holds_pick f everything 21 _ h refl
everywhere f h (ahead.Keyword keyword.Fragment) = holds_pick f everything 22 _ h refl
everywhere f h (ahead.Keyword keyword.On) = holds_pick f everything 23 _ h refl
everywhere f h (ahead.Keyword keyword.True) = holds_pick f everything 24 _ h refl
everywhere f h (ahead.Keyword keyword.False) = holds_pick f everything 25 _ h refl
everywhere f h (ahead.Keyword keyword.Null) = holds_pick f everything 26 _ h refl

abbrev pub implied : Set → Set → Set
implied s t a = if s a then t a else true

-- the one set lies in the other
abbrev pub subset : Set → Set → Bool
subset s t = holds (implied s t) everything

taken : (b c : Bool) → (if b then c else true) ≡ true → b ≡ true → c ≡ true
taken true c e h = e
taken false c e h = absurd cc

pub within : (s t : Set) → subset s t ≡ true → (a : Lookahead) → s a ≡ true → t a ≡ true
within s t h a e = taken (s a) (t a) (everywhere (implied s t) h a) e

-- every set lies in itself
abbrev pub is_end : Set
is_end ahead.End = true
is_end (ahead.Punct p) = false
is_end (ahead.Keyword w) = false
is_end ahead.Name = false
is_end ahead.Int = false
is_end ahead.Float = false
is_end ahead.Str = false

abbrev pub anything : Set
anything a = true

abbrev pub union : Set → Set → Set
union s t a = s a || t a

-- What stands first in two parts, where the first begins in the one set and what follows it in the other. A part
-- that may be empty has the end in its set.
abbrev pub joined : Set → Set → Set
joined s t a = if is_end a then (if s ahead.End then t ahead.End else false) else (s a || (if s ahead.End then t a else false))

pub left_holds : (b c : Bool) → b ≡ true → (b || c) ≡ true
left_holds true c e = refl
left_holds false c e = absurd cc

pub right_holds : (b c : Bool) → c ≡ true → (b || c) ≡ true
right_holds true c e = refl
right_holds false c e = e

named_token : (w : Option Keyword) → is_end (named w) ≡ false
named_token None = refl
named_token (Some w) = refl

pub token_next : (k : TokenKind) → is_end (next_of k) ≡ false
token_next (kind.Punct p) = refl
token_next (kind.Name name) = named_token (keyword_of name)
token_next (kind.Int text) = refl
token_next (kind.Float text) = refl
token_next (kind.Str value) = refl

more_holds : (b c d : Bool) → c ≡ true → d ≡ true → (b || (if c then d else false)) ≡ true
more_holds b c d e h = right_holds b (if c then d else false) (rw e h)

joined_empty : (s t : Set) (a : Lookahead) → s ahead.End ≡ true → t a ≡ true → joined s t a ≡ true
joined_empty s t ahead.End e h = rw e h
joined_empty s t (ahead.Punct p) e h = more_holds (s (ahead.Punct p)) (s ahead.End) (t (ahead.Punct p)) e h
joined_empty s t (ahead.Keyword w) e h = more_holds (s (ahead.Keyword w)) (s ahead.End) (t (ahead.Keyword w)) e h
joined_empty s t ahead.Name e h = more_holds (s ahead.Name) (s ahead.End) (t ahead.Name) e h
joined_empty s t ahead.Int e h = more_holds (s ahead.Int) (s ahead.End) (t ahead.Int) e h
joined_empty s t ahead.Float e h = more_holds (s ahead.Float) (s ahead.End) (t ahead.Float) e h
joined_empty s t ahead.Str e h = more_holds (s ahead.Str) (s ahead.End) (t ahead.Str) e h

joined_token : (s t : Set) (a : Lookahead) → is_end a ≡ false → s a ≡ true → joined s t a ≡ true
joined_token s t a not_end e = rw not_end (left_holds (s a) (if s ahead.End then t a else false) e)

-- what stands first in both
pub first_in : (s t : Set) (front rest : List Token) → s (next front) ≡ true → t (next rest) ≡ true → joined s t (next (front ++ rest)) ≡ true
first_in s t [] rest e h = joined_empty s t (next rest) e h
first_in s t (x ∷ front) rest e h = joined_token s t (next_of x.kind) (token_next x.kind) e

-- ---- inclusions of any sets

pub holds_all : (f : Set) (xs : List Lookahead) → ((a : Lookahead) → f a ≡ true) → holds f xs ≡ true
holds_all f [] every = refl
holds_all f (a ∷ xs) every = rw (every a) (holds_all f xs every)

implied_self : (b : Bool) → (if b then b else true) ≡ true
implied_self true = refl
implied_self false = refl

implied_true : (b : Bool) → (if b then true else true) ≡ true
implied_true true = refl
implied_true false = refl

-- a set lies in itself
pub subset_self : (s : Set) → subset s s ≡ true
subset_self s = holds_all (implied s s) everything (λ a. implied_self (s a))

-- each set lies in the whole
pub subset_anything : (s : Set) → subset s anything ≡ true
subset_anything s = holds_all (implied s anything) everything (λ a. implied_true (s a))
