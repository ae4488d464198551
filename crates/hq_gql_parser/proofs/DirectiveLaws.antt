-- The laws of the parsers of arguments and directives, and of lists in parentheses.
use Rattle.std.proofs.Common.{◌≡◌, ℕ, inl, inr, Bool, false, not, ◌&&◌, List, [], ◌∷◌, ◌++◌, refl, sym, subst}
use Rattle.hq_gql_lexer.specs.declared.token.Punct.TheVariants.{OpenParenthesis, CloseParenthesis, At}
use Rattle.hq_gql_lexer.specs.declared.token.Token.{Token}
use Rattle.hq_gql_parser.specs.declared.lookahead.Lookahead.TheVariants as ahead
use Rattle.hq_gql_parser.specs.Lookahead.{is_at, is_name}
use Rattle.hq_gql_parser.specs.Languages.{Language, InParentheses}
use Rattle.hq_gql_parser.specs.Values.{IsArgument, AreArguments, IsDirective, AreDirectives}
use Rattle.hq_gql_parser.specs.Parsing.{until_punct}
use Rattle.hq_gql_parser.specs.ParsingValues.{listed_at, arguments_at, directive_at, directives_at}
use Rattle.hq_gql_parser.proofs.Sets.{Set, is_end, union}
use Rattle.hq_gql_parser.proofs.Exact.{Exact, Chain, exact_then}
use Rattle.hq_gql_parser.proofs.Choices.{Only, exact_pure, Mapped, exact_map, Either, exact_either, exact_as}
use Rattle.hq_gql_parser.proofs.Items.{AtLeastOne, exact_some, exact_all}
use Rattle.hq_gql_parser.proofs.TokenLaws.{PunctAt, exact_punct, exact_name}
use Rattle.hq_gql_parser.proofs.ValueLaws.{law_argument}

-- ---- lists in parentheses

-- what a list in parentheses begins with, and what may follow it
abbrev pub is_parenthesis : Set
is_parenthesis = is_at (ahead.Punct OpenParenthesis)

abbrev pub no_parenthesis : Set
no_parenthesis = until_punct OpenParenthesis

-- one and more in parentheses
abbrev pub ListedIs : {A : Type 0} → (A → Language) → List A → Language
ListedIs R = Chain (PunctAt OpenParenthesis) (λ o. Chain (AtLeastOne R) (λ xs. Mapped (λ e. xs) (PunctAt CloseParenthesis)))

module _ {A : Type 0} (R : A → Language) where
  listed_parts : (xs ys : List A) (ts a b a' b' : List Token) (o e : ℕ) → ts ≡ a ++ b → PunctAt OpenParenthesis o a → b ≡ a' ++ b'
      → AtLeastOne R xs a' → ys ≡ xs → PunctAt CloseParenthesis e b' → InParentheses R ys ts
  listed_parts [] ys ts a b a' b' o e is r is' one same r' = absurd one
  listed_parts (x ∷ xs) ys ts a b a' b' o e is r is' one same r' = subst (λ zs. InParentheses R zs ts) (sym same) (a, b, is, (o, r), (a', b', is', one, (e, r')))

  pub listed_to : (ys : List A) (ts : List Token) → Either (ListedIs R) (Only []) ys ts → InParentheses R ys ts
  listed_to ys ts (inl (o, (a, b, is, r, (xs, (a', b', is', one, (e, same, r')))))) = listed_parts xs ys ts a b a' b' o e is r is' one same r'
  listed_to ys ts (inr (same, is)) = subst (λ zs. InParentheses R zs ts) (sym same) is

  pub listed_from : (ys : List A) (ts : List Token) → InParentheses R ys ts → Either (ListedIs R) (Only []) ys ts
  listed_from [] ts is = inr (refl, is)
  listed_from (y ∷ ys) ts (a, b, is, (o, r), (a', b', is', one, (e, r'))) = inl (o, (a, b, is, r, (y ∷ ys, (a', b', is', one, (e, refl, r')))))

-- ---- arguments

exact_listed : (c : Bool) (n : ℕ) → Exact n n (listed_at c n) (ListedIs (IsArgument c)) is_parenthesis no_parenthesis
unfolding listed_at is_at is_name
exact_listed c n =
    exact_as (ListedIs (IsArgument c)) is_parenthesis no_parenthesis
    (exact_then (exact_punct OpenParenthesis n n refl)
    (λ o. exact_then (exact_some (law_argument c n) refl (until_punct CloseParenthesis) (is_at (ahead.Punct CloseParenthesis)) refl refl refl refl refl refl)
    (λ xs. exact_map (λ e. xs) (exact_punct CloseParenthesis n n refl)) refl) refl)
    (λ v ts r. r) (λ v ts r. r) refl refl

pub law_arguments : (c : Bool) (n : ℕ) → Exact n n (arguments_at c n) (AreArguments c) (union is_parenthesis is_end) no_parenthesis
unfolding arguments_at is_at
law_arguments c n =
    exact_as (AreArguments c) (union is_parenthesis is_end) no_parenthesis
    (exact_either is_parenthesis (exact_listed c n) (exact_as (Only []) is_end no_parenthesis (exact_pure n []) (λ v ts r. r) (λ v ts r. r) refl refl) refl refl)
    (listed_to (IsArgument c)) (listed_from (IsArgument c)) refl refl

-- ---- directives

pub law_directive : (c : Bool) (n : ℕ) → Exact n n (directive_at c n) (IsDirective c) (is_at (ahead.Punct At)) no_parenthesis
unfolding directive_at is_at is_name
law_directive c n =
    exact_as (IsDirective c) (is_at (ahead.Punct At)) no_parenthesis
    (exact_then (exact_punct At n n refl) (λ a. exact_then (exact_name n) (λ m. exact_map (λ more. record { at = a; name = m.1; args = more }) (law_arguments c n)) refl) refl)
    (λ d ts (at, (a, b, is, r, (m, (a', b', is', r', (more, same, r''))))). subst (λ w. IsDirective c w ts) (sym same) (a, b, is, r, (a', b', is', (m.0, r'), r'')))
    (λ d ts (a, b, is, r, (a', b', is', (place, r'), r'')). (d.at, (a, b, is, r, ((place, d.name), (a', b', is', r', (d.args, refl, r''))))))
    refl refl

-- what may follow directives
abbrev pub no_directive : Set
no_directive a = not (is_at (ahead.Punct At) a) && no_parenthesis a

pub law_directives : (c : Bool) (n : ℕ) → Exact n n (directives_at c n) (AreDirectives c) (union (is_at (ahead.Punct At)) is_end) no_directive
unfolding is_at
law_directives c n = exact_all (law_directive c n) refl (is_at (ahead.Punct At)) no_directive refl refl refl refl

pub directive_takes : is_at (ahead.Punct At) ahead.End ≡ false
unfolding is_at
directive_takes = refl
