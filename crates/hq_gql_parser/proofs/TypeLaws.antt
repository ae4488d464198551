-- The laws of the parsers of types.
use Rattle.std.proofs.Common.{◌≡◌, ℕ, zero, suc, inl, inr, ◌||◌, List, [], ◌∷◌, ◌++◌, refl, sym, ap, subst, ◌∙◌}
use Rattle.std.proofs.lemmas.List.{append-nil}
use Rattle.hq_gql_lexer.specs.declared.token.Punct.TheVariants.{Bang, OpenBracket, CloseBracket}
use Rattle.hq_gql_lexer.specs.declared.token.Token.{Token}
use Rattle.hq_gql_lexer.specs.declared.token.TokenKind.TheVariants as kind
use Rattle.hq_gql_tree.specs.Types.{TypeTree, named, list, non_null}
use Rattle.hq_gql_parser.specs.declared.lookahead.Lookahead.TheVariants as ahead
use Rattle.hq_gql_parser.specs.Lookahead.{is_at, is_name}
use Rattle.hq_gql_parser.specs.Languages.{Language}
use Rattle.hq_gql_parser.specs.Types.{IsNullable, IsType}
use Rattle.hq_gql_parser.specs.Parsing.{Parse, until_punct}
use Rattle.hq_gql_parser.specs.ParsingTypes.{named_type_at, nullable_with, non_null_type_at, type_with, list_type_with, list_type_at, type_at}
use Rattle.hq_gql_parser.proofs.Sets.{Set, anything, is_end, union}
use Rattle.hq_gql_parser.proofs.Exact.{Begins, Exact, Chain, exact_then}
use Rattle.hq_gql_parser.proofs.Choices.{Only, exact_pure, Mapped, exact_map, Either, exact_either, exact_as, exact_stopped}
use Rattle.hq_gql_parser.proofs.TokenLaws.{token, PunctAt, exact_punct, punct_is, at_self, NameAt, exact_name}

-- a type without a `!`, with its place
abbrev NullableIs : ℕ × TypeTree → Language
NullableIs t = IsNullable t.0 t.1

-- what a type begins with, and what may follow it
abbrev pub is_type : Set
is_type a = is_name a || is_at (ahead.Punct OpenBracket) a

abbrev pub no_exclamation : Set
no_exclamation = until_punct Bang

abbrev NamedIs : ℕ × TypeTree → Language
NamedIs = Mapped (λ n. (n.0, named n.0 n.1)) NameAt

abbrev ListTypeIs : ℕ × TypeTree → Language
ListTypeIs = Chain (PunctAt OpenBracket) (λ o. Chain IsType (λ t. Mapped (λ e. (o, list o t)) (PunctAt CloseBracket)))

nullable_to : (t : ℕ × TypeTree) (ts : List Token) → Either ListTypeIs NamedIs t ts → NullableIs t ts
nullable_to t ts (inl (o, (a, b, is, r, (of, (a', b', is', r', (e, same, r'')))))) = subst (λ u. NullableIs u ts) (sym same) (refl, (a, b, is, r, (a', b', is', r', (e, r''))))
nullable_to t ts (inr (n, same, r)) = subst (λ u. NullableIs u ts) (sym same) (refl, r)

nullable_from : (at : ℕ) (t : TypeTree) (ts : List Token) → IsNullable at t ts → Either ListTypeIs NamedIs (at, t) ts
nullable_from at (named place name) ts (e, r) = inr ((place, name), ap (λ p. (p, named place name)) e, r)
nullable_from at (list place of) ts (e, (a, b, is, r, (a', b', is', r', (f, r'')))) = inl (place, (a, b, is, r, (of, (a', b', is', r', (f, ap (λ p. (p, list place of)) e, r'')))))
nullable_from at (non_null place of) ts r = absurd r

-- what stands behind a type without a `!`
abbrev NonNullTypeIs : ℕ × TypeTree → TypeTree → Language
NonNullTypeIs t = Either (Mapped (λ b. non_null t.0 t.1) (PunctAt Bang)) (Only t.1)

law_non_null_type : (n : ℕ) (t : ℕ × TypeTree) → Exact n n (non_null_type_at t) (NonNullTypeIs t) (union (is_at (ahead.Punct Bang)) is_end) no_exclamation
unfolding non_null_type_at is_at
law_non_null_type n t =
    exact_either (is_at (ahead.Punct Bang))
    (exact_as (Mapped (λ b. non_null t.0 t.1) (PunctAt Bang)) (is_at (ahead.Punct Bang)) no_exclamation
    (exact_map (λ b. non_null t.0 t.1) (exact_punct Bang n n refl)) (λ v ts r. r) (λ v ts r. r) refl refl)
    (exact_as (Only t.1) is_end no_exclamation (exact_pure n t.1) (λ v ts r. r) (λ v ts r. r) refl refl) refl refl

nullable_type : (at : ℕ) (t : TypeTree) (ts : List Token) → IsNullable at t ts → IsType t ts
nullable_type at (named place name) ts (e, r) = r
nullable_type at (list place of) ts (e, r) = r
nullable_type at (non_null place of) ts r = absurd r

type_to : (u : TypeTree) (ts : List Token) → Chain NullableIs NonNullTypeIs u ts → IsType u ts
type_to u ts (t, (a, b, is, r, inl (e, same, r'))) = subst (λ v. IsType v ts) (sym same) (a, b, is, r, (e, r'))
type_to u ts (t, (a, b, is, r, inr (same, none))) = subst (λ v. IsType v ts) (sym same) (subst (IsType t.1) (sym (is ∙ ap (λ us. a ++ us) none ∙ append-nil a)) (nullable_type t.0 t.1 a r))

type_from : (u : TypeTree) (ts : List Token) → IsType u ts → Chain NullableIs NonNullTypeIs u ts
type_from (named at name) ts r = ((at, named at name), (ts, [], sym (append-nil ts), (refl, r), inr (refl, refl)))
type_from (list at of) ts r = ((at, list at of), (ts, [], sym (append-nil ts), (refl, r), inr (refl, refl)))
type_from (non_null at of) ts (a, b, is, r, (e, r')) = ((at, of), (a, b, is, r, inl (e, refl, r')))

module _ (n : ℕ) (list_type : Parse (ℕ × TypeTree)) (law : Exact n n list_type ListTypeIs (is_at (ahead.Punct OpenBracket)) anything) where
  exact_nullable : Exact n n (nullable_with list_type) NullableIs is_type anything
  unfolding nullable_with named_type_at is_at is_name
  exact_nullable =
      exact_as NullableIs is_type anything
      (exact_either (is_at (ahead.Punct OpenBracket)) law (exact_map (λ m. (m.0, named m.0 m.1)) (exact_name n)) refl refl)
      nullable_to (λ t ts r. nullable_from t.0 t.1 ts r) refl refl

  exact_type : Exact n n (type_with list_type) IsType is_type no_exclamation
  unfolding type_with is_at is_name
  exact_type = exact_as IsType is_type no_exclamation (exact_then exact_nullable (law_non_null_type n) refl) type_to type_from refl refl

exact_list_type : (n : ℕ) (type_of : Parse TypeTree) → Exact n n type_of IsType is_type no_exclamation
    → Exact (suc n) (suc n) (list_type_with type_of) ListTypeIs (is_at (ahead.Punct OpenBracket)) anything
unfolding list_type_with is_at is_name
exact_list_type n type_of law =
    exact_as ListTypeIs (is_at (ahead.Punct OpenBracket)) anything
    (exact_then (exact_punct OpenBracket (suc n) n refl) (λ o. exact_then law (λ t. exact_map (λ e. (o, list o t)) (exact_punct CloseBracket n (suc n) refl)) refl) refl)
    (λ v ts r. r) (λ v ts r. r) refl refl

list_type_begins : (t : Token) → t.kind ≡ kind.Punct OpenBracket → Begins ListTypeIs (t ∷ [])
list_type_begins t e = (
  token 0 (kind.Name []) ∷ token 0 (kind.Punct CloseBracket) ∷ [],
  (t.from, list t.from (named 0 [])),
  (
    t.from,
    (
      t ∷ [],
      token 0 (kind.Name []) ∷ token 0 (kind.Punct CloseBracket) ∷ [],
      refl,
      (t.to, ap (λ k. record { from = t.from; to = t.to; kind = k } ∷ []) e),
      (named 0 [], (token 0 (kind.Name []) ∷ [], token 0 (kind.Punct CloseBracket) ∷ [], refl, (0, refl), (0, refl, (0, refl)))),
    ),
  ),
)

law_list_type : (n : ℕ) → Exact n n (list_type_at n) ListTypeIs (is_at (ahead.Punct OpenBracket)) anything
unfolding list_type_at
law_list_type zero =
    let b = list_type_begins (token 0 (kind.Punct OpenBracket)) refl in
    exact_stopped 0 OpenBracket ListTypeIs anything (b.1, (token 0 (kind.Punct OpenBracket) ∷ []) ++ b.0, b.2) list_type_begins
    (λ v front (o, (a, more, is, (to, e), r)). (record { from = o; to = to; kind = kind.Punct OpenBracket }, more, is ∙ ap (λ us. us ++ more) e, refl))
    refl (at_self OpenBracket) (λ t h. punct_is OpenBracket t.kind h)
law_list_type (suc n) = exact_list_type n (type_at n) (exact_type n (list_type_at n) (law_list_type n))

pub law_type : (n : ℕ) → Exact n n (type_at n) IsType is_type no_exclamation
law_type n = exact_type n (list_type_at n) (law_list_type n)
