-- The laws of the parsers of one token.
use Rattle.std.proofs.Common.{◌≡◌, ℕ, Bool, true, false, not, nat_eq, List, [], ◌∷◌, Option, Some, None, bytes_eq, refl, sym, ap, subst, ◌∙◌, if◌then◌else◌}
use Rattle.std.proofs.lemmas.Slice.Eq.{bytes_eq-Decides}
use denote.Enum.Bare.{same_true, true_same}
use Rattle.hq_gql_lexer.specs.declared.token.Punct.{Punct}
use Rattle.hq_gql_lexer.specs.contracts.token.Punct as punct_type
use Rattle.hq_gql_lexer.specs.declared.token.Token.{Token}
use Rattle.hq_gql_lexer.specs.declared.token.TokenKind.{TokenKind}
use Rattle.hq_gql_lexer.specs.declared.token.TokenKind.TheVariants as kind
use Rattle.hq_gql_tree.specs.Values.{int, PlacedTree}
use Rattle.hq_gql_parser.specs.declared.keyword.Keyword.{Keyword}
use Rattle.hq_gql_parser.specs.declared.keyword.Keyword.TheVariants as keyword
use Rattle.hq_gql_parser.specs.declared.lookahead.Lookahead.TheVariants as ahead
use Rattle.hq_gql_parser.specs.Lookahead.{keyword_text, is_keyword, keyword_among, keywords, keyword_of, named, next_of, punct_number, is_at, is_name, is_fragment_name}
use Rattle.hq_gql_parser.specs.Languages.{Language, IsToken}
use Rattle.hq_gql_parser.specs.Selections.{IsFragmentName}
use Rattle.hq_gql_parser.specs.Documents.{left_behind, left_behind_punct}
use Rattle.hq_gql_parser.specs.Parsing.{punct_use, punct_at, name_of, with_place, name_use, name_at, keyword_use_of, keyword_use, keyword_at, fragment_use_of, fragment_use, fragment_name_at}
use Rattle.hq_gql_parser.specs.ParsingValues.{literal_of, placed_at, literal_use, literal_at}
use Rattle.hq_gql_parser.proofs.LookaheadLemmas.{punct_tag, same}
use Rattle.hq_gql_parser.proofs.Sets.{Set, anything, subset_self, subset_anything}
use Rattle.hq_gql_parser.proofs.Exact.{Exact}
use Rattle.hq_gql_parser.proofs.Choices.{OfUse, exact_take, exact_as}

-- the token of this place and kind
abbrev pub token : (at : ℕ) → TokenKind → Token
token at k = record { from = at; to = 0; kind = k }

-- what a test gives, it gives where the test holds
given : {A : Type 0} (b : Bool) (x y : A) → (if b then Some x else None) ≡ Some y → (b ≡ true) × (x ≡ y)
given true x y e = (refl, cc)
given false x y e = absurd cc

-- ---- punctuators

punct_same : (p q : Punct) → nat_eq (punct_number q) (punct_number p) ≡ true → q ≡ p
punct_same p q e = same_true punct_type.the_type tt q p (same _ _ _ _ (punct_tag q) (punct_tag p) ∙ e)

punct_self : (p : Punct) → nat_eq (punct_number p) (punct_number p) ≡ true
punct_self p = sym (same _ _ _ _ (punct_tag p) (punct_tag p)) ∙ true_same punct_type.the_type p p refl

pub at_self : (p : Punct) → is_at (ahead.Punct p) (ahead.Punct p) ≡ true
unfolding is_at
at_self p = punct_self p

named_punct : (p : Punct) (w : Option Keyword) → is_at (ahead.Punct p) (named w) ≡ true → ⊥
unfolding is_at
named_punct p None e = absurd cc
named_punct p (Some w) e = absurd cc

pub punct_is : (p : Punct) (k : TokenKind) → is_at (ahead.Punct p) (next_of k) ≡ true → k ≡ kind.Punct p
unfolding is_at
punct_is p (kind.Punct q) e = ap kind.Punct (punct_same p q e)
punct_is p (kind.Name name) e = absurd (named_punct p (keyword_of name) e)
punct_is p (kind.Int text) e = absurd cc
punct_is p (kind.Float text) e = absurd cc
punct_is p (kind.Str value) e = absurd cc

abbrev pub PunctAt : Punct → ℕ → Language
PunctAt p at = IsToken at (kind.Punct p)

module _ (p : Punct) where
  used : (t : Token) (at : ℕ) → punct_use p t ≡ Some at → (t.kind ≡ kind.Punct p) × (t.from ≡ at)
  used t at e = let g = given (is_at (ahead.Punct p) (next_of t.kind)) t.from at e in (punct_is p t.kind g.0, g.1)

  use_self : (t : Token) → t.kind ≡ kind.Punct p → punct_use p t ≡ Some t.from
  use_self t e = let h : is_at (ahead.Punct p) (next_of t.kind) ≡ true = ap (λ k. is_at (ahead.Punct p) (next_of k)) e ∙ at_self p in rw h refl

  punct_to : (at : ℕ) (ts : List Token) → OfUse (punct_use p) at ts → PunctAt p at ts
  punct_to at ts (t, is, e) =
      let u = used t at e in (t.to, is ∙ ap (λ k. record { from = t.from; to = t.to; kind = k } ∷ []) u.0 ∙ ap (λ n. record { from = n; to = t.to; kind = kind.Punct p } ∷ []) u.1)

  punct_from : (at : ℕ) (ts : List Token) → PunctAt p at ts → OfUse (punct_use p) at ts
  punct_from at ts (to, is) = (record { from = at; to = to; kind = kind.Punct p }, is, use_self (record { from = at; to = to; kind = kind.Punct p }) refl)

  pub exact_punct : (d e : ℕ) → left_behind_punct p d ≡ Some e → Exact d e (punct_at p) (PunctAt p) (is_at (ahead.Punct p)) anything
  unfolding punct_at
  exact_punct d e brackets_left =
      exact_as (PunctAt p) (is_at (ahead.Punct p)) anything
      (exact_take d e (punct_use p) (is_at (ahead.Punct p)) (λ t at h. (given (is_at (ahead.Punct p) (next_of t.kind)) t.from at h).0)
      (λ t at h. ap (λ k. left_behind k d) (used t at h).0 ∙ brackets_left)
      (token 0 (kind.Punct p), 0, use_self (token 0 (kind.Punct p)) refl))
      punct_to punct_from (subset_self (is_at (ahead.Punct p))) (subset_anything anything)

-- ---- names

name_used : (k : TokenKind) (at : ℕ) (x : ℕ × List ℕ) → with_place at (name_of k) ≡ Some x → (k ≡ kind.Name x.1) × (at ≡ x.0)
name_used (kind.Punct p) at x e = absurd cc
name_used (kind.Name name) at x e = let s : (at, name) ≡ x = cc in (ap (λ y. kind.Name y.1) s, ap (λ y. y.0) s)
name_used (kind.Int text) at x e = absurd cc
name_used (kind.Float text) at x e = absurd cc
name_used (kind.Str value) at x e = absurd cc

abbrev pub NameAt : ℕ × List ℕ → Language
NameAt n = IsToken n.0 (kind.Name n.1)

named_name : (w : Option Keyword) → is_name (named w) ≡ true
unfolding is_name
named_name None = refl
named_name (Some w) = refl

name_to : (n : ℕ × List ℕ) (ts : List Token) → OfUse name_use n ts → NameAt n ts
name_to n ts (t, is, e) =
    let u = name_used t.kind t.from n e in (t.to, is ∙ ap (λ k. record { from = t.from; to = t.to; kind = k } ∷ []) u.0 ∙ ap (λ a. record { from = a; to = t.to; kind = kind.Name n.1 } ∷ []) u.1)

pub exact_name : (d : ℕ) → Exact d d name_at NameAt is_name anything
unfolding name_at
exact_name d =
    exact_as NameAt is_name anything
    (exact_take d d name_use is_name
    (λ t n h. subst (λ k. is_name (next_of k) ≡ true) (sym (name_used t.kind t.from n h).0) (named_name (keyword_of n.1)))
    (λ t n h. ap (λ k. left_behind k d) (name_used t.kind t.from n h).0) (token 0 (kind.Name []), (0, []), refl))
    name_to (λ n ts (to, is). (record { from = n.0; to = to; kind = kind.Name n.1 }, is, refl)) (subset_self is_name) (subset_anything anything)

-- ---- keywords

same_text : (a b : List ℕ) → bytes_eq a b ≡ true → a ≡ b
same_text a b e = (bytes_eq-Decides a b).0 e

pub text_self : (a : List ℕ) → bytes_eq a a ≡ true
text_self a = (bytes_eq-Decides a a).1 refl

keyword_used : (w : Keyword) (k : TokenKind) (at x : ℕ) → keyword_use_of w at (name_of k) ≡ Some x → (k ≡ kind.Name (keyword_text w)) × (at ≡ x)
keyword_used w (kind.Punct p) at x e = absurd cc
keyword_used w (kind.Name name) at x e = let g = given (is_keyword name w) at x e in (ap kind.Name (same_text name (keyword_text w) g.0), g.1)
keyword_used w (kind.Int text) at x e = absurd cc
keyword_used w (kind.Float text) at x e = absurd cc
keyword_used w (kind.Str value) at x e = absurd cc

abbrev pub WordAt : Keyword → ℕ → Language
WordAt w at = IsToken at (kind.Name (keyword_text w))

keyword_next : (w : Keyword) → is_at (ahead.Keyword w) (next_of (kind.Name (keyword_text w))) ≡ true
unfolding is_at keyword_text
keyword_next keyword.Query = refl
keyword_next keyword.Mutation = refl
keyword_next keyword.Subscription = refl
keyword_next keyword.Fragment = refl
keyword_next keyword.On = refl
keyword_next keyword.True = refl
keyword_next keyword.False = refl
keyword_next keyword.Null = refl

keyword_self : (w : Keyword) (at : ℕ) → keyword_use_of w at (Some (keyword_text w)) ≡ Some at
keyword_self w at = rw (text_self (keyword_text w)) refl

keyword_to : (w : Keyword) (at : ℕ) (ts : List Token) → OfUse (keyword_use w) at ts → WordAt w at ts
keyword_to w at ts (t, is, e) =
    let u = keyword_used w t.kind t.from at e in
    (t.to, is ∙ ap (λ k. record { from = t.from; to = t.to; kind = k } ∷ []) u.0 ∙ ap (λ a. record { from = a; to = t.to; kind = kind.Name (keyword_text w) } ∷ []) u.1)

pub exact_keyword : (w : Keyword) (d : ℕ) → Exact d d (keyword_at w) (WordAt w) (is_at (ahead.Keyword w)) anything
unfolding keyword_at
exact_keyword w d =
    exact_as (WordAt w) (is_at (ahead.Keyword w)) anything
    (exact_take d d (keyword_use w) (is_at (ahead.Keyword w))
    (λ t at h. subst (λ k. is_at (ahead.Keyword w) (next_of k) ≡ true) (sym (keyword_used w t.kind t.from at h).0) (keyword_next w))
    (λ t at h. ap (λ k. left_behind k d) (keyword_used w t.kind t.from at h).0)
    (token 0 (kind.Name (keyword_text w)), 0, keyword_self w 0))
    (keyword_to w) (λ at ts (to, is). (record { from = at; to = to; kind = kind.Name (keyword_text w) }, is, keyword_self w at)) (subset_self (is_at (ahead.Keyword w))) (subset_anything anything)

-- ---- names of fragments

abbrev chosen : Bool → Keyword → Option Keyword → Option Keyword
chosen b v more = if b then Some v else more

among_by : (v w : Keyword) (name : List ℕ) (more : Option Keyword) (b : Bool) → is_keyword name v ≡ b → (more ≡ Some w → is_keyword name w ≡ true) → chosen b v more ≡ Some w → is_keyword name w ≡ true
among_by v w name more true is again e = let same : v ≡ w = cc in subst (λ u. is_keyword name u ≡ true) same is
among_by v w name more false is again e = again e

among_is : (ws : List Keyword) (name : List ℕ) (w : Keyword) → keyword_among ws name ≡ Some w → is_keyword name w ≡ true
among_is [] name w e = absurd cc
among_is (v ∷ ws) name w e = among_by v w name (keyword_among ws name) (is_keyword name v) refl (λ h. among_is ws name w h) e

not_on : (name : List ℕ) (w : Option Keyword) → keyword_of name ≡ w → is_keyword name keyword.On ≡ false → is_fragment_name (named w) ≡ true
unfolding is_fragment_name is_name is_at
not_on name None e h = refl
not_on name (Some keyword.Query) e h = refl
not_on name (Some keyword.Mutation) e h = refl
not_on name (Some keyword.Subscription) e h = refl
not_on name (Some keyword.Fragment) e h = refl
not_on name (Some keyword.On) e h = let yes : is_keyword name keyword.On ≡ true = among_is keywords name keyword.On e in let wrong : true ≡ false = sym yes ∙ h in absurd cc
not_on name (Some keyword.True) e h = refl
not_on name (Some keyword.False) e h = refl
not_on name (Some keyword.Null) e h = refl

not_true : (b : Bool) → not b ≡ true → b ≡ false
not_true true e = absurd cc
not_true false e = refl

fragment_used : (k : TokenKind) (x : List ℕ) → fragment_use_of (name_of k) ≡ Some x → (k ≡ kind.Name x) × (is_keyword x keyword.On ≡ false)
fragment_used (kind.Punct p) x e = absurd cc
fragment_used (kind.Name name) x e =
    let g = given (not (is_keyword name keyword.On)) name x e in (ap kind.Name g.1, subst (λ n. is_keyword n keyword.On ≡ false) g.1 (not_true (is_keyword name keyword.On) g.0))
fragment_used (kind.Int text) x e = absurd cc
fragment_used (kind.Float text) x e = absurd cc
fragment_used (kind.Str value) x e = absurd cc

fragment_self : (name : List ℕ) → is_keyword name keyword.On ≡ false → fragment_use_of (Some name) ≡ Some name
fragment_self name h = rw h refl

fragment_empty : fragment_use_of (Some []) ≡ Some []
unfolding keyword_text
fragment_empty = refl

pub exact_fragment_name : (d : ℕ) → Exact d d fragment_name_at IsFragmentName is_fragment_name anything
unfolding fragment_name_at
exact_fragment_name d =
    exact_as IsFragmentName is_fragment_name anything
    (exact_take d d fragment_use is_fragment_name
    (λ t x h. let u = fragment_used t.kind x h in subst (λ k. is_fragment_name (next_of k) ≡ true) (sym u.0) (not_on x (keyword_of x) refl u.1))
    (λ t x h. ap (λ k. left_behind k d) (fragment_used t.kind x h).0)
    (token 0 (kind.Name []), [], fragment_empty))
    (λ x ts (t, is, e). let u = fragment_used t.kind x e in (u.1, (t.from, (t.to, is ∙ ap (λ k. record { from = t.from; to = t.to; kind = k } ∷ []) u.0))))
    (λ x ts (h, (at, (to, is))). (record { from = at; to = to; kind = kind.Name x }, is, fragment_self x h))
    (subset_self is_fragment_name) (subset_anything anything)

-- ---- literals

unfoldable pub is_literal : Set
is_literal ahead.End = false
is_literal (ahead.Punct p) = false
is_literal (ahead.Keyword w) = true
is_literal ahead.Name = true
is_literal ahead.Int = true
is_literal ahead.Float = true
is_literal ahead.Str = true

named_literal : (w : Option Keyword) → is_literal (named w) ≡ true
unfolding is_literal
named_literal None = refl
named_literal (Some w) = refl

literal_next : (k : TokenKind) (at : ℕ) (v : PlacedTree) → placed_at at (literal_of k) ≡ Some v → is_literal (next_of k) ≡ true
unfolding is_literal
literal_next (kind.Punct p) at v e = absurd cc
literal_next (kind.Name name) at v e = named_literal (keyword_of name)
literal_next (kind.Int text) at v e = refl
literal_next (kind.Float text) at v e = refl
literal_next (kind.Str value) at v e = refl

literal_brackets_left : (k : TokenKind) (at d : ℕ) (v : PlacedTree) → placed_at at (literal_of k) ≡ Some v → left_behind k d ≡ Some d
literal_brackets_left (kind.Punct p) at d v e = absurd cc
literal_brackets_left (kind.Name name) at d v e = refl
literal_brackets_left (kind.Int text) at d v e = refl
literal_brackets_left (kind.Float text) at d v e = refl
literal_brackets_left (kind.Str value) at d v e = refl

pub exact_literal : (d : ℕ) → Exact d d literal_at (OfUse literal_use) is_literal anything
unfolding literal_at
exact_literal d =
    exact_take d d literal_use is_literal (λ t v h. literal_next t.kind t.from v h) (λ t v h. literal_brackets_left t.kind t.from d v h)
    (token 0 (kind.Int []), record { at = 0; value = int [] }, refl)
