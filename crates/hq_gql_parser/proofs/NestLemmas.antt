-- Nesting and brackets: the tokens of a tree open as many brackets at once as the tree nests deep.
use Rattle.std.proofs.Common.{◌≡◌, ℕ, zero, suc, ◌≤◌, ◌<◌, ◌⊎◌, inl, inr, List, [], ◌++◌, Some, None, refl, subst, ◌∙◌, arith}
use Rattle.std.specs.Prelude.{max}
use Rattle.std.proofs.lemmas.Bool.{cases_lt}
use Rattle.hq_gql_lexer.specs.declared.token.Punct.{Punct}
use Rattle.hq_gql_lexer.specs.declared.token.Token.{Token}
use Rattle.hq_gql_lexer.specs.declared.token.TokenKind.{TokenKind}
use Rattle.hq_gql_lexer.specs.declared.token.TokenKind.TheVariants as kind
use Rattle.hq_gql_parser.specs.Languages.{IsToken, IsPunct}
use Rattle.hq_gql_parser.specs.Documents.{left_behind, left_behind_punct, left_behind_open, brackets_left}
use Rattle.hq_gql_parser.proofs.BracketsLeft.{brackets_left_then, brackets_left_none, brackets_left_one}

-- The tokens open and close so many brackets at once.
pub record Opens (n : ℕ) (ts : List Token) : Type 0 where
  pub fits : (d : ℕ) → n ≤ d → brackets_left d ts ≡ Some d
  pub over : (d : ℕ) → d < n → brackets_left d ts ≡ None

-- none
pub opens_nothing : (ts : List Token) → ts ≡ [] → Opens 0 ts
opens_nothing ts is = record { fits = λ d h. rw is refl; over = λ d h. absurd (omega arith) }

-- a token that is no bracket
pub opens_token : (k : TokenKind) (at : ℕ) (ts : List Token) → ((d : ℕ) → left_behind k d ≡ Some d) → IsToken at k ts → Opens 0 ts
opens_token k at ts same (to, is) = record {
  fits = λ d h. rw is (brackets_left_one d (record { from = at; to = to; kind = k }) ∙ same d);
  over = λ d h. absurd (omega arith);
}

-- two parts
module _ (m n : ℕ) (ts a b : List Token) (is : ts ≡ a ++ b) (on_a : Opens m a) (on_b : Opens n b) where
  over_by : (d : ℕ) → (d < m) ⊎ (m ≤ d) → d < max m n → brackets_left d (a ++ b) ≡ None
  over_by d (inl h) lt = brackets_left_none d a b (on_a.over d h)
  over_by d (inr h) lt = let lt' : d < n = omega arith in brackets_left_then d d a b (on_a.fits d h) ∙ on_b.over d lt'

  pub opens_both : Opens (max m n) ts
  opens_both = record {
    fits = λ d h. let ha : m ≤ d = omega arith in let hb : n ≤ d = omega arith in rw is (brackets_left_then d d a b (on_a.fits d ha) ∙ on_b.fits d hb);
    over = λ d h. rw is (over_by d (cases_lt d m) h);
  }

pub opens_as : (m n : ℕ) (ts : List Token) → m ≡ n → Opens m ts → Opens n ts
opens_as m n ts e o = subst (λ k. Opens k ts) e o

-- a part without brackets, and another
pub opens_behind : (n : ℕ) (ts a b : List Token) → ts ≡ a ++ b → Opens 0 a → Opens n b → Opens n ts
opens_behind n ts a b is on_a on_b = let e : max 0 n ≡ n = omega arith in opens_as (max 0 n) n ts e (opens_both 0 n ts a b is on_a on_b)

pub opens_before : (n : ℕ) (ts a b : List Token) → ts ≡ a ++ b → Opens n a → Opens 0 b → Opens n ts
opens_before n ts a b is on_a on_b = let e : max n 0 ≡ n = omega arith in opens_as (max n 0) n ts e (opens_both n 0 ts a b is on_a on_b)

-- ---- in brackets

module _ (p q : Punct) (n at : ℕ) (ts a b a' b' : List Token) (opening : (d : ℕ) → left_behind_punct p d ≡ left_behind_open d) (closing : (d : ℕ) → left_behind_punct q d ≡ Some (suc d))
    (is : ts ≡ a ++ b) (open_a : IsToken at (kind.Punct p) a) (is' : b ≡ a' ++ b') (inner : Opens n a') (close_b : IsPunct q b') where
  brackets_left_open : (d : ℕ) → brackets_left d a ≡ left_behind_open d
  brackets_left_open d = rw open_a.1 (brackets_left_one d (record { from = at; to = open_a.0; kind = kind.Punct p }) ∙ opening d)

  brackets_left_close : (d : ℕ) → brackets_left d b' ≡ Some (suc d)
  brackets_left_close d = rw close_b.1.1 (brackets_left_one d (record { from = close_b.0; to = close_b.1.0; kind = kind.Punct q }) ∙ closing d)

  fits_in : (d : ℕ) → suc n ≤ d → brackets_left d (a ++ (a' ++ b')) ≡ Some d
  fits_in zero h = absurd (omega arith)
  fits_in (suc d) h = let h' : n ≤ d = omega arith in brackets_left_then (suc d) d a (a' ++ b') (brackets_left_open (suc d)) ∙ brackets_left_then d d a' b' (inner.fits d h') ∙ brackets_left_close d

  over_in : (d : ℕ) → d < suc n → brackets_left d (a ++ (a' ++ b')) ≡ None
  over_in zero h = brackets_left_none zero a (a' ++ b') (brackets_left_open zero)
  over_in (suc d) h = let h' : d < n = omega arith in brackets_left_then (suc d) d a (a' ++ b') (brackets_left_open (suc d)) ∙ brackets_left_none d a' b' (inner.over d h')

  pub opens_in : Opens (suc n) ts
  opens_in = record { fits = λ d h. rw (is, is') (fits_in d h); over = λ d h. rw (is, is') (over_in d h) }
