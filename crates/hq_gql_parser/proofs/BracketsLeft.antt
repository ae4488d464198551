-- Brackets that may still open, over tokens one behind the other.
use Rattle.std.proofs.Common.{◌≡◌, ℕ, List, [], ◌∷◌, ◌++◌, Option, Some, None, refl, ap, ◌∙◌}
use Rattle.hq_gql_lexer.specs.declared.token.Token.{Token}
use Rattle.hq_gql_parser.specs.Documents.{and_then, left_behind, brackets_left}

step_append : (m : Option ℕ) (a b : List Token)
    → ((n : ℕ) → brackets_left n (a ++ b) ≡ and_then (λ k. brackets_left k b) (brackets_left n a))
    → and_then (λ k. brackets_left k (a ++ b)) m ≡ and_then (λ k. brackets_left k b) (and_then (λ k. brackets_left k a) m)
step_append None a b again = refl
step_append (Some n) a b again = again n

pub brackets_left_append : (n : ℕ) (a b : List Token) → brackets_left n (a ++ b) ≡ and_then (λ k. brackets_left k b) (brackets_left n a)
brackets_left_append n [] b = refl
brackets_left_append n (t ∷ a) b = step_append (left_behind t.kind n) a b (λ k. brackets_left_append k a b)

-- behind a front that leaves so much room
pub brackets_left_then : (n k : ℕ) (a b : List Token) → brackets_left n a ≡ Some k → brackets_left n (a ++ b) ≡ brackets_left k b
brackets_left_then n k a b e = brackets_left_append n a b ∙ ap (and_then (λ k. brackets_left k b)) e

-- behind a front that opens one too many
pub brackets_left_none : (n : ℕ) (a b : List Token) → brackets_left n a ≡ None → brackets_left n (a ++ b) ≡ None
brackets_left_none n a b e = brackets_left_append n a b ∙ ap (and_then (λ k. brackets_left k b)) e

one : (m : Option ℕ) → and_then (λ k. brackets_left k []) m ≡ m
one None = refl
one (Some n) = refl

-- one token
pub brackets_left_one : (n : ℕ) (t : Token) → brackets_left n (t ∷ []) ≡ left_behind t.kind n
brackets_left_one n t = one (left_behind t.kind n)
