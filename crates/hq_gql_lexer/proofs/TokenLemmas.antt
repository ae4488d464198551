-- A token at the front of a text.
use Rattle.std.proofs.Common.{◌≡◌, ℕ, ◌<◌, ◌≤◌, List, length, take, drop, subst}
use Rattle.hq_gql_lexer.specs.declared.token.TokenKind.{TokenKind}
use Rattle.hq_gql_lexer.specs.Grammar.{IsToken}

-- what stands at the front: a token and the number of its bytes
pub record IsTokenInFront (bytes : List ℕ) (k : TokenKind) (n : ℕ) : Type 0 where
  pub some : 0 < n
  pub within : n ≤ length bytes
  pub is : IsToken (take n bytes) (drop n bytes) k

-- equal answers are of the same token
pub same_token : (bytes : List ℕ) (x y : TokenKind × ℕ) → x ≡ y → IsTokenInFront bytes x.0 x.1 → IsTokenInFront bytes y.0 y.1
same_token bytes x y e is = subst (λ p. IsTokenInFront bytes p.0 p.1) e is
