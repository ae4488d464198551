-- Which token lists: the parts that the grammar is put together from. A part of the grammar gives for each tree the
-- token lists that spell it.
use Rattle.std.specs.Prelude.{◌≡◌, ℕ, List, [], ◌∷◌, ◌++◌}
use Rattle.hq_gql_lexer.specs.declared.token.Punct.{Punct}
use Rattle.hq_gql_lexer.specs.declared.token.Punct.TheVariants.{OpenParenthesis, CloseParenthesis}
use Rattle.hq_gql_lexer.specs.declared.token.Token.{Token}
use Rattle.hq_gql_lexer.specs.declared.token.TokenKind.{TokenKind}
use Rattle.hq_gql_lexer.specs.declared.token.TokenKind.TheVariants as kind

-- some token lists
abbrev pub Language : Type 1
Language = List Token → Type 0

-- no token
abbrev pub IsNothing : Language
IsNothing ts = ts ≡ []

-- this token alone, at this place
abbrev pub IsToken : (at : ℕ) → TokenKind → Language
IsToken at k ts = (to : ℕ) × (ts ≡ record { from = at; to = to; kind = k } ∷ [])

-- this punctuator alone, and this name alone
abbrev pub IsPunct : Punct → Language
IsPunct p ts = (at : ℕ) × IsToken at (kind.Punct p) ts

abbrev pub IsName : List ℕ → Language
IsName name ts = (at : ℕ) × IsToken at (kind.Name name) ts

-- the one and behind it the other
infixr 5 ◌▸◌
abbrev pub ◌▸◌ : Language → Language → Language
(P ▸ Q) ts = (front : List Token) × (rest : List Token) × (ts ≡ front ++ rest) × P front × Q rest

-- each of these, one behind the other
abbrev pub Each : {A : Type 0} → (A → Language) → List A → Language
Each P [] = IsNothing
Each P (x ∷ xs) = P x ▸ Each P xs

-- nothing, or one of these and more in parentheses
abbrev pub InParentheses : {A : Type 0} → (A → Language) → List A → Language
InParentheses P [] = IsNothing
InParentheses P (x ∷ xs) = IsPunct OpenParenthesis ▸ (P x ▸ Each P xs) ▸ IsPunct CloseParenthesis
