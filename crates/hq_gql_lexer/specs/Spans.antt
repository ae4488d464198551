-- Where tokens stand.
use Rattle.std.specs.Prelude.{ℕ, ◌<◌, ◌≤◌, List, [], ◌∷◌}
use Rattle.hq_gql_lexer.specs.declared.token.Token.{Token}

-- From a place on the tokens stand one behind the other, none of them empty, and they end by another place.
abbrev pub AreInOrder : (from to : ℕ) → List Token → Type 0
AreInOrder from to [] = from ≤ to
AreInOrder from to (t ∷ ts) = (from ≤ t.from) × (t.from < t.to) × AreInOrder t.to to ts
