-- One bracket further in.
use Rattle.std.proofs.Common.{◌≡◌, ℕ, zero, suc, ◌-◌, ◌<◌, Bool, List, Err, refl, ap, arith}
use Rattle.hq_gql_lexer.specs.declared.token.Punct.TheVariants.{OpenBracket, OpenBrace}
use Rattle.hq_gql_lexer.specs.declared.token.Token.{Token}
use Rattle.hq_gql_parser.specs.Parsing.{too_deep_or_unexpected}
use Rattle.hq_gql_parser.specs.ParsingValues.{value_at, list_at, list_with, object_at, object_with}
use Rattle.hq_gql_parser.specs.ParsingTypes.{type_at, list_type_at, list_type_with}
use Rattle.hq_gql_parser.specs.ParsingSelections.{selection_at, set_at, set_with}

pub list_none : (c : Bool) (n : ℕ) (ts : List Token) → n ≡ 0 → list_at c n ts ≡ Err (too_deep_or_unexpected OpenBracket ts)
unfolding list_at
list_none c zero ts e = refl
list_none c (suc n) ts e = absurd (omega arith)

pub list_is : (c : Bool) (n : ℕ) (ts : List Token) → 0 < n → list_at c n ts ≡ list_with (value_at c (n - 1)) ts
unfolding list_at
list_is c zero ts lt = absurd (omega arith)
list_is c (suc n) ts lt = let e : n ≡ suc n - 1 = omega arith in ap (λ m. list_with (value_at c m) ts) e

pub object_none : (c : Bool) (n : ℕ) (ts : List Token) → n ≡ 0 → object_at c n ts ≡ Err (too_deep_or_unexpected OpenBrace ts)
unfolding object_at
object_none c zero ts e = refl
object_none c (suc n) ts e = absurd (omega arith)

pub object_is : (c : Bool) (n : ℕ) (ts : List Token) → 0 < n → object_at c n ts ≡ object_with (value_at c (n - 1)) ts
unfolding object_at
object_is c zero ts lt = absurd (omega arith)
object_is c (suc n) ts lt = let e : n ≡ suc n - 1 = omega arith in ap (λ m. object_with (value_at c m) ts) e

pub list_type_none : (n : ℕ) (ts : List Token) → n ≡ 0 → list_type_at n ts ≡ Err (too_deep_or_unexpected OpenBracket ts)
unfolding list_type_at
list_type_none zero ts e = refl
list_type_none (suc n) ts e = absurd (omega arith)

pub list_type_is : (n : ℕ) (ts : List Token) → 0 < n → list_type_at n ts ≡ list_type_with (type_at (n - 1)) ts
unfolding list_type_at
list_type_is zero ts lt = absurd (omega arith)
list_type_is (suc n) ts lt = let e : n ≡ suc n - 1 = omega arith in ap (λ m. list_type_with (type_at m) ts) e

pub set_none : (n : ℕ) (ts : List Token) → n ≡ 0 → set_at n ts ≡ Err (too_deep_or_unexpected OpenBrace ts)
unfolding set_at
set_none zero ts e = refl
set_none (suc n) ts e = absurd (omega arith)

pub set_is : (n : ℕ) (ts : List Token) → 0 < n → set_at n ts ≡ set_with (selection_at (n - 1)) ts
unfolding set_at
set_is zero ts lt = absurd (omega arith)
set_is (suc n) ts lt = let e : n ≡ suc n - 1 = omega arith in ap (λ m. set_with (selection_at m) ts) e
