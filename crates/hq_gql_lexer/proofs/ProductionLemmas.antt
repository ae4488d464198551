-- Names and numbers are texts.
use Rattle.std.proofs.Common.{◌≡◌, ℕ, true, false, List, [], ◌∷◌, ◌++◌, refl, sym, subst, inl, inr, ⊎_elim, arith}
use Rattle.std.specs.Prelude.{◌||◌, ◌==◌}
use Rattle.std.specs.Char.{is_ascii_digit}
use Rattle.std.proofs.lemmas.Bool.{cases_Bool, MatchBool-at_true, MatchBool-at_false}
use Rattle.std.proofs.lemmas.Bool.Decides.{nat_tests}
use Rattle.hq_gql_lexer.specs.Characters.{is_name_start, is_name_continue}
use Rattle.hq_gql_lexer.specs.Grammar.{IsOptional, IsName, IsDigits, IsNatural, IsInteger, IsFraction, IsSignedDigits, IsExponent, IsFloat}
use Rattle.hq_gql_lexer.proofs.TextLemmas.{IsText, IsText-nil, IsText-append, IsText-byte, IsText-all, is_ascii_text, both}

-- a digit is a text
ascii_digit : (b : ℕ) → is_ascii_digit b ≡ true → is_ascii_text b ≡ true
ascii_digit b h = grind (arith, nat_tests)

-- a letter, a `_` and a digit are texts
ascii_name : (b : ℕ) → is_name_continue b ≡ true → is_ascii_text b ≡ true
ascii_name b h = grind (arith, nat_tests)

-- what starts a name goes on with one
pub name_goes_on : (b : ℕ) → is_name_start b ≡ true → is_name_continue b ≡ true
name_goes_on b h = rw h refl

-- the mark of an exponent is a text
ascii_mark : (b : ℕ) → (b == 101 || b == 69) ≡ true → is_ascii_text b ≡ true
ascii_mark b h = grind (arith, nat_tests)

-- a sign is a text
ascii_sign : (b : ℕ) → (b == 43 || b == 45) ≡ true → is_ascii_text b ≡ true
ascii_sign b h = grind (arith, nat_tests)

-- a `-` is a text
ascii_minus : (b : ℕ) → (b == 45) ≡ true → is_ascii_text b ≡ true
ascii_minus b h = grind (arith, nat_tests)

-- a `0` is a text
ascii_zero : (b : ℕ) → (b == 48) ≡ true → is_ascii_text b ≡ true
ascii_zero b h = grind (arith, nat_tests)

-- a `.` is a text
ascii_point : (b : ℕ) → b ≡ 46 → is_ascii_text b ≡ true
ascii_point b h = grind (arith, nat_tests)

-- a name is a text
pub name-IsText : (text : List ℕ) → IsName text → IsText text
name-IsText [] h = absurd h
name-IsText (b ∷ text) h = IsText-all is_name_continue ascii_name (b ∷ text) (both (name_goes_on b h.0) h.1)

-- digits are a text
digits-IsText : (text : List ℕ) → IsDigits text → IsText text
digits-IsText [] h = absurd h
digits-IsText (b ∷ text) h = IsText-all is_ascii_digit ascii_digit (b ∷ text) h

-- digits without a leading 0 are a text
natural-IsText : (text : List ℕ) → IsNatural text → IsText text
natural-IsText [] h = absurd h
natural-IsText (b ∷ text) h = ⊎_elim
    (λ (t : (b == 48) ≡ true). subst (λ more. IsText (b ∷ more)) (sym (MatchBool-at_true _ _ t h)) (IsText-byte b (ascii_zero b t)))
    (λ (t : (b == 48) ≡ false). digits-IsText (b ∷ text) (MatchBool-at_false _ _ t h))
    (cases_Bool (b == 48))

-- an IntegerPart is a text
pub integer-IsText : (text : List ℕ) → IsInteger text → IsText text
integer-IsText [] h = absurd h
integer-IsText (b ∷ text) h = ⊎_elim
    (λ (t : (b == 45) ≡ true). IsText-append (b ∷ []) text (IsText-byte b (ascii_minus b t)) (natural-IsText text (MatchBool-at_true _ _ t h)))
    (λ (t : (b == 45) ≡ false). natural-IsText (b ∷ text) (MatchBool-at_false _ _ t h))
    (cases_Bool (b == 45))

-- a FractionalPart is a text
fraction-IsText : (text : List ℕ) → IsFraction text → IsText text
fraction-IsText [] h = absurd h
fraction-IsText (b ∷ text) h = IsText-append (b ∷ []) text (IsText-byte b (ascii_point b h.0)) (digits-IsText text h.1)

-- digits behind a sign are a text
signed-IsText : (text : List ℕ) → IsSignedDigits text → IsText text
signed-IsText [] h = absurd h
signed-IsText (b ∷ text) h = ⊎_elim
    (λ (t : (b == 43 || b == 45) ≡ true). IsText-append (b ∷ []) text (IsText-byte b (ascii_sign b t)) (digits-IsText text (MatchBool-at_true _ _ t h)))
    (λ (t : (b == 43 || b == 45) ≡ false). digits-IsText (b ∷ text) (MatchBool-at_false _ _ t h))
    (cases_Bool (b == 43 || b == 45))

-- an ExponentPart is a text
exponent-IsText : (text : List ℕ) → IsExponent text → IsText text
exponent-IsText [] h = absurd h
exponent-IsText (b ∷ text) h = IsText-append (b ∷ []) text (IsText-byte b (ascii_mark b h.0)) (signed-IsText text h.1)

-- so is a part that may be left out
optional-IsText : (P : List ℕ → Type 0) → ((text : List ℕ) → P text → IsText text) → (text : List ℕ) → IsOptional P text → IsText text
optional-IsText P each text (inl none) = subst IsText (sym none) IsText-nil
optional-IsText P each text (inr some) = each text some

-- a FloatValue is a text
pub float-IsText : (text : List ℕ) → IsFloat text → IsText text
float-IsText text h = subst IsText (sym h.parts)
    (IsText-append h.whole (h.fraction ++ h.exponent) (integer-IsText h.whole h.is_whole)
    (IsText-append h.fraction h.exponent (optional-IsText IsFraction fraction-IsText h.fraction h.is_fraction) (optional-IsText IsExponent exponent-IsText h.exponent h.is_exponent)))
