-- Numbers and names are of their productions.
use Rattle.std.proofs.Common.{◌≡◌, ℕ, zero, suc, ◌+◌, ◌<◌, ◌≤◌, Bool, true, false, cond, List, [], ◌∷◌, ◌++◌, length, take, drop, refl, sym, ap, ◌∙◌, subst, inl, inr, ⊎_elim, arith, ◌⊎◌, append_assoc}
use Rattle.std.specs.Prelude.{◌≢◌, ◌&&◌, ◌||◌, ◌==◌, nat_lt, MatchBool}
use Rattle.std.specs.List.{list_all, prefix_len}
use Rattle.std.specs.Char.{is_ascii_digit}
use Rattle.std.proofs.lemmas.Bool.{cases_Bool, cond-true, cond-false, false≢true, eqb-true, ltb-true}
use Rattle.std.proofs.lemmas.Bool.Decides.{nat_tests}
use Rattle.std.proofs.Math.Seq.{take-add}
use Rattle.std.proofs.lemmas.List.{length-append, length-take}
use Rattle.hq_gql_lexer.specs.Characters.{next_is, is_name_start, is_name_continue}
use Rattle.hq_gql_lexer.specs.Numbers.{digits_len, minus_len, natural_len, integer_len, fraction_len, sign_len, signed_digits_len, exponent_len, number_len}
use Rattle.hq_gql_lexer.specs.Lexemes.{starts_number}
use Rattle.hq_gql_lexer.specs.Grammar.{IsOptional, IsName, IsDigits, IsNatural, IsInteger, IsFraction, IsSignedDigits, IsExponent, IsFloat}
use Rattle.hq_gql_lexer.proofs.LinesLemmas.{prefix_len_yes, prefix_len_no}
use Rattle.hq_gql_lexer.proofs.TextLemmas.{IsText, both, and_parts}
use Rattle.hq_gql_lexer.proofs.ProductionLemmas.{integer-IsText, float-IsText, name_goes_on}

-- what passes a test at the front does
pub all_in_front : (p : ℕ → Bool) (bytes : List ℕ) → list_all p (take (prefix_len p bytes) bytes) ≡ true
all_in_front p [] = refl
all_in_front p (b ∷ bytes) = ⊎_elim
    (λ (passes : p b ≡ true). ap (λ n. list_all p (take n (b ∷ bytes))) (prefix_len_yes p b bytes passes) ∙ both passes (all_in_front p bytes))
    (λ (fails : p b ≡ false). ap (λ n. list_all p (take n (b ∷ bytes))) (prefix_len_no p b bytes fails))
    (cases_Bool (p b))

-- a fact for the answer of a test
pub matched_true : {s : Bool} (P Q : Type 0) → s ≡ true → P → MatchBool s P Q
matched_true P Q h p = subst (λ t. MatchBool t P Q) (sym h) p

-- the second of two cases, where the test fails
pub matched_false : {s : Bool} (P Q : Type 0) → s ≡ false → Q → MatchBool s P Q
matched_false P Q h q = subst (λ t. MatchBool t P Q) (sym h) q

-- the digits that are counted are digits, one or more
digits_in_front : (bytes : List ℕ) → next_is is_ascii_digit bytes ≡ true → IsDigits (take (digits_len bytes) bytes)
digits_in_front [] h = absurd (false≢true h)
digits_in_front (b ∷ bytes) h =
    subst (λ n. IsDigits (take n (b ∷ bytes))) (sym (prefix_len_yes is_ascii_digit b bytes h)) (both h (all_in_front is_ascii_digit bytes))

-- what is counted as digits without a leading 0 is so
natural_in_front : (bytes : List ℕ) → next_is is_ascii_digit bytes ≡ true → IsNatural (take (natural_len bytes) bytes)
natural_in_front [] h = absurd (false≢true h)
natural_in_front (b ∷ bytes) h = ⊎_elim
    (λ (is_zero : (b == 48) ≡ true).
    subst (λ n. IsNatural (take n (b ∷ bytes))) (sym (cond-true (b == 48) 1 (digits_len (b ∷ bytes)) is_zero)) (matched_true _ _ is_zero refl))
    (λ (other : (b == 48) ≡ false).
    subst (λ n. IsNatural (take n (b ∷ bytes))) (sym (cond-false (b == 48) 1 (digits_len (b ∷ bytes)) other ∙ prefix_len_yes is_ascii_digit b bytes h))
    (matched_false _ _ other (both h (all_in_front is_ascii_digit bytes))))
    (cases_Bool (b == 48))

-- without a sign
unsigned : (text : List ℕ) → next_is (λ b. b == 45) text ≡ false → IsNatural text → IsInteger text
unsigned [] plain is_natural = is_natural
unsigned (b ∷ text) plain is_natural = matched_false _ _ plain is_natural

-- a byte that fails a test fails it also where the text is cut behind it
next_is-take : (p : ℕ → Bool) (n b : ℕ) (bytes : List ℕ) → p b ≡ false → next_is p (take n (b ∷ bytes)) ≡ false
next_is-take p zero b bytes h = refl
next_is-take p (suc n) b bytes h = h

-- behind a `-` at which a number starts there is a digit
digit_or : (b : ℕ) (more : Bool) → (is_ascii_digit b || b == 45 && more) ≡ true → (b == 45) ≡ true → more ≡ true
digit_or b more h minus = grind (arith, nat_tests)

-- a number that starts with no `-` starts with a digit
digit_alone : (b : ℕ) (more : Bool) → (is_ascii_digit b || b == 45 && more) ≡ true → (b == 45) ≡ false → is_ascii_digit b ≡ true
digit_alone b more h plain = grind (arith, nat_tests)

-- what is counted as an IntegerPart is one
pub integer_in_front : (bytes : List ℕ) → starts_number bytes ≡ true → IsInteger (take (integer_len bytes) bytes)
integer_in_front [] h = absurd (false≢true h)
integer_in_front (b ∷ bytes) h = ⊎_elim
    (λ (minus : (b == 45) ≡ true).
    let one : minus_len (b ∷ bytes) ≡ 1 = cond-true (b == 45) 1 0 minus in
    let len : integer_len (b ∷ bytes) ≡ suc (natural_len bytes) = ap (λ m. m + natural_len (drop m (b ∷ bytes))) one ∙ omega arith in
    subst (λ n. IsInteger (take n (b ∷ bytes))) (sym len) (matched_true _ _ minus (natural_in_front bytes (digit_or b (next_is is_ascii_digit bytes) h minus))))
    (λ (plain : (b == 45) ≡ false).
    let none : minus_len (b ∷ bytes) ≡ 0 = cond-false (b == 45) 1 0 plain in
    let len : integer_len (b ∷ bytes) ≡ natural_len (b ∷ bytes) = ap (λ m. m + natural_len (drop m (b ∷ bytes))) none ∙ omega arith in
    let n = natural_len (b ∷ bytes) in
    subst (λ n. IsInteger (take n (b ∷ bytes))) (sym len)
    (unsigned (take n (b ∷ bytes)) (next_is-take (λ b. b == 45) n b bytes plain) (natural_in_front (b ∷ bytes) (digit_alone b (next_is is_ascii_digit bytes) h plain))))
    (cases_Bool (b == 45))

-- what is counted as a FractionalPart is one, or nothing
pub fraction_in_front : (bytes : List ℕ) → IsOptional IsFraction (take (fraction_len bytes) bytes)
fraction_in_front [] = inl refl
fraction_in_front (b ∷ bytes) =
    let test = b == 46 && next_is is_ascii_digit bytes in
    ⊎_elim
    (λ (there : test ≡ true).
    let parts = and_parts (b == 46) (next_is is_ascii_digit bytes) there in
    let len : fraction_len (b ∷ bytes) ≡ suc (digits_len bytes) = cond-true test (1 + digits_len bytes) 0 there ∙ omega arith in
    subst (λ n. IsOptional IsFraction (take n (b ∷ bytes))) (sym len) (inr (eqb-true b 46 parts.0, digits_in_front bytes parts.1)))
    (λ (absent : test ≡ false).
    subst (λ n. IsOptional IsFraction (take n (b ∷ bytes))) (sym (cond-false test (1 + digits_len bytes) 0 absent)) (inl refl))
    (cases_Bool test)

-- without a sign
unsigned_digits : (text : List ℕ) → next_is (λ b. b == 43 || b == 45) text ≡ false → IsDigits text → IsSignedDigits text
unsigned_digits [] plain is_digits = is_digits
unsigned_digits (b ∷ text) plain is_digits = matched_false _ _ plain is_digits

-- what is counted as digits behind a sign is so
signed_in_front : (bytes : List ℕ) → 0 < signed_digits_len bytes → IsSignedDigits (take (signed_digits_len bytes) bytes)
signed_in_front [] some = absurd (omega arith)
signed_in_front (b ∷ bytes) some = ⊎_elim
    (λ (sign : (b == 43 || b == 45) ≡ true).
    let one : sign_len (b ∷ bytes) ≡ 1 = cond-true (b == 43 || b == 45) 1 0 sign in
    let len : signed_digits_len (b ∷ bytes) ≡ cond (next_is is_ascii_digit bytes) (1 + digits_len bytes) 0
    = ap (λ m. cond (next_is is_ascii_digit (drop m (b ∷ bytes))) (m + digits_len (drop m (b ∷ bytes))) 0) one in
    ⊎_elim
    (λ (there : next_is is_ascii_digit bytes ≡ true).
    let len' : signed_digits_len (b ∷ bytes) ≡ suc (digits_len bytes) = len ∙ cond-true _ (1 + digits_len bytes) 0 there ∙ omega arith in
    subst (λ n. IsSignedDigits (take n (b ∷ bytes))) (sym len') (matched_true _ _ sign (digits_in_front bytes there)))
    (λ (absent : next_is is_ascii_digit bytes ≡ false).
    let len' = len ∙ cond-false _ (1 + digits_len bytes) 0 absent in
    absurd (omega arith))
    (cases_Bool (next_is is_ascii_digit bytes)))
    (λ (plain : (b == 43 || b == 45) ≡ false).
    let none : sign_len (b ∷ bytes) ≡ 0 = cond-false (b == 43 || b == 45) 1 0 plain in
    let len : signed_digits_len (b ∷ bytes) ≡ cond (is_ascii_digit b) (0 + digits_len (b ∷ bytes)) 0
    = ap (λ m. cond (next_is is_ascii_digit (drop m (b ∷ bytes))) (m + digits_len (drop m (b ∷ bytes))) 0) none in
    ⊎_elim
    (λ (there : is_ascii_digit b ≡ true).
    let n = digits_len (b ∷ bytes) in
    let len' : signed_digits_len (b ∷ bytes) ≡ n = len ∙ cond-true _ (0 + n) 0 there ∙ omega arith in
    subst (λ n. IsSignedDigits (take n (b ∷ bytes))) (sym len')
    (unsigned_digits (take n (b ∷ bytes)) (next_is-take (λ b. b == 43 || b == 45) n b bytes plain) (digits_in_front (b ∷ bytes) there)))
    (λ (absent : is_ascii_digit b ≡ false).
    let len' = len ∙ cond-false _ (0 + digits_len (b ∷ bytes)) 0 absent in
    absurd (omega arith))
    (cases_Bool (is_ascii_digit b)))
    (cases_Bool (b == 43 || b == 45))

-- what is counted as an ExponentPart is one, or nothing
pub exponent_in_front : (bytes : List ℕ) → IsOptional IsExponent (take (exponent_len bytes) bytes)
exponent_in_front [] = inl refl
exponent_in_front (b ∷ bytes) =
    let digits = signed_digits_len bytes in
    let test = (b == 101 || b == 69) && nat_lt 0 digits in
    ⊎_elim
    (λ (there : test ≡ true).
    let parts = and_parts (b == 101 || b == 69) (nat_lt 0 digits) there in
    let len : exponent_len (b ∷ bytes) ≡ suc digits = cond-true test (1 + digits) 0 there ∙ omega arith in
    subst (λ n. IsOptional IsExponent (take n (b ∷ bytes))) (sym len) (inr (parts.0, signed_in_front bytes (ltb-true 0 digits parts.1))))
    (λ (absent : test ≡ false).
    subst (λ n. IsOptional IsExponent (take n (b ∷ bytes))) (sym (cond-false test (1 + digits) 0 absent)) (inl refl))
    (cases_Bool test)

-- the longest number at the front is whole, or has a fraction or an exponent
pub record IsNumberInFront (bytes : List ℕ) : Type 0 where
  pub is_whole : number_len bytes ≡ integer_len bytes → IsInteger (take (number_len bytes) bytes)
  pub is_float : integer_len bytes < number_len bytes → IsFloat (take (number_len bytes) bytes)
  pub at_least : integer_len bytes ≤ number_len bytes

-- a front of three parts
cut_in_three : (w f e : ℕ) (bytes : List ℕ) → take (w + f + e) bytes ≡ take w bytes ++ (take f (drop w bytes) ++ take e (drop (w + f) bytes))
cut_in_three w f e bytes = take-add (w + f) e bytes ∙ ap (λ xs. xs ++ take e (drop (w + f) bytes)) (take-add w f bytes) ∙ append_assoc (take w bytes) _ _

-- what makes a front longer is not empty
longer_by_some : (w n : ℕ) (bytes more : List ℕ) → take n bytes ≡ take w bytes ++ more → w < n → n ≤ length bytes → more ≢ []
longer_by_some w n bytes more cut longer within none = absurd
    (omega (arith, ap length cut, ap length none, length-append (take w bytes) more, length-take n bytes, length-take w bytes))

-- a sum is no less than its first part
at_least : (w f e : ℕ) → w ≤ w + f + e
at_least w f e = omega arith

-- a number that is no less is equal or more
same_or_more : (w n : ℕ) → w ≤ n → (n ≡ w) ⊎ (w < n)
same_or_more w n h = grind arith

-- what is counted as a number is a whole one where it is an IntegerPart alone, and else a FloatValue
pub number_in_front : (bytes : List ℕ) → starts_number bytes ≡ true → number_len bytes ≤ length bytes → IsNumberInFront bytes
number_in_front bytes h within =
    let whole = integer_len bytes in
    let fraction = fraction_len (drop whole bytes) in
    let exponent = exponent_len (drop (whole + fraction) bytes) in
    let cut = cut_in_three whole fraction exponent bytes in
    record {
      is_whole = λ e. subst (λ n. IsInteger (take n bytes)) (sym e) (integer_in_front bytes h);
      is_float = λ longer. record {
        whole = take whole bytes;
        fraction = take fraction (drop whole bytes);
        exponent = take exponent (drop (whole + fraction) bytes);
        parts = cut;
        is_whole = integer_in_front bytes h;
        is_fraction = fraction_in_front (drop whole bytes);
        is_exponent = exponent_in_front (drop (whole + fraction) bytes);
        some = longer_by_some whole (whole + fraction + exponent) bytes _ cut longer within;
      };
      at_least = at_least whole fraction exponent;
    }

-- a number is a text
pub number-IsText : (bytes : List ℕ) → starts_number bytes ≡ true → number_len bytes ≤ length bytes → IsText (take (number_len bytes) bytes)
number-IsText bytes h within =
    let found = number_in_front bytes h within in
    ⊎_elim
    (λ (whole : number_len bytes ≡ integer_len bytes). integer-IsText _ (found.is_whole whole))
    (λ (longer : integer_len bytes < number_len bytes). float-IsText _ (found.is_float longer))
    (same_or_more (integer_len bytes) (number_len bytes) found.at_least)

-- the name at the front
pub name_in_front : (bytes : List ℕ) → next_is is_name_start bytes ≡ true → IsName (take (prefix_len is_name_continue bytes) bytes)
name_in_front [] h = absurd (false≢true h)
name_in_front (b ∷ bytes) h =
    subst (λ n. IsName (take n (b ∷ bytes))) (sym (prefix_len_yes is_name_continue b bytes (name_goes_on b h))) (h, all_in_front is_name_continue bytes)
