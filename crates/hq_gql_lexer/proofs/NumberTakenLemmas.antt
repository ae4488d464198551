-- Each name and number of the productions is taken whole.
use Rattle.std.proofs.Common.{◌≡◌, ℕ, suc, ◌+◌, ◌<◌, Bool, true, false, cond, List, [], ◌∷◌, ◌++◌, length, take, drop, Ok, Err, refl, sym, ap, ◌∙◌, subst, inl, inr, ⊎_elim, arith, append_assoc}
use Rattle.std.specs.Prelude.{◌≢◌, ◌||◌, ◌==◌, nat_lt}
use Rattle.std.specs.List.{list_all, prefix_len}
use Rattle.std.specs.Char.{is_ascii_digit}
use Rattle.std.proofs.lemmas.Bool.{cases_Bool, cond-true, cond-false, false≢true, eqb-true, eq-eqb, ne_eqb, lt-ltb, MatchBool-at_true, MatchBool-at_false, and_from, and_left, or_left, or_right}
use Rattle.std.proofs.lemmas.List.{length-append, take_at, drop_at}
use Rattle.hq_gql_lexer.specs.declared.refusal.LexRefusal.TheVariants.{BadNumber}
use Rattle.hq_gql_lexer.specs.declared.token.TokenKind.TheVariants as kind
use Rattle.hq_gql_lexer.specs.Characters.{next_is, is_name_start, is_name_continue}
use Rattle.hq_gql_lexer.specs.Numbers.{digits_len, minus_len, natural_len, integer_len, fraction_len, sign_len, signed_digits_len, exponent_len, number_len}
use Rattle.hq_gql_lexer.specs.Lexemes.{name_at, starts_number, cannot_follow_number, number_kind, number_at}
use Rattle.hq_gql_lexer.specs.Grammar.{IsOptional, IsName, IsDigits, IsNatural, IsInteger, IsFraction, IsSignedDigits, IsExponent, IsFloat}
use Rattle.hq_gql_lexer.proofs.TextLemmas.{and_parts}
use Rattle.hq_gql_lexer.proofs.LinesLemmas.{prefix_len_yes, prefix_len_no}
use Rattle.hq_gql_lexer.proofs.ProductionLemmas.{name_goes_on}

-- bytes that pass a test are counted up to the first that fails it
pub prefix_whole : (p : ℕ → Bool) (text next : List ℕ) → list_all p text ≡ true → next_is p next ≡ false → prefix_len p (text ++ next) ≡ length text
prefix_whole p [] [] h stop = refl
prefix_whole p [] (b ∷ next) h stop = prefix_len_no p b next stop
prefix_whole p (b ∷ text) next h stop =
    let ok = and_parts (p b) (list_all p text) h in
    prefix_len_yes p b (text ++ next) ok.0 ∙ ap suc (prefix_whole p text next ok.1 stop)

-- what no byte of a class begins, none of a part of it does
narrower : (p q : ℕ → Bool) → ((b : ℕ) → q b ≡ false → p b ≡ false) → (next : List ℕ) → next_is q next ≡ false → next_is p next ≡ false
narrower p q weaker [] h = refl
narrower p q weaker (b ∷ next) h = weaker b h

-- a byte of a class is none that the class lacks
pub other_byte : (q : ℕ → Bool) (b n : ℕ) → q n ≡ false → q b ≡ true → (b == n) ≡ false
other_byte q b n without h = ⊎_elim
    (λ (same : (b == n) ≡ true). absurd (false≢true (sym without ∙ ap q (sym (eqb-true b n same)) ∙ h)))
    (λ (apart : (b == n) ≡ false). apart)
    (cases_Bool (b == n))

-- a name is taken whole
pub name_taken : (text next : List ℕ) → IsName text → next_is is_name_continue next ≡ false → name_at (text ++ next) ≡ Ok (kind.Name text, length text)
unfolding name_at
name_taken [] next h stop = absurd h
name_taken (b ∷ text) next h stop =
    let whole : prefix_len is_name_continue (b ∷ (text ++ next)) ≡ length (b ∷ text)
    = prefix_whole is_name_continue (b ∷ text) next (and_from _ _ (name_goes_on b h.0) h.1) stop in
    ap (λ n. Ok (kind.Name (take n (b ∷ (text ++ next))), n)) whole
    ∙ ap (λ t. Ok (kind.Name t, length (b ∷ text))) (take_at (b ∷ text) next (length (b ∷ text)) refl)

-- digits are counted whole
digits_whole : (text next : List ℕ) → IsDigits text → next_is is_ascii_digit next ≡ false → digits_len (text ++ next) ≡ length text
digits_whole [] next h stop = absurd h
digits_whole (b ∷ text) next h stop = prefix_whole is_ascii_digit (b ∷ text) next h stop

-- digits begin with one
digits_first : (text next : List ℕ) → IsDigits text → next_is is_ascii_digit (text ++ next) ≡ true
digits_first [] next h = absurd h
digits_first (b ∷ text) next h = (and_parts (is_ascii_digit b) (list_all is_ascii_digit text) h).0

-- digits without a leading 0 are counted whole
natural_whole : (text next : List ℕ) → IsNatural text → next_is is_ascii_digit next ≡ false → natural_len (text ++ next) ≡ length text
natural_whole [] next h stop = absurd h
natural_whole (b ∷ text) next h stop = ⊎_elim
    (λ (is_zero : (b == 48) ≡ true).
    cond-true (b == 48) 1 (digits_len (b ∷ (text ++ next))) is_zero ∙ ap (λ t. length (b ∷ t)) (sym (MatchBool-at_true _ _ is_zero h)))
    (λ (other : (b == 48) ≡ false).
    cond-false (b == 48) 1 (digits_len (b ∷ (text ++ next))) other ∙ digits_whole (b ∷ text) next (MatchBool-at_false _ _ other h) stop)
    (cases_Bool (b == 48))

-- they begin with a digit
natural_first : (text next : List ℕ) → IsNatural text → next_is is_ascii_digit (text ++ next) ≡ true
natural_first [] next h = absurd h
natural_first (b ∷ text) next h = ⊎_elim
    (λ (is_zero : (b == 48) ≡ true). ap is_ascii_digit (eqb-true b 48 is_zero))
    (λ (other : (b == 48) ≡ false). digits_first (b ∷ text) next (MatchBool-at_false _ _ other h))
    (cases_Bool (b == 48))

-- an IntegerPart is counted whole
integer_whole : (text next : List ℕ) → IsInteger text → next_is is_ascii_digit next ≡ false → integer_len (text ++ next) ≡ length text
integer_whole [] next h stop = absurd h
integer_whole (b ∷ text) next h stop = ⊎_elim
    (λ (minus : (b == 45) ≡ true).
    let one : minus_len (b ∷ (text ++ next)) ≡ 1 = cond-true (b == 45) 1 0 minus in
    ap (λ m. m + natural_len (drop m (b ∷ (text ++ next)))) one
    ∙ ap (λ n. 1 + n) (natural_whole text next (MatchBool-at_true _ _ minus h) stop) ∙ omega arith)
    (λ (plain : (b == 45) ≡ false).
    let none : minus_len (b ∷ (text ++ next)) ≡ 0 = cond-false (b == 45) 1 0 plain in
    ap (λ m. m + natural_len (drop m (b ∷ (text ++ next)))) none
    ∙ ap (λ n. 0 + n) (natural_whole (b ∷ text) next (MatchBool-at_false _ _ plain h) stop) ∙ omega arith)
    (cases_Bool (b == 45))

-- a number starts with it
pub integer_starts : (text next : List ℕ) → IsInteger text → starts_number (text ++ next) ≡ true
integer_starts [] next h = absurd h
integer_starts (b ∷ text) next h = ⊎_elim
    (λ (minus : (b == 45) ≡ true). or_right _ _ (and_from _ _ minus (natural_first text next (MatchBool-at_true _ _ minus h))))
    (λ (plain : (b == 45) ≡ false). or_left _ _ (natural_first (b ∷ text) next (MatchBool-at_false _ _ plain h)))
    (cases_Bool (b == 45))

-- a FractionalPart is counted whole
fraction_whole : (text next : List ℕ) → IsFraction text → next_is is_ascii_digit next ≡ false → fraction_len (text ++ next) ≡ length text
fraction_whole [] next h stop = absurd h
fraction_whole (b ∷ text) next h stop =
    cond-true _ (1 + digits_len (text ++ next)) 0 (and_from _ _ (eq-eqb b 46 h.0) (digits_first text next h.1))
    ∙ ap (λ n. 1 + n) (digits_whole text next h.1 stop) ∙ omega arith

-- where no `.` is next there is none
no_fraction : (next : List ℕ) → next_is (λ b. b == 46) next ≡ false → fraction_len next ≡ 0
no_fraction [] h = refl
no_fraction (b ∷ next) h = cond-false _ (1 + digits_len next) 0 (and_left (b == 46) (next_is is_ascii_digit next) h)

-- digits behind a sign are counted whole
signed_whole : (text next : List ℕ) → IsSignedDigits text → next_is is_ascii_digit next ≡ false → signed_digits_len (text ++ next) ≡ length text
signed_whole [] next h stop = absurd h
signed_whole (b ∷ text) next h stop = ⊎_elim
    (λ (sign : (b == 43 || b == 45) ≡ true).
    let digits = MatchBool-at_true _ _ sign h in
    let one : sign_len (b ∷ (text ++ next)) ≡ 1 = cond-true (b == 43 || b == 45) 1 0 sign in
    ap (λ m. cond (next_is is_ascii_digit (drop m (b ∷ (text ++ next)))) (m + digits_len (drop m (b ∷ (text ++ next)))) 0) one
    ∙ cond-true _ (1 + digits_len (text ++ next)) 0 (digits_first text next digits)
    ∙ ap (λ n. 1 + n) (digits_whole text next digits stop) ∙ omega arith)
    (λ (plain : (b == 43 || b == 45) ≡ false).
    let digits = MatchBool-at_false _ _ plain h in
    let none : sign_len (b ∷ (text ++ next)) ≡ 0 = cond-false (b == 43 || b == 45) 1 0 plain in
    ap (λ m. cond (next_is is_ascii_digit (drop m (b ∷ (text ++ next)))) (m + digits_len (drop m (b ∷ (text ++ next)))) 0) none
    ∙ cond-true _ (0 + digits_len (b ∷ (text ++ next))) 0 (digits_first (b ∷ text) next digits)
    ∙ ap (λ n. 0 + n) (digits_whole (b ∷ text) next digits stop) ∙ omega arith)
    (cases_Bool (b == 43 || b == 45))

-- there is at least one
signed_some : (text : List ℕ) → IsSignedDigits text → 0 < length text
signed_some [] h = absurd h
signed_some (b ∷ text) h = omega arith

-- an ExponentPart is counted whole
exponent_whole : (text next : List ℕ) → IsExponent text → next_is is_ascii_digit next ≡ false → exponent_len (text ++ next) ≡ length text
exponent_whole [] next h stop = absurd h
exponent_whole (b ∷ text) next h stop =
    let whole = signed_whole text next h.1 stop in
    let some : nat_lt 0 (signed_digits_len (text ++ next)) ≡ true = lt-ltb 0 _ (omega (arith, whole, signed_some text h.1)) in
    cond-true _ (1 + signed_digits_len (text ++ next)) 0 (and_from _ _ h.0 some) ∙ ap (λ n. 1 + n) whole ∙ omega arith

-- where no `e` or `E` is next there is none
no_exponent : (next : List ℕ) → next_is (λ b. b == 101 || b == 69) next ≡ false → exponent_len next ≡ 0
no_exponent [] h = refl
no_exponent (b ∷ next) h = cond-false _ (1 + signed_digits_len next) 0 (and_left (b == 101 || b == 69) _ h)

-- what may not follow a number: a digit, a `.`, and an `e` or `E`
no_digit : (b : ℕ) → cannot_follow_number b ≡ false → is_ascii_digit b ≡ false
no_digit b h = (or_no (is_ascii_digit b) (b == 46) (is_name_start b) h).0
  where
    or_no : (s t u : Bool) → (s || t || u) ≡ false → (s ≡ false) × (t ≡ false) × (u ≡ false)
    or_no false false u h = (refl, refl, h)
    or_no false true u h = absurd (false≢true (sym h))
    or_no true t u h = absurd (false≢true (sym h))

-- no `.`
no_point : (b : ℕ) → cannot_follow_number b ≡ false → (b == 46) ≡ false
no_point b h = ⊎_elim
    (λ (same : (b == 46) ≡ true). absurd (false≢true (sym h ∙ ap cannot_follow_number (eqb-true b 46 same))))
    (λ (apart : (b == 46) ≡ false). apart)
    (cases_Bool (b == 46))

-- a byte at which a test fails is none at which it passes
apart_from : (q : ℕ → Bool) (b n : ℕ) → q n ≡ true → q b ≡ false → (b == n) ≡ false
apart_from q b n with' h = ⊎_elim
    (λ (same : (b == n) ≡ true). absurd (false≢true (sym h ∙ ap q (eqb-true b n same) ∙ with')))
    (λ (apart : (b == n) ≡ false). apart)
    (cases_Bool (b == n))

-- no `e` and no `E`
no_mark : (b : ℕ) → cannot_follow_number b ≡ false → (b == 101 || b == 69) ≡ false
no_mark b h = rw (apart_from cannot_follow_number b 101 refl h) (apart_from cannot_follow_number b 69 refl h)

-- the counts of the three parts, where each is counted whole
parts_whole : (w f e next : List ℕ) → integer_len (w ++ (f ++ (e ++ next))) ≡ length w → fraction_len (f ++ (e ++ next)) ≡ length f
    → exponent_len (e ++ next) ≡ length e → number_len (w ++ (f ++ (e ++ next))) ≡ length w + length f + length e
parts_whole w f e next hw hf he =
    let bytes = w ++ (f ++ (e ++ next)) in
    let behind : drop (length w + length f) bytes ≡ e ++ next
    = ap (drop (length w + length f)) (sym (append_assoc w f (e ++ next))) ∙ drop_at (w ++ f) (e ++ next) (length w + length f) (length-append w f) in
    ap (λ k. k + fraction_len (drop k bytes) + exponent_len (drop (k + fraction_len (drop k bytes)) bytes)) hw
    ∙ ap (λ bs. length w + fraction_len bs + exponent_len (drop (length w + fraction_len bs) bytes)) (drop_at w (f ++ (e ++ next)) (length w) refl)
    ∙ ap (λ k. length w + k + exponent_len (drop (length w + k) bytes)) hf
    ∙ ap (λ bs. length w + length f + exponent_len bs) behind
    ∙ ap (λ k. length w + length f + k) he

-- a number that is counted whole is taken, where nothing stands behind it that may not follow
number_taken : (at : ℕ) (text next : List ℕ) (whole : Bool) → number_len (text ++ next) ≡ length text → (length text == integer_len (text ++ next)) ≡ whole
    → next_is cannot_follow_number next ≡ false → number_at at (text ++ next) ≡ Ok (number_kind whole text, length text)
unfolding number_at
number_taken at text next whole len is stop =
    let bytes = text ++ next in
    ap (λ n. cond (next_is cannot_follow_number (drop n bytes)) (Err (BadNumber at)) (Ok (number_kind (n == integer_len bytes) (take n bytes), n))) len
    ∙ cond-false _ (Err (BadNumber at)) _ (ap (next_is cannot_follow_number) (drop_at text next (length text) refl) ∙ stop)
    ∙ ap (λ t. Ok (number_kind (length text == integer_len bytes) t, length text)) (take_at text next (length text) refl)
    ∙ ap (λ t. Ok (number_kind t text, length text)) is

-- a whole number is taken whole
pub int_taken : (at : ℕ) (text next : List ℕ) → IsInteger text → next_is cannot_follow_number next ≡ false → number_at at (text ++ next) ≡ Ok (kind.Int text, length text)
int_taken at text next is stop =
    let whole = integer_whole text next is (narrower is_ascii_digit cannot_follow_number no_digit next stop) in
    let len : number_len (text ++ next) ≡ length text
    = parts_whole text [] [] next whole (no_fraction next (narrower (λ b. b == 46) cannot_follow_number no_point next stop))
    (no_exponent next (narrower (λ b. b == 101 || b == 69) cannot_follow_number no_mark next stop)) ∙ omega arith in
    number_taken at text next true len (eq-eqb _ _ (sym whole)) stop

-- a part that may be left out, counted whole
optional_whole : (P : List ℕ → Type 0) (count : List ℕ → ℕ) (text next : List ℕ) → (P text → count (text ++ next) ≡ length text) → count next ≡ 0
    → IsOptional P text → count (text ++ next) ≡ length text
optional_whole P count text next whole none (inl empty) = subst (λ t. count (t ++ next) ≡ length t) (sym empty) none
optional_whole P count text next whole none (inr is) = whole is

-- what is behind a part that may be left out fails a test that fails at the part
optional_stops : (P : List ℕ → Type 0) (p : ℕ → Bool) (text next : List ℕ) → (P text → next_is p (text ++ next) ≡ false) → next_is p next ≡ false
    → IsOptional P text → next_is p (text ++ next) ≡ false
optional_stops P p text next first stop (inl empty) = subst (λ t. next_is p (t ++ next) ≡ false) (sym empty) stop
optional_stops P p text next first stop (inr is) = first is

-- a FractionalPart begins with a `.`
fraction_first : (p : ℕ → Bool) (text next : List ℕ) → p 46 ≡ false → IsFraction text → next_is p (text ++ next) ≡ false
fraction_first p [] next h is = absurd is
fraction_first p (b ∷ text) next h is = ap p is.0 ∙ h

-- an ExponentPart begins with an `e` or `E`
exponent_first : (p : ℕ → Bool) (text next : List ℕ) → p 101 ≡ false → p 69 ≡ false → IsExponent text → next_is p (text ++ next) ≡ false
exponent_first p [] next h k is = absurd is
exponent_first p (b ∷ text) next h k is = ⊎_elim
    (λ (e : (b == 101) ≡ true). ap p (eqb-true b 101 e) ∙ h)
    (λ (other : (b == 101) ≡ false). ap p (eqb-true b 69 (second (b == 101) (b == 69) other is.0)) ∙ k)
    (cases_Bool (b == 101))
  where
    second : (s t : Bool) → s ≡ false → (s || t) ≡ true → t ≡ true
    second false t no' h = h
    second true t no' h = absurd (false≢true (sym no'))

-- what is not empty has a byte
some_byte : (text : List ℕ) → text ≢ [] → 0 < length text
some_byte [] h = absurd (h refl)
some_byte (b ∷ text) h = omega arith

-- a FloatValue is taken whole
pub float_taken : (at : ℕ) (text next : List ℕ) → IsFloat text → next_is cannot_follow_number next ≡ false → number_at at (text ++ next) ≡ Ok (kind.Float text, length text)
float_taken at text next is stop =
    let w = is.whole in
    let f = is.fraction in
    let e = is.exponent in
    let digit = narrower is_ascii_digit cannot_follow_number no_digit next stop in
    let point = narrower (λ b. b == 46) cannot_follow_number no_point next stop in
    let mark = narrower (λ b. b == 101 || b == 69) cannot_follow_number no_mark next stop in
    let split : text ++ next ≡ w ++ (f ++ (e ++ next))
    = ap (λ t. t ++ next) is.parts ∙ append_assoc w (f ++ e) next ∙ ap (λ t. w ++ t) (append_assoc f e next) in
    let e_digit = optional_stops IsExponent is_ascii_digit e next (exponent_first is_ascii_digit e next refl refl) digit is.is_exponent in
    let e_point = optional_stops IsExponent (λ b. b == 46) e next (exponent_first (λ b. b == 46) e next refl refl) point is.is_exponent in
    let f_digit = optional_stops IsFraction is_ascii_digit f (e ++ next) (fraction_first is_ascii_digit f (e ++ next) refl) e_digit is.is_fraction in
    let hw = integer_whole w (f ++ (e ++ next)) is.is_whole f_digit in
    let hf = optional_whole IsFraction fraction_len f (e ++ next) (λ k. fraction_whole f (e ++ next) k e_digit) (no_fraction (e ++ next) e_point) is.is_fraction in
    let he = optional_whole IsExponent exponent_len e next (λ k. exponent_whole e next k digit) (no_exponent next mark) is.is_exponent in
    let long : length text ≡ length w + length f + length e
    = ap length is.parts ∙ length-append w (f ++ e) ∙ ap (λ k. length w + k) (length-append f e) ∙ omega arith in
    let len : number_len (text ++ next) ≡ length text = ap number_len split ∙ parts_whole w f e next hw hf he ∙ sym long in
    let whole : integer_len (text ++ next) ≡ length w = ap integer_len split ∙ hw in
    let longer : length text ≡ integer_len (text ++ next) → ⊥ = λ same. omega (arith, long, whole, some_byte (f ++ e) is.some, length-append f e) in
    number_taken at text next false len (ne_eqb _ _ longer) stop
