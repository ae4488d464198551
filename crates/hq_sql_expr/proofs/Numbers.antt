-- Numbers and their shortest decimals.
use Rattle.std.proofs.Common.{◌≡◌, ℕ, ◌<◌, ◌^◌, Bool, true, false, ◌&&◌, cond, List, [], ◌∷◌, ◌++◌, Option, Some, None, Result, Ok, Err, refl, sym, ap, ◌∙◌, arith}
use Rattle.std.specs.Prelude.{bytes_eq, nat_lt, nat_le}
use Rattle.std.proofs.lemmas.Bool.{ltb-true, lt-ltb, le-leb}
use Rattle.std.proofs.lemmas.Fmt.{decimal_is_IsNumeral, parse-decimal, IsAscii-decimal}
use Rattle.std.proofs.lemmas.Str.{is_utf8-from_IsUtf8, IsUtf8-from_ascii}
use Rattle.std.proofs.lemmas.Str.Parse.{digit_from_value}
use Rattle.std.specs.Fmt.{decimal}
use Rattle.std.specs.Str.Parse.{digits_value, AllDigits, ParsesUnsigned}
use Rattle.hq_sql_tree.specs.Form.{is_text}
use Rattle.hq_sql_expr.specs.Reading.{◌>>=◌, text_from, is_digit, leading_digits, after_digits, number_from, number_at}
use Rattle.hq_sql_expr.proofs.Sound.{Taken, Sound, Spelled}
use Rattle.hq_sql_expr.proofs.Ints.{bytes_same, bytes_self, no_zero}

and_both : (a b : Bool) → (a && b) ≡ true → (a ≡ true) × (b ≡ true)
and_both true b e = (refl, e)
and_both false b e = absurd cc

some_is : (b : Bool) (m n : ℕ) → cond b (Some m) None ≡ Some n → (b ≡ true) × (m ≡ n)
some_is true m n e = (refl, cc)
some_is false m n e = absurd cc

-- what is read is the shortest decimal of a number of 64 bits
pub number_from_takes : (digits : List ℕ) (n : ℕ) → number_from digits ≡ Some n → (digits ≡ decimal n) × (nat_lt n (2 ^ 64) ≡ true)
unfolding number_from
number_from_takes digits n e =
    let v = digits_value 10 digits in
    let k = some_is (nat_lt v (2 ^ 64) && bytes_eq digits (decimal v)) v n e in
    let both = and_both (nat_lt v (2 ^ 64)) (bytes_eq digits (decimal v)) k.0 in
    (bytes_same digits (decimal v) both.1 ∙ ap decimal k.1, ap (λ m. nat_lt m (2 ^ 64)) (sym k.1) ∙ both.0)

pub number_from_again : (n : ℕ) → nat_lt n (2 ^ 64) ≡ true → number_from (decimal n) ≡ Some n
unfolding number_from
number_from_again n e =
    let k = decimal_is_IsNumeral n (ltb-true n (2 ^ 64) e) in
    rw (k.1, e, bytes_self (decimal n)) refl

number_is_text : (n : ℕ) → n < 2 ^ 64 → is_text (decimal n) ≡ true
unfolding is_text
number_is_text n lt = rw (is_utf8-from_IsUtf8 (decimal n) (IsUtf8-from_ascii (decimal n) (IsAscii-decimal n lt)), no_zero (decimal n) (decimal_is_IsNumeral n lt).0.1) refl

-- ---- what parse and to_string give

-- these digits are parsed as this number
abbrev pub Parsed : List ℕ → ℕ → Type 0
Parsed digits n = ParsesUnsigned {E = ℕ} 64 10 digits (Ok n)

-- or as none
abbrev pub Unparsed : List ℕ → Type 0
Unparsed digits = ParsesUnsigned {E = ℕ} 64 10 digits (Err 0)

parse_gives : (digits : List ℕ) (n : ℕ) → nat_lt n (2 ^ 64) ≡ true → digits ≡ decimal n → (r : Result ℕ ℕ) → ParsesUnsigned 64 10 digits r → r ≡ Ok n
parse_gives digits n e is r h = parse-decimal 64 n digits r (ltb-true n (2 ^ 64) e) (ltb-true n (2 ^ 64) e) is h

not_read : (digits : List ℕ) → ((n : ℕ) → number_from digits ≡ Some n → ⊥) → (o : Option ℕ) → number_from digits ≡ o → number_from digits ≡ None
not_read digits never None e = e
not_read digits never (Some n) e = absurd (never n e)

pub none_parsed : (digits : List ℕ) → Unparsed digits → number_from digits ≡ None
none_parsed digits h =
    let never : (n : ℕ) → number_from digits ≡ Some n → ⊥ =
    λ n e. let k = number_from_takes digits n e in let ok : ◌≡◌ {A = Result ℕ ℕ} (Err 0) (Ok n) = parse_gives digits n k.1 k.0 (Err 0) h
    in absurd cc in
    not_read digits never (number_from digits) refl

pub none_shortest : (digits written : List ℕ) (m : ℕ) → Parsed digits m → written ≡ decimal m → bytes_eq written digits ≡ false → number_from digits ≡ None
none_shortest digits written m h writes other =
    let never : (n : ℕ) → number_from digits ≡ Some n → ⊥ = λ n e.
    let k = number_from_takes digits n e in
    let ok : ◌≡◌ {A = Result ℕ ℕ} (Ok m) (Ok n) = parse_gives digits n k.1 k.0 (Ok m) h in
    let same : m ≡ n = cc in
    let equal : bytes_eq written digits ≡ true = ap (λ t. bytes_eq t digits) (writes ∙ ap decimal same ∙ sym k.0) ∙ bytes_self digits in
    absurd cc in
    not_read digits never (number_from digits) refl

pub some_parsed : (digits written : List ℕ) (m : ℕ) → m < 2 ^ 64 → Parsed digits m → written ≡ decimal m → bytes_eq written digits ≡ true → number_from digits ≡ Some m
some_parsed digits written m lt h writes same = ap number_from (sym (sym writes ∙ bytes_same written digits same)) ∙ number_from_again m (lt-ltb m (2 ^ 64) lt)

-- ---- the digits at the front

digits_join : (bytes : List ℕ) → bytes ≡ leading_digits bytes ++ after_digits bytes
digits_join [] = refl
digits_join (b ∷ bytes) =
    elim (is_digit b) as (λ t. b ∷ bytes ≡ cond t (b ∷ leading_digits bytes) [] ++ cond t (after_digits bytes) (b ∷ bytes))
    [ true ↦ ap (λ t. b ∷ t) (digits_join bytes) | false ↦ refl ]

number_by : (bytes digits rest : List ℕ) → bytes ≡ digits ++ rest → (o : Option ℕ) → number_from digits ≡ o → Taken (Spelled decimal (λ n. nat_lt n (2 ^ 64) ≡ true)) bytes (o >>= λ n. Some (n, rest))
number_by bytes digits rest is None e = tt
number_by bytes digits rest is (Some n) e = let k = number_from_takes digits n e in (digits, is, (k.0, k.1))

text_by : (bytes digits rest : List ℕ) → bytes ≡ digits ++ rest → (b : Bool)
    → Taken (Spelled decimal (λ n. nat_lt n (2 ^ 64) ≡ true)) bytes (cond b (Some digits) None >>= λ t. number_from t >>= λ n. Some (n, rest))
text_by bytes digits rest is true = number_by bytes digits rest is (number_from digits) refl
text_by bytes digits rest is false = tt

pub number_takes : Sound number_at (Spelled decimal (λ n. nat_lt n (2 ^ 64) ≡ true))
unfolding number_at text_from
number_takes = record { takes = λ bytes. text_by bytes (leading_digits bytes) (after_digits bytes) (digits_join bytes) (is_text (leading_digits bytes)) }

-- no digit stands next
abbrev pub NoDigit : List ℕ → Type 0
NoDigit rest = leading_digits rest ≡ []

all_leading : (ds rest : List ℕ) → AllDigits 10 ds → NoDigit rest → leading_digits (ds ++ rest) ≡ ds
all_leading [] rest h none = none
all_leading (d ∷ ds) rest h none =
    let k = digit_from_value d h.0 in
    let low : nat_le 48 d ≡ true = le-leb 48 d (omega (arith, k)) in
    let high : nat_le d 57 ≡ true = le-leb d 57 (omega (arith, k)) in
    rw (low, high) (ap (λ t. d ∷ t) (all_leading ds rest h.1 none))

after_none : (rest : List ℕ) → NoDigit rest → after_digits rest ≡ rest
after_none [] none = refl
after_none (b ∷ rest) none = elim (is_digit b) as (λ t. cond t (b ∷ leading_digits rest) [] ≡ [] → cond t (after_digits rest) (b ∷ rest) ≡ b ∷ rest) [ true ↦ λ e. absurd cc | false ↦ λ e. refl ] none

all_after : (ds rest : List ℕ) → AllDigits 10 ds → NoDigit rest → after_digits (ds ++ rest) ≡ rest
all_after [] rest h none = after_none rest none
all_after (d ∷ ds) rest h none =
    let k = digit_from_value d h.0 in
    let low : nat_le 48 d ≡ true = le-leb 48 d (omega (arith, k)) in
    let high : nat_le d 57 ≡ true = le-leb d 57 (omega (arith, k)) in
    rw (low, high) (all_after ds rest h.1 none)

pub number_again : (n : ℕ) (rest : List ℕ) → nat_lt n (2 ^ 64) ≡ true → NoDigit rest → number_at (decimal n ++ rest) ≡ Some (n, rest)
unfolding number_at text_from
number_again n rest e none =
    let lt = ltb-true n (2 ^ 64) e in
    let digits = (decimal_is_IsNumeral n lt).0.1 in
    rw (all_leading (decimal n) rest digits none, all_after (decimal n) rest digits none, number_is_text n lt, number_from_again n e) refl
