-- The field of a value is read as that value.
use Rattle.std.proofs.Common.{◌≡◌, ◌≢◌, ◌∙◌, ℕ, suc, ◌+◌, ◌<◌, ◌^◌, ◌==◌, ℤ, pos, negsuc, List, [], ◌∷◌, length, Bool, true, false, not, Ok, map, refl, sym, ap, arith, ltb-true, bytes_eq, decimal, ne_eqb, rules}
use Rattle.std.specs.Fmt.{signed_decimal}
use Rattle.std.specs.List.{list_all}
use Rattle.std.specs.Prelude.{slice_index}
use Rattle.std.specs.Str.{is_utf8}
use Rattle.std.specs.Str.Parse.{IsNumeral, AllDigits, signed_digits_value, without_leading_sign}
use Rattle.std.proofs.lemmas.Bool.{and_parts}
use Rattle.std.proofs.lemmas.Fmt.{IsAscii-signed, decimal_is_IsNumeral}
use Rattle.std.proofs.lemmas.Str.{is_utf8-from_IsUtf8, IsUtf8-from_ascii}
use Rattle.std.proofs.lemmas.Str.Parse.{digit_from_value}
use lib.Signed.{mag}
use Rattle.hq_base.specs.Due.{and_then, mapped}
use Rattle.hq_base.specs.Refused.{text_of}
use Rattle.hq_base.specs.Text.{has_zero}
use Rattle.hq_base.specs.declared.value.Ty.{Ty}
use Rattle.hq_base.specs.declared.value.Ty.TheVariants.{Integer, Bigint, Text, Boolean, Uuid, Opaque}
use Rattle.hq_base.specs.declared.value.Val.{Val}
use Rattle.hq_base.specs.declared.value.Val.TheVariants as val
use Rattle.hq_model.specs.Database.{int_fits, value_fits, row_fits, is_text_of, is_boolean}
use Rattle.hq_model.specs.declared.table.Column.{Column}
use Rattle.hq_model.proofs.Numbers.{whole_number-parsed}
use Rattle.hq_load_tables.specs.Field.{field_due, null_field, typed_due}
use Rattle.hq_load_tables.specs.Load.{fields_due, placed}
use Rattle.hq_laws_written.specs.Tables.Written.{field_of, is_plain}

-- ---- whole numbers

-- what a type of whole numbers holds is below 2 ^ 63
small : (ty : Ty) (n : ℤ) → int_fits ty n ≡ true → mag n < 2 ^ 63
small Integer (pos n) h = omega (arith, ltb-true n (2 ^ 31) h)
small Integer (negsuc n) h = omega (arith, ltb-true n (2 ^ 31) h)
small Bigint (pos n) h = ltb-true n (2 ^ 63) h
small Bigint (negsuc n) h = ltb-true n (2 ^ 63) h
small Text n h = cc
small Boolean n h = cc
small Uuid n h = cc
small Opaque n h = cc

-- digits hold no zero byte
digits_clean : (ds : List ℕ) → AllDigits 10 ds → has_zero ds ≡ false
digits_clean [] h = refl
digits_clean (c ∷ cs) h = let range = digit_from_value c h.0 in rw (ne_eqb c 0 (λ e. omega (arith, range, e))) (digits_clean cs h.1)

-- digits begin with none of the bytes below 48 or above 57
first_digit : (ds : List ℕ) (c : ℕ) → AllDigits 10 ds → (c < 48) → slice_index ds 0 ≡ c → 0 < length ds → ⊥
first_digit [] c h low e some = omega arith
first_digit (d ∷ ds) c h low e some = let range = digit_from_value d h.0 in omega (arith, range, e, low)

-- digits are not what stands for NULL
not_null : (ds : List ℕ) → AllDigits 10 ds → bytes_eq ds null_field ≡ false
not_null [] h = refl
not_null (d ∷ ds) h = let range = digit_from_value d h.0 in rw (ne_eqb d 92 (λ e. omega (arith, range, e))) refl

-- a number's text
pub record IsNumberText (n : ℤ) (s : List ℕ) : Type 0 where
  clean : has_zero s ≡ false
  other : bytes_eq s null_field ≡ false
  no_plus : slice_index s 0 ≢ 43
  numeral : IsNumeral 10 (without_leading_sign s)
  value : n ≡ signed_digits_value 10 s

number_text : (n : ℤ) → mag n < 2 ^ 63 → IsNumberText n (signed_decimal n)
number_text (pos n) h =
    let e = decimal_is_IsNumeral n (omega arith) in
    let ds = decimal n in
    let no_plus : slice_index ds 0 ≢ 43 = λ is. first_digit ds 43 e.0.1 (omega arith) is e.0.0 in
    let no_minus : (slice_index ds 0 == 45) ≡ false = ne_eqb (slice_index ds 0) 45 (λ is. first_digit ds 45 e.0.1 (omega arith) is e.0.0) in
    let no_plus_test : (slice_index ds 0 == 43) ≡ false = ne_eqb (slice_index ds 0) 43 no_plus in
    let same : without_leading_sign ds ≡ ds = rw (no_minus, no_plus_test) refl in
    record {
      clean = digits_clean ds e.0.1;
      other = not_null ds e.0.1;
      no_plus = no_plus;
      numeral = rw same e.0;
      value = rw no_minus (rw no_plus_test (ap pos (sym e.1)));
    }
number_text (negsuc n) h =
    let e = decimal_is_IsNumeral (suc n) (omega arith) in
    record {
      clean = digits_clean (decimal (suc n)) e.0.1;
      other = refl;
      no_plus = λ is. omega (arith, is);
      numeral = e.0;
      value = rw e.1 refl;
    }

text_whole : (s : List ℕ) → is_utf8 s ≡ true → has_zero s ≡ false → text_of s ≡ Ok s
text_whole s utf8 none = rw (utf8, none) refl

-- a number of the type is read as itself
read_whole : (ty : Ty) (n : ℤ) → int_fits ty n ≡ true → typed_due ty (signed_decimal n) ≡ Ok (val.Int n)
read_whole Integer n h =
    let t = number_text n (small Integer n h) in
    rw (← whole_number-parsed Integer (signed_decimal n) n t.no_plus t.numeral t.value h) refl
read_whole Bigint n h =
    let t = number_text n (small Bigint n h) in
    rw (← whole_number-parsed Bigint (signed_decimal n) n t.no_plus t.numeral t.value h) refl
read_whole Text n h = cc
read_whole Boolean n h = cc
read_whole Uuid n h = cc
read_whole Opaque n h = cc

-- ---- fields

read_text : (ty : Ty) (s : List ℕ) → is_text_of ty s ≡ true → typed_due ty s ≡ Ok (val.Text s)
read_text Text s h = refl
read_text Uuid s h = rw h refl
read_text Opaque s h = refl
read_text Integer s h = cc
read_text Bigint s h = cc
read_text Boolean s h = cc

read_truth : (ty : Ty) (b : Bool) → is_boolean ty ≡ true → typed_due ty (field_of (val.Bool b)) ≡ Ok (val.Bool b)
read_truth Boolean true h = refl
read_truth Boolean false h = refl
read_truth Integer b h = cc
read_truth Bigint b h = cc
read_truth Text b h = cc
read_truth Uuid b h = cc
read_truth Opaque b h = cc

not_true : (b : Bool) → not b ≡ true → b ≡ false
not_true true h = cc
not_true false h = refl

-- a field of this text that does not stand for NULL
of_text : (c : Column) (s : List ℕ) → is_utf8 s ≡ true → has_zero s ≡ false → bytes_eq s null_field ≡ false → field_due c s ≡ typed_due c.ty s
of_text c s utf8 none other = rw (text_whole s utf8 none) (rw other refl)

null_text : is_utf8 null_field ≡ true
null_text = is_utf8-from_IsUtf8 null_field (IsUtf8-from_ascii null_field (search rules))

-- the field of a value is read as that value
pub field_back : (c : Column) (v : Val) → value_fits c v ≡ true → is_plain v ≡ true → field_due c (field_of v) ≡ Ok v
field_back c val.Null fits plain = rw (text_whole null_field null_text refl) (rw fits refl)
field_back c (val.Int n) fits plain =
    let low = small c.ty n fits in
    let t = number_text n low in
    let utf8 = is_utf8-from_IsUtf8 (signed_decimal n) (IsUtf8-from_ascii (signed_decimal n) (IsAscii-signed n low)) in
    of_text c (signed_decimal n) utf8 t.clean t.other ∙ read_whole c.ty n fits
field_back c (val.Text s) fits plain =
    let p = and_parts _ _ plain in
    let q = and_parts _ _ p.1 in
    of_text c s p.0 (not_true _ q.0) (not_true _ q.1) ∙ read_text c.ty s fits
field_back c (val.Bool true) fits plain = of_text c (116 ∷ []) (is_utf8-from_IsUtf8 _ (IsUtf8-from_ascii _ (search rules))) refl refl ∙ read_truth c.ty true fits
field_back c (val.Bool false) fits plain = of_text c (102 ∷ []) (is_utf8-from_IsUtf8 _ (IsUtf8-from_ascii _ (search rules))) refl refl ∙ read_truth c.ty false fits

-- the fields of a row are read as its values
pub fields_back : (line col : ℕ) (cs : List Column) (vs : List Val) → row_fits cs vs ≡ true → list_all is_plain vs ≡ true → fields_due line col cs (map field_of vs) ≡ Ok vs
fields_back line col [] [] fits plain = refl
fields_back line col [] (v ∷ vs) fits plain = cc
fields_back line col (c ∷ cs) [] fits plain = cc
fields_back line col (c ∷ cs) (v ∷ vs) fits plain =
    let p = and_parts _ _ fits in
    let q = and_parts _ _ plain in
    ap (λ r. and_then (λ w. mapped (λ ws. w ∷ ws) (fields_due line (col + 1) cs (map field_of vs))) (placed line col r)) (field_back c v p.0 q.0)
    ∙ ap (mapped (λ ws. v ∷ ws)) (fields_back line (col + 1) cs vs p.1 q.1)
