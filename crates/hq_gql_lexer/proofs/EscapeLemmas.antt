-- Escapes: their bytes, and that nothing else decides them.
use Rattle.std.proofs.Common.{◌≡◌, ℕ, suc, ◌+◌, ◌*◌, ◌<◌, Bool, true, false, cond, List, [], ◌∷◌, ◌++◌, length, drop, Option, Some, None, refl, sym, ap, ◌∙◌, subst, inl, inr, ⊎_elim, arith, ◌⊎◌, lit<, append_assoc}
use Rattle.std.specs.Prelude.{◌≢◌, ◌||◌, ◌==◌}
use Rattle.std.specs.List.{list_all}
use Rattle.std.specs.Option.{option_map}
use Rattle.std.specs.Char.{IsScalar, is_digit, digit_value}
use Rattle.std.specs.Char.Utf16.{is_high_surrogate, is_low_surrogate, surrogate_pair_char}
use Rattle.std.specs.Str.{IsAscii}
use Rattle.std.proofs.lemmas.Bool.{cases_Bool, false≢true, eqb-true, ltb-true}
use Rattle.std.proofs.lemmas.Bool.Decides.{nat_tests}
use Rattle.std.proofs.lemmas.Option.{cond_some, option_and_then_some}
use Rattle.hq_gql_lexer.specs.Characters.{is_line_end}
use Rattle.hq_gql_lexer.specs.Escapes.{simple_escape, unit_at, pair_of, character_of, unicode_escape, simple_or, escape_at}
use Rattle.hq_gql_lexer.specs.Strings.{plain_len}
use lib.Utf8.{low_scalar}
use Rattle.std.proofs.lemmas.Str.Ascii.{IsAscii-cons, IsAscii-nil}
use Rattle.std.proofs.lemmas.Str.{IsAscii-append}
use Rattle.std.proofs.lemmas.List.{drop_at, length-append}
use Rattle.hq_gql_lexer.proofs.TextLemmas.{and_parts, both}
use Rattle.hq_gql_lexer.proofs.OptionLemmas.{option_map-add, option_map-zero}

-- a byte that neither ends a plain string or its line nor takes what follows
pub record IsInner (b : ℕ) : Type 0 where
  pub no_end : is_line_end b ≡ false
  pub no_quote : (b == 34) ≡ false
  pub no_slash : (b == 92) ≡ false

-- such bytes are passed over
pub plain_len_inner : (b : ℕ) (bytes : List ℕ) → IsInner b → plain_len false (b ∷ bytes) ≡ option_map (λ n. 1 + n) (plain_len false bytes)
plain_len_inner b bytes h = rw h.no_end (rw h.no_quote (rw h.no_slash refl))

-- a front of such bytes is passed over
pub plain_len_over : (p : ℕ → Bool) → ((b : ℕ) → p b ≡ true → IsInner b) → (front bytes : List ℕ) → list_all p front ≡ true
    → plain_len false (front ++ bytes) ≡ option_map (λ n. length front + n) (plain_len false bytes)
plain_len_over p inner [] bytes h = option_map-zero (plain_len false bytes)
plain_len_over p inner (b ∷ front) bytes h =
    let ok = and_parts (p b) (list_all p front) h in
    plain_len_inner b (front ++ bytes) (inner b ok.0) ∙ ap (option_map (λ n. 1 + n)) (plain_len_over p inner front bytes ok.1)
    ∙ option_map-add 1 (length front) (suc (length front)) (plain_len false bytes) (omega arith)

-- the byte after a `\` is passed over, where it ends no line
pub plain_len_taken : (b : ℕ) (bytes : List ℕ) → is_line_end b ≡ false → plain_len true (b ∷ bytes) ≡ option_map (λ n. 1 + n) (plain_len false bytes)
plain_len_taken b bytes h = rw h refl

-- hexadecimal digits
abbrev pub is_hex : ℕ → Bool
is_hex b = is_digit b 16

-- a hexadecimal digit is no byte that is none
hex_differs : (b n : ℕ) → is_hex n ≡ false → is_hex b ≡ true → (b == n) ≡ false
hex_differs b n other h = ⊎_elim
    (λ (same : (b == n) ≡ true). absurd (false≢true (sym other ∙ ap is_hex (sym (eqb-true b n same)) ∙ h)))
    (λ (apart : (b == n) ≡ false). apart)
    (cases_Bool (b == n))

-- neither of two
neither : {s t : Bool} → s ≡ false → t ≡ false → (s || t) ≡ false
neither h k = rw h k

-- a hexadecimal digit is no line end, no quote and no `\`
hex_inner : (b : ℕ) → is_hex b ≡ true → IsInner b
hex_inner b h = record {
  no_end = neither (hex_differs b 10 refl h) (hex_differs b 13 refl h);
  no_quote = hex_differs b 34 refl h;
  no_slash = hex_differs b 92 refl h;
}

-- a hexadecimal digit is ASCII
hex_ascii : (b : ℕ) → is_hex b ≡ true → b < 128
hex_ascii b h = grind (arith, nat_tests)

-- a hexadecimal digit is worth less than 16
hex_small : (b : ℕ) → is_hex b ≡ true → digit_value b < 16
hex_small b h = ltb-true (digit_value b) 16 h

-- hexadecimal digits are ASCII
hex_IsAscii : (digits : List ℕ) → list_all is_hex digits ≡ true → IsAscii digits
hex_IsAscii [] h = IsAscii-nil
hex_IsAscii (b ∷ digits) h = let ok = and_parts (is_hex b) (list_all is_hex digits) h in IsAscii-cons b digits (hex_ascii b ok.0) (hex_IsAscii digits ok.1)

-- a `\u` and four hexadecimal digits
pub record IsUnit (bytes : List ℕ) (unit : ℕ) : Type 0 where
  pub digits : List ℕ
  pub rest : List ℕ
  pub split : bytes ≡ 92 ∷ 117 ∷ (digits ++ rest)
  pub four : length digits ≡ 4
  pub hex : list_all is_hex digits ≡ true
  pub small : unit < 65536
  pub alone : (other : List ℕ) → unit_at (92 ∷ 117 ∷ (digits ++ other)) ≡ Some unit

-- four digits are worth less than 65536
unit_small : (a b c d unit : ℕ) → a < 16 → b < 16 → c < 16 → d < 16 → ((a * 16 + b) * 16 + c) * 16 + d ≡ unit → unit < 65536
unit_small a b c d unit ha hb hc hd e = omega arith

-- where a unit is read there are a `\u` and four digits
pub unit_shape : (bytes : List ℕ) (unit : ℕ) → unit_at bytes ≡ Some unit → IsUnit bytes unit
unit_shape [] unit h = cc
unit_shape (x ∷ []) unit h = cc
unit_shape (x ∷ y ∷ []) unit h = cc
unit_shape (x ∷ y ∷ a ∷ []) unit h = cc
unit_shape (x ∷ y ∷ a ∷ b ∷ []) unit h = cc
unit_shape (x ∷ y ∷ a ∷ b ∷ c ∷ []) unit h = cc
unit_shape (x ∷ y ∷ a ∷ b ∷ c ∷ d ∷ rest) unit h =
    let found = cond_some _ _ unit h in
    let hd = and_parts _ (is_hex d) found.0 in
    let hc = and_parts _ (is_hex c) hd.0 in
    let hb = and_parts _ (is_hex b) hc.0 in
    let ha = and_parts _ (is_hex a) hb.0 in
    let hy = and_parts (x == 92) (y == 117) ha.0 in
    let ex : x ≡ 92 = eqb-true x 92 hy.0 in
    let ey : y ≡ 117 = eqb-true y 117 hy.1 in
    record {
      digits = a ∷ b ∷ c ∷ d ∷ [];
      rest = rest;
      split = ap (λ n. n ∷ y ∷ a ∷ b ∷ c ∷ d ∷ rest) ex ∙ ap (λ n. 92 ∷ n ∷ a ∷ b ∷ c ∷ d ∷ rest) ey;
      four = refl;
      hex = both ha.1 (both hb.1 (both hc.1 (both hd.1 refl)));
      small = unit_small _ _ _ _ unit (hex_small a ha.1) (hex_small b hb.1) (hex_small c hc.1) (hex_small d hd.1) found.1;
      alone = λ other. subst (λ n. unit_at (92 ∷ n ∷ a ∷ b ∷ c ∷ d ∷ other) ≡ Some unit) ey (subst (λ n. unit_at (n ∷ y ∷ a ∷ b ∷ c ∷ d ∷ other) ≡ Some unit) ex h);
    }

-- What stands behind the `\` of an escape: its bytes, which decide it whatever follows, and what follows. A string's end is not
-- among them, and its character is one but the zero one.
pub record IsEscape (more : List ℕ) (c n : ℕ) : Type 0 where
  pub behind : List ℕ
  pub rest : List ℕ
  pub split : more ≡ behind ++ rest
  pub count : n ≡ suc (length behind)
  pub anywhere : (other : List ℕ) → escape_at (92 ∷ (behind ++ other)) ≡ Some (c, suc (length behind))
  pub passes : (tail : List ℕ) → plain_len true (behind ++ tail) ≡ option_map (λ k. length behind + k) (plain_len false tail)
  pub is_ascii : IsAscii behind
  pub is_scalar : IsScalar c
  pub some : c ≢ 0

-- a simple escape
pub record IsSimple (e c : ℕ) : Type 0 where
  pub no_end : is_line_end e ≡ false
  pub is_ascii : e < 128
  pub small : c < 128
  pub some : 0 < c

-- a byte that begins a simple escape is no byte that begins none
simple_apart : (e n c : ℕ) → simple_escape n ≡ None → simple_escape e ≡ Some c → (e == n) ≡ false
simple_apart e n c other h = ⊎_elim
    (λ (same : (e == n) ≡ true). absurd (none_some (sym other ∙ ap simple_escape (sym (eqb-true e n same)) ∙ h)))
    (λ (apart : (e == n) ≡ false). apart)
    (cases_Bool (e == n))
  where
    none_some : None ≡ Some c → ⊥
    none_some h = cc

-- the byte of a simple escape ends no line, and stands for an ASCII character that is not zero
simple_shape : (e c : ℕ) → simple_escape e ≡ Some c → IsSimple e c
simple_shape e c h = record {
  no_end = neither (simple_apart e 10 c refl h) (simple_apart e 13 c refl h);
  is_ascii = grind (arith, nat_tests);
  small = grind (arith, nat_tests);
  some = grind (arith, nat_tests);
}

-- what comes of one unit or of two is a character
pub record IsCharacterOf (unit c : ℕ) : Type 0 where
  pub is_scalar : IsScalar c
  pub some : c ≢ 0

-- a unit that is no surrogate and not zero is a character
lone_character : (unit : ℕ) → unit < 65536 → is_high_surrogate unit ≡ false → (is_low_surrogate unit || unit == 0) ≡ false → IsCharacterOf unit unit
lone_character unit small high low = record { is_scalar = grind (arith, nat_tests); some = grind (arith, nat_tests) }

-- a high surrogate and a low one are a character
pub pair_character : (high low : ℕ) → is_high_surrogate high ≡ true → is_low_surrogate low ≡ true → IsCharacterOf high (surrogate_pair_char high low)
pair_character high low h l = record { is_scalar = grind (arith, nat_tests); some = grind (arith, nat_tests) }

-- the escape of a unit that is read is what its unit and the bytes behind it say
some_unit : (unit n : ℕ) (bytes : List ℕ) (c : Option (ℕ × ℕ)) → unit_at bytes ≡ Some unit → character_of unit (drop 6 bytes) ≡ c → unicode_escape bytes ≡ c
unfolding unicode_escape
some_unit unit n bytes c e f = rw e f

-- a `\u` escape of one unit
one_unit : (more : List ℕ) (unit : ℕ) → IsUnit (92 ∷ more) unit → is_high_surrogate unit ≡ false → (is_low_surrogate unit || unit == 0) ≡ false → IsEscape more unit 6
unfolding escape_at
one_unit more unit u high low =
    let is = lone_character unit u.small high low in
    let six : 6 ≡ suc (suc (length u.digits)) = omega (arith, u.four) in
    record {
      behind = 117 ∷ u.digits;
      rest = u.rest;
      split = cc;
      count = six;
      anywhere = λ other. some_unit unit 6 (92 ∷ 117 ∷ (u.digits ++ other)) _ (u.alone other) (rw high (rw low refl)) ∙ ap (λ n. Some (unit, n)) six;
      passes = λ tail. ap (option_map (λ n. 1 + n)) (plain_len_over is_hex hex_inner u.digits tail u.hex)
          ∙ option_map-add 1 (length u.digits) (suc (length u.digits)) (plain_len false tail) (omega arith);
      is_ascii = IsAscii-cons 117 u.digits (lit< tt) (hex_IsAscii u.digits u.hex);
      is_scalar = is.is_scalar;
      some = is.some;
    }

-- the bytes behind a `\` that are two units, cut behind the second
split_in_two : (more front next second rest : List ℕ) → 92 ∷ more ≡ 92 ∷ 117 ∷ (front ++ next) → next ≡ 92 ∷ 117 ∷ (second ++ rest)
    → more ≡ 117 ∷ ((front ++ 92 ∷ 117 ∷ second) ++ rest)
split_in_two more front next second rest e f =
    let begins : more ≡ 117 ∷ (front ++ next) = cc in
    begins ∙ ap (λ bytes. 117 ∷ (front ++ bytes)) f ∙ ap (λ bytes. 117 ∷ bytes) (sym (append_assoc front (92 ∷ 117 ∷ second) rest))

-- five counts of bytes, one after the other, are one
counted : (k m j : ℕ) (found : Option ℕ) → 3 + k + m ≡ j
    → option_map (λ n. 1 + n) (option_map (λ n. k + n) (option_map (λ n. 1 + n) (option_map (λ n. 1 + n) (option_map (λ n. m + n) found)))) ≡ option_map (λ n. j + n) found
counted k m j None e = refl
counted k m j (Some n) e = ap Some (omega arith)

-- two units hold no closing quote
passes_two : (front second tail : List ℕ) → list_all is_hex front ≡ true → list_all is_hex second ≡ true
    → plain_len true (117 ∷ ((front ++ 92 ∷ 117 ∷ second) ++ tail)) ≡ option_map (λ n. suc (length (front ++ 92 ∷ 117 ∷ second)) + n) (plain_len false tail)
passes_two front second tail h k =
    ap (λ bytes. plain_len true (117 ∷ bytes)) (append_assoc front (92 ∷ 117 ∷ second) tail)
    ∙ ap (option_map (λ n. 1 + n)) (plain_len_over is_hex hex_inner front (92 ∷ 117 ∷ (second ++ tail)) h
    ∙ ap (λ found. option_map (λ n. length front + n) (option_map (λ n. 1 + n) (option_map (λ n. 1 + n) found))) (plain_len_over is_hex hex_inner second tail k))
    ∙ counted (length front) (length second) _ (plain_len false tail) (omega (arith, length-append front (92 ∷ 117 ∷ second)))

-- a `\u` escape of two units
two_units : (more : List ℕ) (high low : ℕ) (u : IsUnit (92 ∷ more) high) → IsUnit u.rest low → is_high_surrogate high ≡ true → is_low_surrogate low ≡ true
    → IsEscape more (surrogate_pair_char high low) 12
unfolding escape_at
two_units more high low u v is_high is_low =
    let is = pair_character high low is_high is_low in
    let second = 92 ∷ 117 ∷ v.digits in
    let c = surrogate_pair_char high low in
    let first : (other : List ℕ) → unit_at (92 ∷ 117 ∷ ((u.digits ++ second) ++ other)) ≡ Some high
    = λ other. ap (λ ds. unit_at (92 ∷ 117 ∷ ds)) (append_assoc u.digits second other) ∙ u.alone (second ++ other) in
    let next : (other : List ℕ) → unit_at (drop 4 ((u.digits ++ second) ++ other)) ≡ Some low
    = λ other. ap (λ ds. unit_at (drop 4 ds)) (append_assoc u.digits second other) ∙ ap unit_at (drop_at u.digits (second ++ other) 4 u.four) ∙ v.alone other in
    let twelve : 12 ≡ suc (suc (length (u.digits ++ second))) = omega (arith, u.four, v.four, length-append u.digits second) in
    record {
      behind = 117 ∷ (u.digits ++ second);
      rest = v.rest;
      split = split_in_two more u.digits u.rest v.digits v.rest u.split v.split;
      count = twelve;
      anywhere = λ other. some_unit high 12 (92 ∷ 117 ∷ ((u.digits ++ second) ++ other)) _ (first other) (rw is_high (rw (next other) (rw is_low refl))) ∙ ap (λ n. Some (c, n)) twelve;
      passes = λ tail. passes_two u.digits v.digits tail u.hex v.hex;
      is_ascii = IsAscii-cons 117 (u.digits ++ second) (lit< tt) (IsAscii-append u.digits second (hex_IsAscii u.digits u.hex)
          (IsAscii-cons 92 (117 ∷ v.digits) (lit< tt) (IsAscii-cons 117 v.digits (lit< tt) (hex_IsAscii v.digits v.hex))));
      is_scalar = is.is_scalar;
      some = is.some;
    }

-- which of two a test has chosen
pub tested : {A : Type 0} (t : Bool) (x y z : A) → cond t x y ≡ z → ((t ≡ true) × (x ≡ z)) ⊎ ((t ≡ false) × (y ≡ z))
tested true x y z h = inl (refl, h)
tested false x y z h = inr (refl, h)

-- equal answers are of the same escape
same_escape : (more : List ℕ) (x y : ℕ × ℕ) → Some x ≡ Some y → IsEscape more x.0 x.1 → IsEscape more y.0 y.1
same_escape more x y e is =
    let same : x ≡ y = cc in
    subst (λ p. IsEscape more p.0 p.1) same is

-- where a pair is answered, its test has passed
paired : (t : Bool) (x : ℕ) (y : ℕ × ℕ) → option_map (λ c. (c, 12)) (cond t (Some x) None) ≡ Some y → (t ≡ true) × (◌≡◌ {A = Option (ℕ × ℕ)} (Some (x, 12)) (Some y))
paired true x y h = (refl, h)
paired false x y h = cc

-- a `\u` escape of two units
pair_shape : (more : List ℕ) (unit : ℕ) (c : ℕ × ℕ) (u : IsUnit (92 ∷ more) unit) (second : Option ℕ) → is_high_surrogate unit ≡ true
    → unit_at u.rest ≡ second → option_map (λ c. (c, 12)) (pair_of unit second) ≡ Some c → IsEscape more c.0 c.1
pair_shape more unit c u None high e h = cc
pair_shape more unit c u (Some low) high e h =
    let found = paired (is_low_surrogate low) (surrogate_pair_char unit low) c h in
    same_escape more (surrogate_pair_char unit low, 12) c found.1 (two_units more unit low u (unit_shape u.rest low e) high found.0)

-- where a lone unit is answered, its test has failed
alone_of : (t : Bool) (x y : ℕ × ℕ) → cond t None (Some x) ≡ Some y → (t ≡ false) × (Some x ≡ Some y)
alone_of true x y h = cc
alone_of false x y h = (refl, h)

-- a `\u` escape, by its unit
unicode_shape : (more : List ℕ) (unit c n : ℕ) (u : IsUnit (92 ∷ more) unit) → character_of unit u.rest ≡ Some (c, n) → IsEscape more c n
unicode_shape more unit c n u h = ⊎_elim
    (λ (pair : (is_high_surrogate unit ≡ true) × (option_map (λ c. (c, 12)) (pair_of unit (unit_at u.rest)) ≡ Some (c, n))).
    pair_shape more unit (c, n) u (unit_at u.rest) pair.0 refl pair.1)
    (λ (lone : (is_high_surrogate unit ≡ false) × (cond (is_low_surrogate unit || unit == 0) None (Some (unit, 6)) ≡ Some (c, n))).
    let found = alone_of _ (unit, 6) (c, n) lone.1 in
    same_escape more (unit, 6) (c, n) found.1 (one_unit more unit u lone.0 found.0))
    (tested (is_high_surrogate unit) _ _ _ h)

-- a unit takes six bytes
behind_unit : (bytes : List ℕ) (unit : ℕ) (u : IsUnit bytes unit) → drop 6 bytes ≡ u.rest
behind_unit bytes unit u = ap (drop 6) u.split ∙ drop_at u.digits u.rest 4 u.four

-- a simple escape
simple_is_escape : (e : ℕ) (rest : List ℕ) (c : ℕ) → simple_escape e ≡ Some c → IsEscape (e ∷ rest) c 2
unfolding escape_at
simple_is_escape e rest c h =
    let is = simple_shape e c h in
    record {
      behind = e ∷ [];
      rest = rest;
      split = refl;
      count = refl;
      anywhere = λ other. rw h refl;
      passes = λ tail. plain_len_taken e tail is.no_end;
      is_ascii = IsAscii-cons e [] is.is_ascii IsAscii-nil;
      is_scalar = low_scalar c (omega (arith, is.small));
      some = omega (arith, is.some);
    }

-- each escape that is read: its bytes, its character, and that no closing quote is among them
pub escape_shape : (more : List ℕ) (c n : ℕ) → escape_at (92 ∷ more) ≡ Some (c, n) → IsEscape more c n
unfolding escape_at unicode_escape
escape_shape [] c n h = cc
escape_shape (e ∷ rest) c n h = (elim (simple_escape e) as (λ s. simple_escape e ≡ s → simple_or s (unicode_escape (92 ∷ e ∷ rest)) ≡ Some (c, n) → IsEscape (e ∷ rest) c n) [
  | None ↦ λ none k. option_and_then_some _ _ _ k (λ unit found is.
      let u = unit_shape (92 ∷ e ∷ rest) unit found in
      unicode_shape (e ∷ rest) unit c n u (ap (character_of unit) (sym (behind_unit _ unit u)) ∙ is))
  | Some s ↦ λ some k. same_escape (e ∷ rest) (s, 2) (c, n) k (simple_is_escape e rest s some)
]) refl h
