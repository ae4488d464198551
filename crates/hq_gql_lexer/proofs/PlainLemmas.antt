-- Plain strings are of their production, and their values are texts.
use Rattle.std.proofs.Common.{◌≡◌, ℕ, zero, suc, ◌+◌, ◌-◌, ◌<◌, ◌≤◌, Bool, true, false, cond, List, [], ◌∷◌, ◌++◌, length, take, drop, Option, Some, None, Result, Ok, Err, refl, sym, ap, ◌∙◌, subst, ⊎_elim, arith, append_assoc}
use Rattle.std.specs.Prelude.{IsTrue, not, ◌≢◌, ◌&&◌, ◌==◌}
use Rattle.std.specs.Option.{option_map}
use Rattle.std.specs.Str.{IsUtf8}
use lib.Utf8.{encode, low_scalar}
use Rattle.std.proofs.lemmas.Bool.{cases_Bool, cond-true, cond-false, false≢true, eqb-true, eqb-false}
use Rattle.std.proofs.lemmas.Bool.Decides.{nat_tests}
use Rattle.std.proofs.lemmas.List.{append-nil, length-append, drop_at, take_at}
use Rattle.std.proofs.lemmas.Str.{encode_ascii, IsUtf8-drop, IsCharBoundary-from_take, IsUtf8-from_ascii}
use Rattle.hq_gql_lexer.specs.declared.refusal.LexRefusal.{LexRefusal}
use Rattle.hq_gql_lexer.specs.declared.characters.StringKind.TheVariants.{Plain}
use Rattle.hq_gql_lexer.specs.Characters.{is_line_end, is_source}
use Rattle.hq_gql_lexer.specs.Escapes.{escape_at}
use Rattle.hq_gql_lexer.specs.Steps.{steps}
use Rattle.hq_gql_lexer.specs.Strings.{plain_len, source_at, escaped, character_at, characters}
use Rattle.hq_gql_lexer.specs.Grammar.{IsPlainRest, closed, character, escape}
use Rattle.hq_gql_lexer.proofs.TextLemmas.{IsText, IsText-nil, IsText-append, and_parts}
use Rattle.hq_gql_lexer.proofs.CharacterLemmas.{is_high, TextParts, none, ascii, wide, text_parts, encode-is_high, length-encode_some, encode-IsText}
use Rattle.hq_gql_lexer.proofs.EscapeLemmas.{IsInner, plain_len_over, IsEscape, escape_shape}
use Rattle.hq_gql_lexer.proofs.ReadLemmas.{characters_read}
use Rattle.hq_gql_lexer.proofs.StepsLemmas.{steps_first, steps_skip, Copies, copied}

-- a character past U+007F is passed over, and copied
pub high_inner : (b : ℕ) → is_high b ≡ true → IsInner b
high_inner b h = record { no_end = grind (arith, nat_tests); no_quote = grind (arith, nat_tests); no_slash = grind (arith, nat_tests) }

-- a byte of 128 and more stands in any text
pub high_source : (b : ℕ) → is_high b ≡ true → is_source b ≡ true
high_source b h = grind (arith, nat_tests)

-- a byte of 128 and more stands for itself
pub copies_source : (b : ℕ) → is_high b ≡ true → (at : ℕ) (bytes : List ℕ) → source_at at (b ∷ bytes) ≡ Ok (b ∷ [], 1)
copies_source b h at bytes = cond-true (is_source b) _ _ (high_source b h)

-- so it does in a plain string
pub copies_plain : Copies (character_at Plain)
unfolding character_at
copies_plain at b bytes h = cond-false (b == 92) _ _ (high_inner b h).no_slash ∙ copies_source b h at bytes

-- what a byte that stands before the closing quote is
pub record IsInside (b : ℕ) (behind : List ℕ) (n : ℕ) : Type 0 where
  pub no_end : is_line_end b ≡ false
  pub no_quote : (b == 34) ≡ false
  pub more : plain_len (b == 92) behind ≡ Some n

-- where a count is more than zero, no test has ended it
three_ways : (s t : Bool) (o : Option ℕ) (n : ℕ) → cond s None (cond t (Some 0) (option_map (λ k. 1 + k) o)) ≡ Some (suc n)
    → (s ≡ false) × (t ≡ false) × (o ≡ Some n)
three_ways true t o n h = cc
three_ways false true o n h = let e : 0 ≡ suc n = cc in absurd (omega arith)
three_ways false false None n h = cc
three_ways false false (Some k) n h = let e : 1 + k ≡ suc n = cc in (refl, refl, ap Some (omega arith))

-- the first byte before the closing quote
pub inside_first : (b n : ℕ) (behind : List ℕ) → plain_len false (b ∷ behind) ≡ Some (suc n) → IsInside b behind n
inside_first b n behind h =
    let found = three_ways (is_line_end b) (b == 34) (plain_len (b == 92) behind) n h in
    record { no_end = found.0; no_quote = found.1; more = found.2 }

-- where there is an answer, its test has passed
ok_of : {A : Type 0} (t : Bool) (x y : A) (e : LexRefusal) → cond t (Ok x) (Err e) ≡ Ok y → (t ≡ true) × (◌≡◌ {A = Result A LexRefusal} (Ok x) (Ok y))
ok_of true x y e h = (refl, h)
ok_of false x y e h = cc

-- a byte that stands for itself
pub source_first : (at b : ℕ) (bytes piece : List ℕ) (n : ℕ) → source_at at (b ∷ bytes) ≡ Ok (piece, n) → IsTrue (is_source b) × (b ∷ [] ≡ piece) × (1 ≡ n)
source_first at b bytes piece n h =
    let found = ok_of (is_source b) _ _ _ h in
    let same : ◌≡◌ {A = List ℕ × ℕ} (b ∷ [], 1) (piece, n) = let e = found.1 in cc in
    (found.0, ap (λ p. p.0) same, ap (λ p. p.1) same)

-- a byte that is no `\` stands for itself
plain_source : (at b : ℕ) (bytes piece : List ℕ) (n : ℕ) → (b == 92) ≡ false → character_at Plain at (b ∷ bytes) ≡ Ok (piece, n)
    → IsTrue (is_source b) × (b ∷ [] ≡ piece) × (1 ≡ n)
unfolding character_at
plain_source at b bytes piece n other h = source_first at b bytes piece n (sym (cond-false (b == 92) _ _ other) ∙ h)

-- an escape
pub record IsEscaped (bytes piece : List ℕ) (n : ℕ) : Type 0 where
  pub c : ℕ
  pub found : escape_at bytes ≡ Some (c, n)
  pub is : encode c ≡ piece

-- a step at an escape takes the escape, and gives its character
escaped_first : (at n : ℕ) (bytes piece : List ℕ) (o : Option (ℕ × ℕ)) → escape_at bytes ≡ o → escaped at o ≡ Ok (piece, n) → IsEscaped bytes piece n
escaped_first at n bytes piece None e h = cc
escaped_first at n bytes piece (Some c) e h =
    let same : ◌≡◌ {A = List ℕ × ℕ} (encode c.0, c.1) (piece, n) = cc in
    record { c = c.0; found = e ∙ ap (λ k. Some (c.0, k)) (ap (λ p. p.1) same); is = ap (λ p. p.0) same }

-- a step at a `\` takes an escape
plain_escape : (at b : ℕ) (bytes piece : List ℕ) (n : ℕ) → (b == 92) ≡ true → character_at Plain at (b ∷ bytes) ≡ Ok (piece, n) → IsEscaped (b ∷ bytes) piece n
unfolding character_at
plain_escape at b bytes piece n slash h = escaped_first at n (b ∷ bytes) piece (escape_at (b ∷ bytes)) refl (sym (cond-true (b == 92) _ _ slash) ∙ h)

-- what is left of a count
pub counted_back : (k n : ℕ) (o : Option ℕ) → option_map (λ m. k + m) o ≡ Some (k + n) → o ≡ Some n
counted_back k n None h = cc
counted_back k n (Some m) h = let e : k + m ≡ k + n = cc in ap Some (omega arith)

-- a text behind an ASCII front
pub IsUtf8-behind : (front rest : List ℕ) → IsUtf8 front → IsUtf8 (front ++ rest) → IsUtf8 rest
IsUtf8-behind front rest f u =
    let cut = IsCharBoundary-from_take (front ++ rest) (length front) u (omega (arith, length-append front rest)) (subst IsUtf8 (sym (take_at front rest (length front) refl)) f) in
    subst IsUtf8 (drop_at front rest (length front) refl) (IsUtf8-drop (front ++ rest) (length front) u cut)

-- a character past U+007F is one that a text may hold
pub wide_source : (c : ℕ) → 128 ≤ c → is_source c ≡ true
wide_source c h = grind (arith, nat_tests)

-- a character past U+007F ends no line
pub wide_no_end : (c : ℕ) → 128 ≤ c → is_line_end c ≡ false
wide_no_end c h = grind (arith, nat_tests)

-- no character that a text may hold is zero
pub source_some : (c : ℕ) → is_source c ≡ true → c ≢ 0
source_some c h zero' = absurd (false≢true (ap is_source (sym zero') ∙ h))

-- What stands before the closing quote, and is read, is of the production.
pub record IsReadPlain (at : ℕ) (inside after value : List ℕ) : Type 0 where
  pub ends : plain_len false (inside ++ 34 ∷ after) ≡ Some (length inside)
  pub utf8 : IsUtf8 inside
  pub read : steps (character_at Plain) 0 at inside ≡ Ok value

-- bytes that the test tells apart differ
pub apart : (b n : ℕ) → (b == n) ≡ false → b ≢ n
apart b n h same = absurd (omega (arith, eqb-false b n h))

-- the same of the rest behind an escape
behind_escape : (at : ℕ) (rest after others : List ℕ) (c n : ℕ) (is : IsEscape rest c n) → plain_len true (rest ++ 34 ∷ after) ≡ Some (length rest)
    → IsUtf8 rest → steps (character_at Plain) (n - 1) (at + 1) rest ≡ Ok others → IsReadPlain (at + 1 + length is.behind) is.rest after others
behind_escape at rest after others c n is ends utf8 read =
    let k = length is.behind in
    let tail = 34 ∷ after in
    let joined : is.behind ++ (is.rest ++ tail) ≡ rest ++ tail = sym (append_assoc is.behind is.rest tail) ∙ ap (λ bytes. bytes ++ tail) (sym is.split) in
    let len : length rest ≡ k + length is.rest = ap length is.split ∙ length-append is.behind is.rest in
    let cut : drop k rest ≡ is.rest = ap (drop k) is.split ∙ drop_at is.behind is.rest k refl in
    let count : n - 1 ≡ k = omega (arith, is.count) in
    record {
      ends = counted_back k (length is.rest) _ (sym (is.passes (is.rest ++ tail)) ∙ ap (plain_len true) joined ∙ ends ∙ ap Some len);
      utf8 = IsUtf8-behind is.behind is.rest (IsUtf8-from_ascii is.behind is.is_ascii) (subst IsUtf8 is.split utf8);
      read = ap (steps (character_at Plain) 0 (at + 1 + k)) (sym cut) ∙ sym (steps_skip (character_at Plain) k (at + 1) rest (omega (arith, len)))
          ∙ ap (λ j. steps (character_at Plain) j (at + 1) rest) (sym count) ∙ read;
    }

-- what is read between the quotes of a plain string is of the production
pub plain_parts : (m at : ℕ) (inside after value : List ℕ) → length inside < m → IsReadPlain at inside after value → TextParts inside → IsPlainRest (inside ++ 34 ∷ []) value
plain_parts zero at inside after value h is parts = absurd (omega arith)
plain_parts (suc m) at inside after value h is none = let e : [] ≡ value = let r = is.read in cc in subst (IsPlainRest (34 ∷ [])) e closed
plain_parts (suc m) at inside after value h is (ascii b rest one utf8) =
    let first = inside_first b (length rest) (rest ++ 34 ∷ after) is.ends in
    let step = steps_first (character_at Plain) at b rest value is.read in
    ⊎_elim
    (λ (slash : (b == 92) ≡ true).
    let esc = plain_escape at b rest step.piece step.n slash step.first in
    let same : b ≡ 92 = eqb-true b 92 slash in
    let shape = escape_shape rest esc.c step.n (subst (λ k. escape_at (k ∷ rest) ≡ Some (esc.c, step.n)) same esc.found) in
    let next = behind_escape at rest after step.others esc.c step.n shape (subst (λ t. plain_len t (rest ++ 34 ∷ after) ≡ Some (length rest)) slash first.more) utf8 step.behind in
    let shorter : length shape.rest < m = omega (arith, ap length shape.split, length-append shape.behind shape.rest) in
    let inner = plain_parts m _ shape.rest after step.others shorter next (text_parts shape.rest next.utf8) in
    let alone : escape_at (92 ∷ shape.behind) ≡ Some (esc.c, length (92 ∷ shape.behind))
    = ap (λ bytes. escape_at (92 ∷ bytes)) (sym (append-nil shape.behind)) ∙ shape.anywhere [] in
    let built : IsPlainRest (92 ∷ (shape.behind ++ (shape.rest ++ 34 ∷ []))) (encode esc.c ++ step.others) = escape esc.c shape.behind (shape.rest ++ 34 ∷ []) step.others alone inner in
    let text : 92 ∷ (shape.behind ++ (shape.rest ++ 34 ∷ [])) ≡ b ∷ (rest ++ 34 ∷ [])
    = ap (λ bytes. 92 ∷ bytes) (sym (append_assoc shape.behind shape.rest (34 ∷ [])) ∙ ap (λ bytes. bytes ++ 34 ∷ []) (sym shape.split)) ∙ ap (λ k. k ∷ (rest ++ 34 ∷ [])) (sym same) in
    subst (λ t. IsPlainRest t value) text (subst (IsPlainRest _) (ap (λ front. front ++ step.others) esc.is ∙ step.whole) built))
    (λ (other : (b == 92) ≡ false).
    let src = plain_source at b rest step.piece step.n other step.first in
    let next : IsReadPlain (at + 1) rest after step.others = record {
      ends = subst (λ t. plain_len t (rest ++ 34 ∷ after) ≡ Some (length rest)) other first.more;
      utf8 = utf8;
      read = ap (λ k. steps (character_at Plain) (k - 1) (at + 1) rest) src.2 ∙ step.behind;
    } in
    let inner = plain_parts m (at + 1) rest after step.others (omega arith) next (text_parts rest utf8) in
    let built : IsPlainRest (encode b ++ (rest ++ 34 ∷ [])) (encode b ++ step.others) =
    character b (rest ++ 34 ∷ []) step.others (low_scalar b (omega arith), src.0) (apart b 34 first.no_quote) (apart b 92 other)
    first.no_end inner in
    let same = encode_ascii b one in
    subst (λ front. IsPlainRest (front ++ (rest ++ 34 ∷ [])) value) same
    (subst (IsPlainRest _) (ap (λ front. front ++ step.others) (same ∙ src.1) ∙ step.whole) built))
    (cases_Bool (b == 92))
plain_parts (suc m) at inside after value h is (wide c rest scalar more utf8) =
    let high = encode-is_high c more in
    let cp = copied (character_at Plain) copies_plain at (encode c) rest value high is.read in
    let next : IsReadPlain (at + length (encode c)) rest after cp.others = record {
      ends = counted_back (length (encode c)) (length rest) _ (sym (plain_len_over is_high high_inner (encode c) (rest ++ 34 ∷ after) high)
          ∙ ap (plain_len false) (sym (append_assoc (encode c) rest (34 ∷ after))) ∙ is.ends ∙ ap Some (length-append (encode c) rest));
      utf8 = utf8;
      read = cp.behind;
    } in
    let shorter : length rest < m = omega (arith, length-append (encode c) rest, length-encode_some c) in
    let inner = plain_parts m _ rest after cp.others shorter next (text_parts rest utf8) in
    let built : IsPlainRest (encode c ++ (rest ++ 34 ∷ [])) (encode c ++ cp.others) =
    character c (rest ++ 34 ∷ []) cp.others (scalar, wide_source c more) (omega arith) (omega arith) (wide_no_end c more) inner in
    subst (λ t. IsPlainRest t value) (sym (append_assoc (encode c) rest (34 ∷ []))) (subst (IsPlainRest _) cp.whole built)

-- what is between the quotes and behind them
pub record IsClosed (bytes : List ℕ) (n : ℕ) : Type 0 where
  pub after : List ℕ
  pub split : bytes ≡ take n bytes ++ 34 ∷ after
  pub len : length (take n bytes) ≡ n

-- where the count is zero, the closing quote is next
ends_here : (s t : Bool) (o : Option ℕ) → cond s None (cond t (Some 0) (option_map (λ k. 1 + k) o)) ≡ Some 0 → t ≡ true
ends_here true t o h = cc
ends_here false true o h = refl
ends_here false false None h = cc
ends_here false false (Some k) h = let e : 1 + k ≡ 0 = cc in absurd (omega arith)

-- behind what is counted stands the closing quote
pub closed_by : (taken : Bool) (bytes : List ℕ) (n : ℕ) → plain_len taken bytes ≡ Some n → IsClosed bytes n
closed_by taken [] n h = cc
closed_by taken (b ∷ bytes) zero h =
    let quote = and_parts (not taken) (b == 34) (ends_here (is_line_end b) (not taken && b == 34) _ h) in
    record { after = bytes; split = ap (λ k. k ∷ bytes) (eqb-true b 34 quote.1); len = refl }
closed_by taken (b ∷ bytes) (suc n) h =
    let found = three_ways (is_line_end b) (not taken && b == 34) (plain_len (not taken && b == 92) bytes) n h in
    let is = closed_by (not taken && b == 92) bytes n found.2 in
    record { after = is.after; split = ap (λ more. b ∷ more) is.split; len = ap suc is.len }

-- a string that is read is of the production
pub plain_read : (at n : ℕ) (bytes value : List ℕ) → plain_len false bytes ≡ Some n → characters Plain at (take n bytes) ≡ Ok value
    → IsPlainRest (take n bytes ++ 34 ∷ []) value
plain_read at n bytes value ends read =
    let is = closed_by false bytes n ends in
    let all = characters_read Plain at (take n bytes) value read in
    let here : IsReadPlain at (take n bytes) is.after value = record {
      ends = ap (plain_len false) (sym is.split) ∙ ends ∙ ap Some (sym is.len);
      utf8 = all.utf8;
      read = all.read;
    } in
    plain_parts (suc (length (take n bytes))) at (take n bytes) is.after value (omega arith) here (text_parts (take n bytes) all.utf8)

-- the value is a text
pub plain-IsText : (text value : List ℕ) → IsPlainRest text value → IsText value
plain-IsText text value closed = IsText-nil
plain-IsText text value (character c behind others ok no_quote no_slash no_end inner) =
    IsText-append (encode c) others (encode-IsText c ok.0 (source_some c ok.1)) (plain-IsText behind others inner)
plain-IsText text value (escape c behind more others alone inner) =
    let shape = escape_shape behind c (length (92 ∷ behind)) alone in
    IsText-append (encode c) others (encode-IsText c shape.is_scalar shape.some) (plain-IsText more others inner)
