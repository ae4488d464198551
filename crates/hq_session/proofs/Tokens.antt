-- Tokens, and the parts of a text around a colon.
use Rattle.std.proofs.Common.{◌≡◌, ◌<◌, ◌+◌, drop, ℕ, zero, suc, List, [], ◌∷◌, length, Bool, true, false, cond, not, ◌||◌, ◌&&◌, nat_eq, nat_lt, Bor, Option, Some, None, MatchOption, refl, arith}
use Rattle.std.proofs.Math.Dec.{eqb-suc-zero}
use Rattle.std.proofs.lemmas.Bool.{ne_eqb}
use Rattle.std.specs.Char.{to_ascii_lowercase}
use Rattle.std.specs.List.{list_all, list_any, position_or_len, before_first, after_first}
use Rattle.hq_base.specs.Text.{has_zero}
use Rattle.hq_session.specs.Fields.{is_token_byte, is_token, is_colon, lowered}

-- a place is found exactly where some item passes
none_passes : {A : Type 0} (p : A → Bool) (xs : List A) → position_or_len p xs ≡ length xs → list_any p xs ≡ false
none_passes p [] h = refl
none_passes p (x ∷ xs) h =
    let go : (q : Bool) → cond (not q) (1 + position_or_len p xs) 0 ≡ suc (length xs) → (q || list_any p xs) ≡ false =
    elim [ true ↦ λ g. absurd (omega (arith, g)) | false ↦ λ g. none_passes p xs (omega (arith, g)) ] in
    go (p x) h

some_passes : {A : Type 0} (p : A → Bool) (xs : List A) → position_or_len p xs < length xs → list_any p xs ≡ true
some_passes p [] h = absurd (omega (arith, h))
some_passes p (x ∷ xs) h =
    let go : (q : Bool) → cond (not q) (1 + position_or_len p xs) 0 < suc (length xs) → (q || list_any p xs) ≡ true =
    elim [ true ↦ λ g. refl | false ↦ λ g. some_passes p xs (omega (arith, g)) ] in
    go (p x) h

-- what `split_once` gives at a colon
pub split_at_colon : (text : List ℕ) (r : Option (Bor (List ℕ) × Bor (List ℕ)))
    → MatchOption r (position_or_len is_colon text ≡ length text) (λ x. (position_or_len is_colon text < length text) × (x.0.now ≡ before_first is_colon text) × (x.1.now ≡ after_first is_colon text))
    → MatchOption r (list_any is_colon text ≡ false) (λ x. (list_any is_colon text ≡ true) × (x.0.now ≡ before_first is_colon text) × (x.1.now ≡ after_first is_colon text))
split_at_colon text None h = none_passes is_colon text h
split_at_colon text (Some x) h = (some_passes is_colon text h.0, h.1, h.2)

-- no character of a token is a zero byte, nor is any in lower case
lower_suc : (b : ℕ) → nat_eq (to_ascii_lowercase (suc b)) 0 ≡ false
lower_suc b =
    let go : (p q : Bool) → nat_eq (cond p (suc b) (cond q (suc b + 32) (suc b))) 0 ≡ false =
    elim [ true ↦ λ q. eqb-suc-zero b | false ↦ elim [ true ↦ ne_eqb (suc b + 32) 0 (λ e. omega (arith, e)) | false ↦ eqb-suc-zero b ] ] in
    go (nat_lt (suc b) 65) (nat_lt (suc b) 91)

token_byte_is : (b : ℕ) → is_token_byte b ≡ true → nat_eq (to_ascii_lowercase b) 0 ≡ false
unfolding is_token_byte
token_byte_is zero e = absurd cc
token_byte_is (suc b) e = lower_suc b

pub lowered_clean : (name : List ℕ) → list_all is_token_byte name ≡ true → has_zero (lowered name) ≡ false
lowered_clean [] h = refl
lowered_clean (b ∷ bs) h =
    let go : (q : Bool) → is_token_byte b ≡ q → (q && list_all is_token_byte bs) ≡ true → (nat_eq (to_ascii_lowercase b) 0 || has_zero (lowered bs)) ≡ false =
    elim [ true ↦ λ e g. rw (token_byte_is b e) (lowered_clean bs g) | false ↦ λ e g. absurd cc ] in
    go (is_token_byte b) refl h

pub token_clean : (name : List ℕ) → is_token name ≡ true → has_zero (lowered name) ≡ false
token_clean name h =
    let go : (q : Bool) → (q && list_all is_token_byte name) ≡ true → has_zero (lowered name) ≡ false = elim [ true ↦ λ g. lowered_clean name g | false ↦ λ g. absurd cc ] in
    go (nat_lt 0 (length name)) h

drop_clean : (n : ℕ) (text : List ℕ) → has_zero text ≡ false → has_zero (drop n text) ≡ false
drop_clean zero text h = h
drop_clean (suc n) [] h = refl
drop_clean (suc n) (b ∷ bs) h =
    let go : (q : Bool) → (q || has_zero bs) ≡ false → has_zero bs ≡ false = elim [ true ↦ λ g. absurd cc | false ↦ λ g. g ] in
    drop_clean n bs (go (nat_eq b 0) h)

-- what stands behind the first colon of a text without a zero byte has none
pub after_clean : (p : ℕ → Bool) (text : List ℕ) → has_zero text ≡ false → has_zero (after_first p text) ≡ false
after_clean p text h = drop_clean (position_or_len p text + 1) text h
