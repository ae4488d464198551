-- Texts that are read as a uuid, and the form that they are given.
use Rattle.std.proofs.Common.{◌≡◌, ℕ, zero, suc, ◌+◌, ◌-◌, ◌<◌, Bool, true, false, cond, ◌&&◌, ◌==◌, nat_lt, nat_le, ◌⊎◌, inl, inr, List, [], ◌∷◌, length, Some, refl, sym, subst, arith, eq-eqb}
use Rattle.std.specs.Char.{is_ascii_hexdigit, to_ascii_lowercase}
use Rattle.std.specs.List.{list_all, enumerate_from}
use Rattle.std.proofs.lemmas.Bool.{and_parts, eqb-true}
use Rattle.std.proofs.lemmas.Bool.Decides.{nat_tests, eqb_tells}
use Rattle.std.proofs.lemmas.Option.{cond_some}
use Rattle.hq_base.specs.Uuids.{is_small_hex, is_hyphen_place, is_placed, is_uuid_form, is_digit_or_hyphen, are_groups, next_place, spells_from, spells_uuid, form_from, uuid_form, within_braces}

-- a byte of what is read as a uuid is a hyphen, or a digit
spelled_step : (at since c : ℕ) (cs : List ℕ) → spells_from at since (c ∷ cs) ≡ true
    → (((c == 45) ≡ true) × (spells_from at 0 cs ≡ true)) ⊎ (((c == 45) ≡ false) × (is_ascii_hexdigit c ≡ true) × (spells_from (next_place at) (since + 1) cs ≡ true))
spelled_step at since c cs h = by (c == 45) refl h
  where
    by : (b : Bool) → (c == 45) ≡ b → cond b (are_groups since && spells_from at 0 cs) (nat_lt at 36 && is_ascii_hexdigit c && spells_from (next_place at) (since + 1) cs) ≡ true
        → (((c == 45) ≡ true) × (spells_from at 0 cs ≡ true)) ⊎ (((c == 45) ≡ false) × (is_ascii_hexdigit c ≡ true) × (spells_from (next_place at) (since + 1) cs ≡ true))
    by true is e = inl (is, (and_parts _ _ e).1)
    by false is e =
        let parts = and_parts (nat_lt at 36 && is_ascii_hexdigit c) (spells_from (next_place at) (since + 1) cs) e in
        inr (is, (and_parts _ _ parts.0).1, parts.1)

-- what is read as a uuid has digits and hyphens alone
pub spelled_bytes : (at since : ℕ) (cs : List ℕ) → spells_from at since cs ≡ true → list_all is_digit_or_hyphen cs ≡ true
spelled_bytes at since [] h = refl
spelled_bytes at since (c ∷ cs) h =
    elim (spelled_step at since c cs h) [
      | inl e ↦ rw (e.0) (spelled_bytes at 0 cs e.1)
      | inr e ↦ rw (e.0, e.1) (spelled_bytes (next_place at) (since + 1) cs e.2)
    ]

-- a digit in either case is a small one, once it is made so
small_digit : (c : ℕ) → is_ascii_hexdigit c ≡ true → is_small_hex (to_ascii_lowercase c) ≡ true
small_digit c h = grind (arith, nat_tests)

-- behind a hyphen stands a digit
digit_behind : (at : ℕ) → is_hyphen_place at ≡ true → is_hyphen_place (at + 1) ≡ false
digit_behind at h = grind (arith, nat_tests)

-- a digit, with the hyphen before it, stands at its place
digit_placed : (at c : ℕ) (form : List ℕ) (b : Bool) → is_hyphen_place at ≡ b → is_ascii_hexdigit c ≡ true
    → list_all (λ p. is_placed p.0 p.1) (enumerate_from (cond b (at + 2) (at + 1)) form) ≡ true
    → list_all (λ p. is_placed p.0 p.1) (enumerate_from at (cond b (45 ∷ to_ascii_lowercase c ∷ form) (to_ascii_lowercase c ∷ form))) ≡ true
digit_placed at c form true is digit rest =
    let two : (at + 1) + 1 ≡ at + 2 = omega arith in
    rw (is, digit_behind at is, small_digit c digit, two) rest
digit_placed at c form false is digit rest = rw (is, small_digit c digit) rest

-- the bytes of a form stand at their places
placed_from : (at since : ℕ) (cs : List ℕ) → spells_from at since cs ≡ true → list_all (λ p. is_placed p.0 p.1) (enumerate_from at (form_from at cs)) ≡ true
placed_from at since [] h = refl
placed_from at since (c ∷ cs) h =
    elim (spelled_step at since c cs h) [
      | inl e ↦ rw (e.0) (placed_from at 0 cs e.1)
      | inr e ↦ rw (e.0) (digit_placed at c (form_from (next_place at) cs) (is_hyphen_place at) refl e.1 (placed_from (next_place at) (since + 1) cs e.2))
    ]

-- a digit, with the hyphen before it, takes the bytes up to the next place
digit_length : (at c n : ℕ) (form : List ℕ) (b : Bool) → cond b (at + 2) (at + 1) + length form ≡ n → at + length (cond b (45 ∷ to_ascii_lowercase c ∷ form) (to_ascii_lowercase c ∷ form)) ≡ n
digit_length at c n form true h = omega arith
digit_length at c n form false h = omega arith

-- and they fill it
filled_from : (at since : ℕ) (cs : List ℕ) → spells_from at since cs ≡ true → at + length (form_from at cs) ≡ 36
filled_from at since [] h = eqb-true (at + 0) 36 (let plain : at + 0 ≡ at = omega arith in rw plain (and_parts _ _ h).0)
filled_from at since (c ∷ cs) h =
    elim (spelled_step at since c cs h) [
      | inl e ↦ rw (e.0) (filled_from at 0 cs e.1)
      | inr e ↦ rw (e.0) (digit_length at c 36 (form_from (next_place at) cs) (is_hyphen_place at) (filled_from (next_place at) (since + 1) cs e.2))
    ]

-- what a text is read as is in the one form
pub form_is_uuid : (s form : List ℕ) → uuid_form s ≡ Some form → is_uuid_form form ≡ true
form_is_uuid s form h =
    let both = cond_some (spells_uuid s) (form_from 0 (within_braces s)) form h in
    let whole : length (form_from 0 (within_braces s)) ≡ 36 = omega (arith, filled_from 0 0 (within_braces s) both.0) in
    subst (λ f. is_uuid_form f ≡ true) both.1 (rw (eq-eqb (length (form_from 0 (within_braces s))) 36 whole) (placed_from 0 0 (within_braces s) both.0))

-- ---- the one form is read again

-- what is read before a place of the form: the place at which the next digit stands, and how many digits stand behind the last hyphen
abbrev place_at : (p : ℕ) → ℕ
place_at p = cond (is_hyphen_place (p - 1)) (p - 1) p

abbrev digits_at : (p : ℕ) → ℕ
digits_at p = cond (nat_lt p 9) p (cond (nat_lt p 14) (p - 9) (cond (nat_lt p 19) (p - 14) (cond (nat_lt p 24) (p - 19) (p - 24))))

-- the byte at a place leads from the one to the other
abbrev step_ok : (p : ℕ) → Bool
step_ok p = cond (is_hyphen_place p) (are_groups (digits_at p) && (place_at (p + 1) == place_at p) && (digits_at (p + 1) == 0))
    (nat_lt (place_at p) 36 && (next_place (place_at p) == place_at (p + 1)) && ((digits_at p + 1) == digits_at (p + 1)))

abbrev steps_below : ℕ → Bool
steps_below zero = true
steps_below (suc n) = step_ok n && steps_below n

all_steps : steps_below 36 ≡ true
all_steps = refl

step_at : (n p : ℕ) → p < n → steps_below n ≡ true → step_ok p ≡ true
step_at zero p lt h = absurd (omega arith)
step_at (suc n) p lt h =
    let parts = and_parts (step_ok n) (steps_below n) h in
    elim (eqb_tells p n) [
      | inl same ↦ subst (λ k. step_ok k ≡ true) (sym (eqb-true p n same.0)) parts.0
      | inr other ↦ step_at n p (omega (arith, other.1)) parts.1
    ]

-- a small digit is one, and no hyphen and no brace
small_is : (c : ℕ) → is_small_hex c ≡ true → is_ascii_hexdigit c ≡ true
small_is c h = grind (arith, nat_tests)

small_is_no_hyphen : (c : ℕ) → is_small_hex c ≡ true → (c == 45) ≡ false
small_is_no_hyphen c h = grind (arith, nat_tests)

small_is_no_brace : (c : ℕ) → is_small_hex c ≡ true → (c == 123) ≡ false
small_is_no_brace c h = grind (arith, nat_tests)

-- a hyphen behind groups, and a digit at its place, and what follows them
spelled_hyphen : (at since next digits c : ℕ) (cs : List ℕ) → (c == 45) ≡ true → are_groups since ≡ true → next ≡ at → digits ≡ 0
    → spells_from next digits cs ≡ true → spells_from at since (c ∷ cs) ≡ true
spelled_hyphen at since next digits c cs is groups same none rest =
    let here : spells_from at 0 cs ≡ true = subst (λ n. spells_from at n cs ≡ true) none (subst (λ n. spells_from n digits cs ≡ true) same rest) in
    rw (is, groups) here

spelled_digit : (at since next digits c : ℕ) (cs : List ℕ) → is_small_hex c ≡ true → nat_lt at 36 ≡ true → next_place at ≡ next
    → since + 1 ≡ digits → spells_from next digits cs ≡ true → spells_from at since (c ∷ cs) ≡ true
spelled_digit at since next digits c cs small below same one rest =
    let here : spells_from (next_place at) (since + 1) cs ≡ true = subst (λ n. spells_from (next_place at) n cs ≡ true) (sym one) (subst (λ n. spells_from n digits cs ≡ true) (sym same) rest) in
    rw (small_is_no_hyphen c small, below, small_is c small) here

-- a byte at its place, by whether a hyphen stands there
spelled_byte : (p c : ℕ) (cs : List ℕ) (b : Bool) → is_hyphen_place p ≡ b → cond b (c == 45) (is_small_hex c) ≡ true
    → cond b (are_groups (digits_at p) && (place_at (p + 1) == place_at p) && (digits_at (p + 1) == 0))
    (nat_lt (place_at p) 36 && (next_place (place_at p) == place_at (p + 1)) && ((digits_at p + 1) == digits_at (p + 1))) ≡ true
    → spells_from (place_at (p + 1)) (digits_at (p + 1)) cs ≡ true → spells_from (place_at p) (digits_at p) (c ∷ cs) ≡ true
spelled_byte p c cs true is placed ok rest =
    let parts = and_parts (are_groups (digits_at p) && (place_at (p + 1) == place_at p)) (digits_at (p + 1) == 0) ok in
    let more = and_parts (are_groups (digits_at p)) (place_at (p + 1) == place_at p) parts.0 in
    spelled_hyphen (place_at p) (digits_at p) (place_at (p + 1)) (digits_at (p + 1)) c cs placed more.0 (eqb-true _ _ more.1) (eqb-true _ _ parts.1) rest
spelled_byte p c cs false is placed ok rest =
    let parts = and_parts (nat_lt (place_at p) 36 && (next_place (place_at p) == place_at (p + 1))) ((digits_at p + 1) == digits_at (p + 1)) ok in
    let more = and_parts (nat_lt (place_at p) 36) (next_place (place_at p) == place_at (p + 1)) parts.0 in
    spelled_digit (place_at p) (digits_at p) (place_at (p + 1)) (digits_at (p + 1)) c cs placed more.0 (eqb-true _ _ more.1) (eqb-true _ _ parts.1) rest

-- the form is read from each place on
spelled_on : (p : ℕ) (cs : List ℕ) → p + length cs ≡ 36 → list_all (λ x. is_placed x.0 x.1) (enumerate_from p cs) ≡ true → spells_from (place_at p) (digits_at p) cs ≡ true
spelled_on p [] whole placed = let same : 36 ≡ p = omega arith in subst (λ k. spells_from (place_at k) (digits_at k) [] ≡ true) same refl
spelled_on p (c ∷ cs) whole placed =
    let parts = and_parts (is_placed p c) (list_all (λ x. is_placed x.0 x.1) (enumerate_from (p + 1) cs)) placed in
    let below : p < 36 = omega arith in
    spelled_byte p c cs (is_hyphen_place p) refl parts.0 (step_at 36 p below all_steps) (spelled_on (p + 1) cs (omega arith) parts.1)

and_false : (b : Bool) → (b && false) ≡ false
and_false true = refl
and_false false = refl

-- where the first byte is no brace, there are no braces
bare : (c : ℕ) (cs : List ℕ) → (c == 123) ≡ false → within_braces (c ∷ cs) ≡ c ∷ cs
bare c cs differs = let and_no : (nat_le 2 (length (c ∷ cs)) && false) ≡ false = and_false (nat_le 2 (length (c ∷ cs))) in rw (differs, and_no) refl

-- a text in the one form is read as a uuid
pub form_is_spelled : (u : List ℕ) → is_uuid_form u ≡ true → spells_uuid u ≡ true
form_is_spelled [] h = cc
form_is_spelled (c ∷ cs) h =
    let parts = and_parts (length (c ∷ cs) == 36) (list_all (λ x. is_placed x.0 x.1) (enumerate_from 0 (c ∷ cs))) h in
    let first = and_parts (is_small_hex c) (list_all (λ x. is_placed x.0 x.1) (enumerate_from 1 cs)) parts.1 in
    let whole : 0 + length (c ∷ cs) ≡ 36 = omega (arith, eqb-true (length (c ∷ cs)) 36 parts.0) in
    rw (bare c cs (small_is_no_brace c first.0)) (spelled_on 0 (c ∷ cs) whole parts.1)

-- so that what a text is read as is read again
pub form_is_read : (s form : List ℕ) → uuid_form s ≡ Some form → spells_uuid form ≡ true
form_is_read s form h = form_is_spelled form (form_is_uuid s form h)
