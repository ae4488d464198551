-- A written file begins with U+FEFF only where the first name does.
use Rattle.std.proofs.Common.{◌≡◌, ◌∙◌, ℕ, ◌==◌, ◌&&◌, Bool, true, false, cond, List, [], ◌∷◌, ◌++◌, refl, ap, append_assoc, inl, inr}
use Rattle.std.specs.List.{list_any}
use Rattle.std.proofs.lemmas.Bool.{cases_Bool}
use Rattle.csv.specs.Reading.{strip_bom}
use Rattle.csv.specs.Writing.{default_writer, field_text, fields_text, needs_byte, row_text, is_blank}
use Rattle.hq_laws_written.specs.Tables.Written.{begins_with_mark}

-- what has no mark is not stripped
pub unmarked : (xs : List ℕ) → begins_with_mark xs ≡ false → strip_bom xs ≡ xs
unfolding strip_bom
unmarked [] h = refl
unmarked (a ∷ []) h = refl
unmarked (a ∷ b ∷ []) h = refl
unmarked (a ∷ b ∷ c ∷ rest) h = rw h refl

-- a byte that is not of the mark
abbrev IsOther : ℕ → Type 0
IsOther c = ((c == 0xEF) ≡ false) × ((c == 0xBB) ≡ false) × ((c == 0xBF) ≡ false)

and_false : (a : Bool) → (a && false) ≡ false
and_false true = refl
and_false false = refl

-- a byte before the third that is not of the mark
other_first : (c : ℕ) (xs : List ℕ) → IsOther c → begins_with_mark (c ∷ xs) ≡ false
other_first c [] h = refl
other_first c (x ∷ []) h = refl
other_first c (x ∷ y ∷ xs) h = rw h.0 refl

other_second : (a c : ℕ) (xs : List ℕ) → IsOther c → begins_with_mark (a ∷ c ∷ xs) ≡ false
other_second a c [] h = refl
other_second a c (x ∷ xs) h = rw h.1 (rw (and_false (a == 0xEF)) refl)

other_third : (a b c : ℕ) (xs : List ℕ) → IsOther c → begins_with_mark (a ∷ b ∷ c ∷ xs) ≡ false
other_third a b c xs h = rw h.2 (and_false ((a == 0xEF) && (b == 0xBB)))

-- a text without the mark, and then such a byte
goes_on : (x : List ℕ) (c : ℕ) (tail : List ℕ) → IsOther c → begins_with_mark x ≡ false → begins_with_mark (x ++ c ∷ tail) ≡ false
goes_on [] c tail other h = other_first c tail other
goes_on (a ∷ []) c tail other h = other_second a c tail other
goes_on (a ∷ b ∷ []) c tail other h = other_third a b c tail other
goes_on (a ∷ b ∷ d ∷ x) c tail other h = h

-- and so does what the writer writes of the text
after_field : (x : List ℕ) (c : ℕ) (tail : List ℕ) → IsOther c → begins_with_mark x ≡ false → begins_with_mark (field_text default_writer x ++ c ∷ tail) ≡ false
after_field x c tail other h = elim (cases_Bool (list_any (needs_byte default_writer) x)) [
  | inl needs ↦ rw needs (other_first 34 _ (refl, refl, refl))
  | inr plain ↦ rw plain (goes_on x c tail other h)
]

-- behind the first field stands a comma, a quote or a line end
follows : (xs : List (List ℕ)) (blank : Bool) (rest : List ℕ)
    → (c : ℕ) × (tail : List ℕ) × IsOther c × (fields_text default_writer xs ++ ((cond blank (34 ∷ 34 ∷ []) [] ++ 10 ∷ []) ++ rest) ≡ c ∷ tail)
unfolding fields_text
follows [] true rest = (34, _, (refl, refl, refl), refl)
follows [] false rest = (10, _, (refl, refl, refl), refl)
follows (y ∷ ys) blank rest = (44, _, (refl, refl, refl), refl)

-- a text that begins with a record whose first field has no mark has none
pub row_front : (x : List ℕ) (xs : List (List ℕ)) (rest : List ℕ) → begins_with_mark x ≡ false → begins_with_mark (row_text default_writer (x ∷ xs) ++ rest) ≡ false
row_front x xs rest h =
    let blank = is_blank default_writer (x ∷ xs) in
    let end = cond blank (34 ∷ 34 ∷ []) [] ++ 10 ∷ [] in
    let f = follows xs blank rest in
    ap begins_with_mark
    (append_assoc (field_text default_writer x ++ fields_text default_writer xs) end rest
    ∙ append_assoc (field_text default_writer x) (fields_text default_writer xs) (end ++ rest)
    ∙ ap (λ (t : List ℕ). field_text default_writer x ++ t) f.3)
    ∙ after_field x f.0 f.1 f.2 h
