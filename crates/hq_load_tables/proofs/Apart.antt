-- Rows no two of which have one key, as an index tells it.
use Rattle.std.proofs.Common.{◌≡◌, ◌∙◌, ℕ, zero, suc, ◌<◌, ◌^◌, ◌&&◌, ◌||◌, Bool, true, false, not, List, [], ◌∷◌, length, get_or, Option, Some, None, is_some, nat_lt, refl, sym, arith}
use Rattle.std.specs.List.{list_all, list_any}
use Rattle.std.proofs.lemmas.Bool.{lt-ltb}
use Rattle.hq_base.specs.Lists.{all_differ}
use Rattle.hq_load_index.specs.Repeats.{IsFirstRepeat, KeysDiffer, TellsRepeat}
use Rattle.hq_load_index.specs.declared.repeats.Repeat.{Repeat}
use Rattle.hq_model.specs.Database.{Row, are_rows, key_of, row_fits, same_values}
use Rattle.hq_model.specs.declared.table.Table.{Table}
use Rattle.hq_load_tables.proofs.Keys.{same_key-values}

-- an item is like none of these
like_none : {X : Type 0} (like : X → Bool) (xs : List X) (d : X) → ((i : ℕ) → i < length xs → like (get_or xs i d) ≡ false) → list_any like xs ≡ false
like_none like [] d h = refl
like_none like (x ∷ xs) d h = rw (h 0 (omega arith)) (like_none like xs d (λ i lt. h (suc i) (omega (arith, lt))))

-- an item is like one of these
like_one : {X : Type 0} (like : X → Bool) (xs : List X) (d : X) (i : ℕ) → i < length xs → like (get_or xs i d) ≡ true → list_any like xs ≡ true
like_one like [] d i lt e = absurd (omega (arith, lt))
like_one like (x ∷ xs) d zero lt e = rw e refl
like_one like (x ∷ xs) d (suc i) lt e = rw (like_one like xs d i (omega (arith, lt)) e) (by (like x))
  where
    by : (b : Bool) → (b || true) ≡ true
    by true = refl
    by false = refl

-- no two places are alike: all differ
apart_differ : {X : Type 0} (same : X → X → Bool) (xs : List X) (d : X) → ((i j : ℕ) → i < j → j < length xs → same (get_or xs i d) (get_or xs j d) ≡ false) → all_differ same xs ≡ true
apart_differ same [] d h = refl
apart_differ same (x ∷ xs) d h =
    rw (like_none (same x) xs d (λ j lt. h 0 (suc j) (omega arith) (omega (arith, lt))))
    (apart_differ same xs d (λ i j less lt. h (suc i) (suc j) (omega (arith, less)) (omega (arith, lt))))

-- two places are alike: not all differ
alike_differ : {X : Type 0} (same : X → X → Bool) (xs : List X) (d : X) (i j : ℕ) → i < j → j < length xs → same (get_or xs i d) (get_or xs j d) ≡ true → all_differ same xs ≡ false
alike_differ same [] d i j less lt e = absurd (omega (arith, lt))
alike_differ same (x ∷ xs) d zero zero less lt e = absurd (omega (arith, less))
alike_differ same (x ∷ xs) d zero (suc j) less lt e = rw (like_one (same x) xs d j (omega (arith, lt)) e) refl
alike_differ same (x ∷ xs) d (suc i) zero less lt e = absurd (omega (arith, less))
alike_differ same (x ∷ xs) d (suc i) (suc j) less lt e = rw (alike_differ same xs d i j (omega (arith, less)) (omega (arith, lt)) e) (by (not (list_any (same x) xs)))
  where
    by : (b : Bool) → (b && false) ≡ false
    by true = refl
    by false = refl

-- where an index finds no key that is repeated, the rows' keys differ
pub keys_differ : (t : Table) (rows : List Row) → KeysDiffer t.key rows (length rows) → all_differ (λ x y. same_values (key_of t x) (key_of t y)) rows ≡ true
keys_differ t rows h = apart_differ (λ x y. same_values (key_of t x) (key_of t y)) rows [] (λ i j less lt. sym (same_key-values t rows i j) ∙ h i j less lt)

-- and where it finds one they do not
pub keys_repeat : (t : Table) (rows : List Row) (r : Repeat) → IsFirstRepeat t.key rows r → all_differ (λ x y. same_values (key_of t x) (key_of t y)) rows ≡ false
keys_repeat t rows r first =
    alike_differ (λ x y. same_values (key_of t x) (key_of t y)) rows [] r.earlier r.row first.before first.within (sym (same_key-values t rows r.earlier r.row) ∙ first.same)

-- rows of which a key is repeated are none of the table
pub no_rows : (t : Table) (rows : List Row) (found : Option Repeat) → TellsRepeat t.key rows found → is_some found ≡ true → are_rows t rows ≡ false
no_rows t rows None tells e = cc
no_rows t rows (Some r) tells e = rw (keys_repeat t rows r tells) (and_false (nat_lt (length rows) (2 ^ 31) && list_all (row_fits t.columns) rows))
  where
    and_false : (b : Bool) → (b && false) ≡ false
    and_false true = refl
    and_false false = refl

-- few rows that fit, of which no key is repeated, are rows of the table
pub valid_rows : (t : Table) (rows : List Row) (found : Option Repeat) → TellsRepeat t.key rows found → is_some found ≡ false
    → length rows < 2 ^ 31 → list_all (row_fits t.columns) rows ≡ true → are_rows t rows ≡ true
valid_rows t rows None tells e few fit = rw (lt-ltb (length rows) (2 ^ 31) few, fit) (keys_differ t rows tells)
valid_rows t rows (Some r) tells e few fit = cc
