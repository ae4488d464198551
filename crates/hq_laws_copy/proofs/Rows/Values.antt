-- Rows and their keys: how many there are, what fits, and which differ.
use Rattle.std.proofs.Common.{◌≡◌, ℕ, zero, suc, pos, ◌+◌, ◌≤◌, ◌<◌, ◌^◌, List, [], ◌∷◌, ◌++◌, map, filter, length, Bool, true, false, cond, ◌&&◌, ◌||◌, ◌==◌, Option, Some, None, Ordering, refl, sym, ap, ap₂, ◌∙◌, arith, slice_get}
use Rattle.std.proofs.lemmas.Bool.{and_parts, and_from, or_left, ltb-true, lt-ltb, eq-eqb, ne_eqb, false≢true}
use Rattle.std.specs.List.{position_from}
use Rattle.std.specs.Ordering.{is_gt}
use Rattle.std.specs.Prelude.{slice_index_or}
use Rattle.hq_base.specs.Cells.{cell_of, same_cell}
use Rattle.hq_base.specs.Lists.{Each, Zip, put, sort}
use Rattle.hq_base.specs.declared.value.Ty.TheVariants.{Bigint}
use Rattle.hq_base.specs.declared.value.Val.{Val}
use Rattle.hq_base.specs.declared.value.Val.TheVariants as val
use Rattle.hq_base.proofs.Orders.{same_cell_equiv, same_value}
use Rattle.hq_base.proofs.Sorts.{each_put, each_sort, sort_length}
use Rattle.hq_model.specs.Database.{Row, int_fits, value_fits, row_fits, same_values, are_rows, is_database}
use Rattle.hq_model.specs.declared.table.Column.{Column}
use Rattle.hq_model.specs.declared.table.Table.{Table}
use Rattle.hq_copy_definition.specs.Metadata.{places}
use Rattle.hq_copy_definition.specs.Rows.{number_value}
use Rattle.hq_copy_definition.proofs.Apart.{Apart}
use Rattle.hq_copy_definition.proofs.Lists.{each_along}

-- ---- how many rows

filter_length : {A : Type 0} (p : A → Bool) (xs : List A) → length (filter p xs) ≤ length xs
filter_length p [] = omega arith
filter_length p (x ∷ xs) =
    let less = filter_length p xs in
    let go : (b : Bool) → length (cond b (x ∷ filter p xs) (filter p xs)) ≤ suc (length xs) = elim [ true ↦ omega (arith, less) | false ↦ omega (arith, less) ] in
    go (p x)

pub filter_sort_length : {A : Type 0} (p : A → Bool) (R : A → A → Ordering) (xs : List A) → length (filter p (sort R xs)) ≤ length xs
filter_sort_length p R xs = let less = filter_length p (sort R xs) in omega (arith, less, sort_length R xs)

-- the rows of a table of the catalog are valid, and each table has fewer than 2 ^ 31
pub rows_valid : (ts : List Table) (d : List (List Row)) (t : ℕ) (x : Table) → is_database ts d ≡ true → slice_get ts t ≡ Some x → are_rows x (slice_index_or d t []) ≡ true
rows_valid [] d t x h e = cc
rows_valid (y ∷ ts) [] t x h e = absurd (false≢true h)
rows_valid (y ∷ ts) (rows ∷ d) zero x h e = let same : y ≡ x = cc in ap (λ w. are_rows w rows) (sym same) ∙ (and_parts _ _ h).0
rows_valid (y ∷ ts) (rows ∷ d) (suc t) x h e = rows_valid ts d t x (and_parts (are_rows y rows) (is_database ts d) h).1 e

pub rows_short : (ts : List Table) (d : List (List Row)) (t : ℕ) → is_database ts d ≡ true → length (slice_index_or d t []) < 2 ^ 31
rows_short [] [] t h = omega arith
rows_short [] (rows ∷ d) t h = absurd (false≢true h)
rows_short (y ∷ ts) [] t h = absurd (false≢true h)
rows_short (y ∷ ts) (rows ∷ d) zero h = ltb-true (length rows) (2 ^ 31) (and_parts _ _ (and_parts _ _ (and_parts (are_rows y rows) (is_database ts d) h).0).0).0
rows_short (y ∷ ts) (rows ∷ d) (suc t) h = rows_short ts d t (and_parts (are_rows y rows) (is_database ts d) h).1

-- ---- what fits

pub fits_at : (cs : List Column) (row : Row) (c : ℕ) (column : Column) → row_fits cs row ≡ true → slice_get cs c ≡ Some column → value_fits column (slice_index_or row c val.Null) ≡ true
fits_at [] row c column h e = cc
fits_at (k ∷ cs) [] c column h e = absurd (false≢true h)
fits_at (k ∷ cs) (v ∷ vs) zero column h e = let same : k ≡ column = cc in ap (λ w. value_fits w v) (sym same) ∙ (and_parts _ _ h).0
fits_at (k ∷ cs) (v ∷ vs) (suc c) column h e = fits_at cs vs c column (and_parts (value_fits k v) (row_fits cs vs) h).1 e

pub fits_front : {A : Type 0} (f : A → Column) (g : A → Val) (xs : List A) (cs : List Column) (vs : Row) → Each (λ x. value_fits (f x) (g x) ≡ true) xs → row_fits cs vs ≡ true
    → row_fits (map f xs ++ cs) (map g xs ++ vs) ≡ true
fits_front f g [] cs vs h e = e
fits_front f g (x ∷ xs) cs vs h e = and_from (value_fits (f x) (g x)) (row_fits (map f xs ++ cs) (map g xs ++ vs)) h.0 (fits_front f g xs cs vs h.1 e)

pub fits_all : {A : Type 0} (f : A → Column) (g : A → Val) (xs : List A) → Each (λ x. value_fits (f x) (g x) ≡ true) xs → row_fits (map f xs) (map g xs) ≡ true
fits_all f g [] h = refl
fits_all f g (x ∷ xs) h = and_from (value_fits (f x) (g x)) (row_fits (map f xs) (map g xs)) h.0 (fits_all f g xs h.1)

-- a value of a column that may hold NULL wherever the old one may
pub fits_wider : (name : List ℕ) (c : Column) (also : Bool) (v : Val) → value_fits c v ≡ true → value_fits (record { name = name; ty = c.ty; of = c.of; nullable = c.nullable || also }) v ≡ true
fits_wider name c also val.Null h = or_left c.nullable also h
fits_wider name c also (val.Int n) h = h
fits_wider name c also (val.Text t) h = h
fits_wider name c also (val.Bool b) h = h

-- a number that is a position among few rows
position_least : {A : Type 0} (p : A → Bool) (k n : ℕ) (xs : List A) → position_from p k xs ≡ Some n → n < k + length xs
position_least p k n [] e = cc
position_least p k n (x ∷ xs) e =
    let go : (b : Bool) → cond b (Some k) (position_from p (k + 1) xs) ≡ Some n → n < k + suc (length xs) =
    elim [ true ↦ λ g. let same : k ≡ n = cc in omega (arith, same) | false ↦ λ g. let less = position_least p (k + 1) n xs g in omega (arith, less) ] in
    go (p x) e

pub small_number : (n : ℕ) → n < 2 ^ 63 → int_fits Bigint (pos n) ≡ true
small_number n h = lt-ltb n (2 ^ 63) h

pub number_fits : {A : Type 0} (name : List ℕ) (p : A → Bool) (xs : List A) → length xs < 2 ^ 31
    → value_fits (record { name = name; ty = Bigint; of = []; nullable = true }) (number_value (position_from p 1 xs)) ≡ true
number_fits name p xs few =
    let go : (o : Option ℕ) → position_from p 1 xs ≡ o → value_fits (record { name = name; ty = Bigint; of = []; nullable = true }) (number_value o) ≡ true =
    elim [ None ↦ λ e. refl | Some n ↦ λ e. let less = position_least p 1 n xs e in small_number n (omega (arith, less)) ] in
    go (position_from p 1 xs) refl

-- ---- which differ

pub values_turn : (us vs : List Val) → same_values us vs ≡ same_values vs us
values_turn [] [] = refl
values_turn [] (v ∷ vs) = refl
values_turn (u ∷ us) [] = refl
values_turn (u ∷ us) (v ∷ vs) = ap₂ (λ a b. a && b) (same_cell_equiv.symm (cell_of u) (cell_of v)) (values_turn us vs)

module _ {A : Type 0} (same : A → A → Bool) (turn : (x y : A) → same x y ≡ same y x) (R : A → A → Ordering) where
  put_apart : (x : A) (xs : List A) → Each (λ y. same x y ≡ false) xs → Apart same xs → Apart same (put R x xs)
  put_apart x [] h a = (tt, tt)
  put_apart x (y ∷ ys) h a =
      let later = put_apart x ys h.1 a.1 in
      let go : (b : Bool) → Apart same (cond b (y ∷ put R x ys) (x ∷ (y ∷ ys))) =
      elim [ true ↦ (each_put R (λ w. same y w ≡ false) x (turn y x ∙ h.0) ys a.0, later) | false ↦ (h, a) ] in
      go (is_gt (R x y))

  -- a sort leaves what differs
  pub sort_apart : (xs : List A) → Apart same xs → Apart same (sort R xs)
  sort_apart [] h = tt
  sort_apart (x ∷ xs) h = put_apart x (sort R xs) (each_sort R (λ y. same x y ≡ false) xs h.0) (sort_apart xs h.1)

-- lists that are related item by item, under tests that agree, differ together
pub apart_along : {A B : Type 0} (Q : A → B → Type 0) (same : A → A → Bool) (other : B → B → Bool) → ((x : A) (y : B) (u : A) (v : B) → Q x y → Q u v → same x u ≡ other y v)
    → (xs : List A) (ys : List B) → Zip Q xs ys → Apart same xs → Apart other ys
apart_along Q same other agree [] [] z h = tt
apart_along Q same other agree [] (y ∷ ys) z h = absurd z
apart_along Q same other agree (x ∷ xs) [] z h = absurd z
apart_along Q same other agree (x ∷ xs) (y ∷ ys) z h =
    (each_along Q (λ u. same x u ≡ false) (λ v. other y v ≡ false) (λ u v q e. sym (agree x y u v z.0 q) ∙ e) xs ys z.1 h.0, apart_along Q same other agree xs ys z.1 h.1)

-- positions differ, and so do the values that they are
pub positions_apart : {A : Type 0} (k : ℕ) (xs : List A) → Apart (λ i j. i == j) (places k xs)
positions_apart k [] = tt
positions_apart k (x ∷ xs) = (later k (suc k) xs (omega arith), positions_apart (suc k) xs)
  where
    later : {A : Type 0} (i k : ℕ) (xs : List A) → i < k → Each (λ j. (i == j) ≡ false) (places k xs)
    later i k [] h = tt
    later i k (x ∷ xs) h = (ne_eqb i k (omega arith), later i (suc k) xs (omega arith))

whole_of : Val → ℕ
whole_of (val.Int (pos n)) = n
whole_of _ = 0

pub position_values : (i j : ℕ) → (i == j) ≡ false → same_values (val.Int (pos (suc i)) ∷ []) (val.Int (pos (suc j)) ∷ []) ≡ false
unfolding whole_of
position_values i j h =
    let v : Val = val.Int (pos (suc i)) in
    let w : Val = val.Int (pos (suc j)) in
    let go : (b : Bool) → same_cell (cell_of v) (cell_of w) ≡ b → (b && true) ≡ false =
    elim [
      | true ↦ λ e. let same : suc i ≡ suc j = ap whole_of (same_value v w e) in absurd (false≢true (sym h ∙ eq-eqb i j (omega (arith, same))))
      | false ↦ λ e. refl
    ] in
    go (same_cell (cell_of v) (cell_of w)) refl
