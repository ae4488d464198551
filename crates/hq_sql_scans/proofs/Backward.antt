-- Rows whose keys differ, in the order of their keys from the last one on.
use Rattle.std.proofs.Common.{◌≡◌, ◌∙◌, refl, sym, ap, ℕ, zero, suc, ◌+◌, ◌<◌, ◌≤◌, List, [], ◌∷◌, ◌++◌, reverse, Bool, true, false, cond, Ordering, Less, Equal, Greater, is_gt, is_eq, nat_lt, ◌^◌, not, ◌&&◌, length, get_or, arith}
use Rattle.std.specs.Cmp.{IsTotalOrder}
use Rattle.std.specs.Ordering.{flip_args}
use Rattle.std.proofs.lemmas.List.{reverse-append}
use Rattle.std.proofs.lemmas.Cmp.{upto}
use Rattle.hq_base.specs.Lists.{Each, Before, Ascends, put, sort}
use Rattle.hq_base.proofs.Lists.{each_weaken}
use Rattle.hq_base.proofs.Sorts.{each_sort, ascends_sort}
use Rattle.hq_base.specs.Lists.{all_differ}
use Rattle.std.specs.List.{list_all, list_any}
use Rattle.std.proofs.lemmas.Bool.{and_parts, true≢false}
use Rattle.std.proofs.lemmas.List.Folds.{list_any_at}
use Rattle.hq_load_index.specs.Indexes.{counted}
use Rattle.hq_load_index.specs.Repeats.{KeysDiffer}
use Rattle.hq_model.specs.Database.{Row, are_rows, key_of, row_fits, same_values}
use Rattle.hq_model.specs.declared.table.Table.{Table}
use Rattle.hq_load_tables.proofs.Keys.{same_key-values}

-- the last one first, where the first one is told
turned_cons : {A : Type 0} (x : A) (xs : List A) → reverse (x ∷ xs) ≡ reverse xs ++ (x ∷ [])
turned_cons x xs = reverse-append (x ∷ []) xs

each_behind : {A : Type 0} (P : A → Type 0) (x : A) (xs : List A) → P x → Each P xs → Each P (xs ++ (x ∷ []))
each_behind P x [] p h = (p, tt)
each_behind P x (y ∷ ys) p h = (h.0, each_behind P x ys p h.1)

each_turned : {A : Type 0} (P : A → Type 0) (xs : List A) → Each P xs → Each P (reverse xs)
each_turned P [] h = tt
each_turned P (x ∷ xs) h = rw (turned_cons x xs) (each_behind P x (reverse xs) h.0 (each_turned P xs h.1))

-- ---- an item put into a list

module _ {A : Type 0} (S : A → A → Ordering) where
  -- before the last one, where it does not belong behind that
  put_before : (x y : A) → is_gt (S x y) ≡ false → (zs : List A) → put S x (zs ++ (y ∷ [])) ≡ put S x zs ++ (y ∷ [])
  put_before x y e [] = rw e refl
  put_before x y e (z ∷ zs) =
      let later = put_before x y e zs in
      let go : (b : Bool) → cond b (z ∷ put S x (zs ++ (y ∷ []))) (x ∷ (z ∷ (zs ++ (y ∷ [])))) ≡ cond b (z ∷ put S x zs) (x ∷ (z ∷ zs)) ++ (y ∷ []) =
      elim [ true ↦ ap (λ l. z ∷ l) later | false ↦ refl ] in
      go (is_gt (S x z))

  -- behind all, where it belongs behind each
  put_last : (x : A) (zs : List A) → Each (λ z. is_gt (S x z) ≡ true) zs → put S x zs ≡ zs ++ (x ∷ [])
  put_last x [] h = refl
  put_last x (z ∷ zs) h = rw h.0 (ap (λ l. z ∷ l) (put_last x zs h.1))

-- ---- items that differ

-- x is like none of them, and no two of them are alike
abbrev pub Apart : {A : Type 0} → (A → A → Ordering) → List A → Type 0
Apart R [] = Unit {0}
Apart R (x ∷ xs) = Each (λ y. is_eq (R x y) ≡ false) xs × Apart R xs

module _ {A : Type 0} {R : A → A → Ordering} (o : IsTotalOrder R) where
  abbrev Back : A → A → Ordering
  Back = flip_args R

  -- what stands before y does not stand behind it the other way round
  stands_behind : (x y : A) → is_gt (R x y) ≡ true → is_gt (Back x y) ≡ false
  stands_behind x y e =
      let go : (p : Ordering) → R x y ≡ p → is_gt p ≡ true → is_gt (R y x) ≡ false =
      elim [ Less ↦ λ q g. cc | Equal ↦ λ q g. cc | Greater ↦ λ q g. rw (o.antisymm y x, q) refl ] in
      go (R x y) refl e

  stands_before : (x y : A) → is_gt (R x y) ≡ false → is_eq (R x y) ≡ false → is_gt (Back x y) ≡ true
  stands_before x y e d =
      let go : (p : Ordering) → R x y ≡ p → is_gt p ≡ false → is_eq p ≡ false → is_gt (R y x) ≡ true =
      elim [ Less ↦ λ q g k. rw (o.antisymm y x, q) refl | Equal ↦ λ q g k. cc | Greater ↦ λ q g k. cc ] in
      go (R x y) refl e d

  -- those behind an item and unlike it stand before it the other way round
  all_before : (x : A) (ys : List A) → Each (Before R x) ys → Each (λ y. is_eq (R x y) ≡ false) ys → Each (λ y. is_gt (Back x y) ≡ true) ys
  all_before x [] h d = tt
  all_before x (y ∷ ys) h d = (stands_before x y h.0 d.0, all_before x ys h.1 d.1)

  put_turned : (x : A) (ys : List A) → Ascends R ys → Each (λ y. is_eq (R x y) ≡ false) ys → put Back x (reverse ys) ≡ reverse (put R x ys)
  put_turned x [] h d = refl
  put_turned x (y ∷ ys) h d =
      let go : (b : Bool) → is_gt (R x y) ≡ b → put Back x (reverse (y ∷ ys)) ≡ reverse (cond b (y ∷ put R x ys) (x ∷ (y ∷ ys))) =
      elim [
        | true ↦ λ e. ap (put Back x) (turned_cons y ys) ∙ put_before Back x y (stands_behind x y e) (reverse ys) ∙ ap (λ l. l ++ (y ∷ [])) (put_turned x ys h.1 d.1) ∙ sym (turned_cons y (put R x ys))
        | false ↦ λ e.
            (let behind = each_weaken (Before R y) (Before R x) (λ z g. upto o x y z e g) ys h.0 in
            put_last Back x (reverse (y ∷ ys)) (each_turned (λ z. is_gt (Back x z) ≡ true) (y ∷ ys) (all_before x (y ∷ ys) (e, behind) d)) ∙ sym (turned_cons x (y ∷ ys)))
      ] in
      go (is_gt (R x y)) refl

  -- sorted the other way round they stand the other way round
  pub sort_turned : (xs : List A) → Apart R xs → sort Back xs ≡ reverse (sort R xs)
  sort_turned [] d = refl
  sort_turned (x ∷ xs) d =
      ap (put Back x) (sort_turned xs d.1) ∙ put_turned x (sort R xs) (ascends_sort o xs) (each_sort R (λ y. is_eq (R x y) ≡ false) xs d.0)

-- ---- numbers in a row

-- each number in a row
pub each_counted : (P : ℕ → Type 0) (from n : ℕ) → ((j : ℕ) → from ≤ j → j < from + n → P j) → Each P (counted from n)
each_counted P from zero h = tt
each_counted P from (suc n) h = (h from (omega arith) (omega arith), each_counted P (suc from) n (λ j le lt. h j (omega (arith, le)) (omega (arith, lt))))

pub apart_counted : (R : ℕ → ℕ → Ordering) (from n : ℕ) → ((i j : ℕ) → i < j → j < from + n → is_eq (R i j) ≡ false) → Apart R (counted from n)
apart_counted R from zero h = tt
apart_counted R from (suc n) h = (
  each_counted (λ j. is_eq (R from j) ≡ false) (suc from) n (λ j le lt. h from j (omega (arith, le)) (omega (arith, lt))),
  apart_counted R (suc from) n (λ i j lt below. h i j lt (omega (arith, below))),
)

-- ---- the rows of a table

-- items that all differ differ at any two places
differ_apart : {A : Type 0} (same : A → A → Bool) (xs : List A) (d : A) → all_differ same xs ≡ true → (i j : ℕ) → i < j → j < length xs → same (get_or xs i d) (get_or xs j d) ≡ false
differ_apart same [] d h i j less lt = absurd (omega (arith, lt))
differ_apart same (x ∷ xs) d h zero zero less lt = absurd (omega (arith, less))
differ_apart same (x ∷ xs) d h zero (suc j) less lt =
    let parts = and_parts (not (list_any (same x) xs)) (all_differ same xs) h in
    let within : j < length xs = omega (arith, lt) in
    let go : (b : Bool) → same x (get_or xs j d) ≡ b → b ≡ false =
    elim [ true ↦ λ e. (let some = list_any_at (same x) xs j d within e in absurd (true≢false (sym parts.0 ∙ ap not some))) | false ↦ λ e. refl ] in
    go (same x (get_or xs j d)) refl
differ_apart same (x ∷ xs) d h (suc i) zero less lt = absurd (omega (arith, less))
differ_apart same (x ∷ xs) d h (suc i) (suc j) less lt =
    let parts = and_parts (not (list_any (same x) xs)) (all_differ same xs) h in
    differ_apart same xs d parts.1 i j (omega (arith, less)) (omega (arith, lt))

-- the rows of a table differ in its primary key
pub keys_apart : (t : Table) (rows : List Row) → are_rows t rows ≡ true → KeysDiffer t.key rows (length rows)
keys_apart t rows h i j less lt =
    let same = λ (x y : Row). same_values (key_of t x) (key_of t y) in
    let parts = and_parts (nat_lt (length rows) (2 ^ 31) && list_all (row_fits t.columns) rows) (all_differ same rows) h in
    same_key-values t rows i j ∙ differ_apart same rows [] parts.1 i j less lt
