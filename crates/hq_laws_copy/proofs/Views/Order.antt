-- The rows of a copy stand in the order of its keys.
use Rattle.std.proofs.Common.{◌≡◌, ℕ, suc, pos, ◌+◌, ◌<◌, List, [], ◌∷◌, map, filter, true, false, cond, ◌==◌, Some, Ordering, Less, Equal, Greater, refl, sym, ap, ap₂, ◌∙◌, subst, arith, is_gt}
use Rattle.std.proofs.lemmas.Bool.{or_parts, lt-ltb}
use Rattle.std.specs.List.{list_any}
use Rattle.std.specs.Cmp.{IsTotalOrder}
use Rattle.std.specs.Ordering.{int_cmp, ordering_then}
use Rattle.std.proofs.lemmas.Cmp.{on_total, then_total}
use Rattle.std.specs.Prelude.{slice_get, nat_lt}
use Rattle.hq_base.specs.Cells.{null, int, key_cmp}
use Rattle.hq_base.specs.Lists.{Each, Zip, Before, Ascends}
use Rattle.hq_base.proofs.Lists.{each_all, filter_all}
use Rattle.hq_base.proofs.Orders.{key_cmp_total}
use Rattle.hq_base.proofs.Sorts.{ascends_sort, ascends_filter, sort_ascending}
use Rattle.hq_model.specs.Bexp.{always}
use Rattle.hq_model.specs.Database.{Row}
use Rattle.hq_model.specs.Grants.{Grants, grant}
use Rattle.hq_model.specs.Permission.{Mask, Permission}
use Rattle.hq_model.specs.Permitted.{columns_cmp, by_key, permitted, mask_of, shown_under}
use Rattle.hq_model.specs.Schema.{Schema, table}
use Rattle.hq_model.specs.Seen.{all_of, row_cell, table_rows}
use Rattle.hq_model.specs.Truth.{keeps}
use Rattle.hq_copy_definition.specs.Metadata.{places}
use Rattle.hq_copy_definition.proofs.Lists.{each_along}

-- ---- ascending lists

-- lists that are related item by item, under orders that agree, ascend together
pub ascends_image : {A B : Type 0} (Q : A → B → Type 0) (R : A → A → Ordering) (S : B → B → Ordering) → ((x : A) (y : B) (u : A) (v : B) → Q x y → Q u v → R x u ≡ S y v)
    → (xs : List A) (ys : List B) → Zip Q xs ys → Ascends R xs → Ascends S ys
ascends_image Q R S agree [] [] z h = tt
ascends_image Q R S agree [] (y ∷ ys) z h = absurd z
ascends_image Q R S agree (x ∷ xs) [] z h = absurd z
ascends_image Q R S agree (x ∷ xs) (y ∷ ys) z h =
    (each_along Q (Before R x) (Before S y) (λ u v q b. ap is_gt (sym (agree x y u v z.0 q)) ∙ b) xs ys z.1 h.0, ascends_image Q R S agree xs ys z.1 h.1)

-- what is made of ascending positions ascends, where what is made of two does
pub ascends_places : {A B : Type 0} (R : B → B → Ordering) (f : ℕ → B) → ((i j : ℕ) → i < j → Before R (f i) (f j)) → (k : ℕ) (xs : List A) → Ascends R (map f (places k xs))
ascends_places R f up k [] = tt
ascends_places R f up k (x ∷ xs) = (later k (suc k) xs (omega arith), ascends_places R f up (suc k) xs)
  where
    later : {A : Type 0} (i k : ℕ) (xs : List A) → i < k → Each (Before R (f i)) (map f (places k xs))
    later i k [] h = tt
    later i k (x ∷ xs) h = (up i k h, later i (suc k) xs (omega arith))

-- each row and its position
pub placed_places : {A : Type 0} (zs ys : List A) (k : ℕ) → ((j : ℕ) → slice_get zs (k + j) ≡ slice_get ys j) → Zip (λ x i. slice_get zs i ≡ Some x) ys (places k ys)
placed_places zs [] k e = tt
placed_places zs (y ∷ ys) k e =
    let here : k + 0 ≡ k = omega arith in (
      subst (λ i. slice_get zs i ≡ Some y) here (e 0),
      placed_places zs ys (suc k) (λ j. let next : k + suc j ≡ suc k + j = omega arith in subst (λ i. slice_get zs i ≡ slice_get ys j) next (e (suc j))),
    )

-- ---- the order of positions as cells

ordered_numbers : (a b : ℕ) → a < b → int_cmp (pos a) (pos b) ≡ Less
ordered_numbers a b h = let below : nat_lt a b ≡ true = lt-ltb a b h in ap (λ t. cond t Less (cond (nat_lt b a) Greater Equal)) below

not_after : (o : Ordering) → o ≡ Less → is_gt (ordering_then (ordering_then o Equal) Equal) ≡ false
not_after Less h = refl
not_after Equal h = cc
not_after Greater h = cc

pub positions_ascend : (c i j : ℕ) (x y : Row) → row_cell x c ≡ int (pos (suc i)) → row_cell y c ≡ int (pos (suc j)) → i < j → Before (columns_cmp (c ∷ [])) x y
positions_ascend c i j x y e f h =
    ap₂ (λ a b. is_gt (ordering_then (key_cmp false false a b) Equal)) e f ∙ not_after (int_cmp (pos (suc i)) (pos (suc j))) (ordered_numbers (suc i) (suc j) (omega arith))

-- ---- the order of permitted rows by a key whose columns show

-- a column without a mask always shows
pub no_mask : (ms : List Mask) (c : ℕ) → list_any (λ m. m.column == c) ms ≡ false → mask_of ms c ≡ always
no_mask [] c h = refl
no_mask (m ∷ ms) c h = let both = or_parts (m.column == c) (list_any (λ k. k.column == c) ms) h in ap (λ b. cond b m.shown (mask_of ms c)) both.0 ∙ no_mask ms c both.1

pub shows_all : (p : Permission) (s : Schema) (d : List (List Row)) (t : ℕ) (x : Row) (c : ℕ) → list_any (λ m. m.column == c) p.masks ≡ false → shown_under p s d t x c ≡ row_cell x c
shows_all p s d t x c h = ap (λ e. cond (keeps e s (all_of s d) t x) (row_cell x c) null) (no_mask p.masks c h)

-- rows that show the same cells in columns compare alike by them
pub columns_agree : (f : ℕ → ℕ) (x y u v : Row) (cs : List ℕ) → Each (λ c. (row_cell x c ≡ row_cell y (f c)) × (row_cell u c ≡ row_cell v (f c))) cs
    → columns_cmp cs x u ≡ columns_cmp (map f cs) y v
columns_agree f x y u v [] h = refl
columns_agree f x y u v (c ∷ cs) h = ap₂ ordering_then (ap₂ (key_cmp false false) h.0.0 h.0.1) (columns_agree f x y u v cs h.1)

-- the order by columns is total
none_total : {A : Type 0} → IsTotalOrder {K = A} (λ x y. Equal)
none_total = record { antisymm = λ x y. refl; trans = λ x y z h g. h; congr = λ x y z h. refl }

pub columns_total : (cs : List ℕ) → IsTotalOrder (columns_cmp cs)
columns_total [] = none_total
columns_total (c ∷ cs) = then_total (on_total (λ row. row_cell row c) (key_cmp_total false false)) (columns_total cs)

-- permitted rows ascend by the key
pub permitted_ascend : (s : Schema) (g : Grants) (d : List (List Row)) (t : ℕ) → Ascends (columns_cmp (table s t).key) (permitted s g d t)
permitted_ascend s g d t = ascends_filter (columns_cmp (table s t).key) (keeps (grant g t).filter s (all_of s d) t) (by_key s d t) (ascends_sort (columns_total (table s t).key) (table_rows d t))

-- ascending rows are in the order of their key, and the filter that is always true leaves them all
pub all_permitted : (s : Schema) (g : Grants) (d : List (List Row)) (t : ℕ) → (grant g t).filter ≡ always → Ascends (columns_cmp (table s t).key) (table_rows d t)
    → permitted s g d t ≡ table_rows d t
all_permitted s g d t plain up =
    ap (λ e. filter (keeps e s (all_of s d) t) (by_key s d t)) plain
    ∙ filter_all (keeps always s (all_of s d) t) (by_key s d t) (each_all _ (λ x. refl) (by_key s d t))
    ∙ sort_ascending (columns_total (table s t).key) (table_rows d t) up
