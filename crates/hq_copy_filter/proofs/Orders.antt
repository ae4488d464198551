-- The order of rows by columns is total, and it is found column by column.
use Rattle.std.proofs.Common.{◌≡◌, ◌∙◌, ℕ, ◌+◌, ◌<◌, List, [], ◌∷◌, drop, length, get_or, refl, ap, false, Ordering, Less, Equal, Greater, is_eq}
use Rattle.std.specs.Cmp.{IsTotalOrder}
use Rattle.std.specs.Ordering.{ordering_then}
use Rattle.std.proofs.lemmas.Cmp.{then_total, on_total}
use Rattle.hq_base.proofs.Loops.{next_item}
use Rattle.hq_base.proofs.Orders.{key_cmp_total}
use Rattle.hq_base.specs.Cells.{key_cmp}
use Rattle.hq_model.specs.Database.{Row}
use Rattle.hq_model.specs.Permitted.{columns_cmp}
use Rattle.hq_model.specs.Seen.{row_cell}

none_total : {A : Type 0} → IsTotalOrder {K = A} (λ x y. Equal)
none_total = record { antisymm = λ x y. refl; trans = λ x y z h g. h; congr = λ x y z h. refl }

pub columns_cmp_total : (cs : List ℕ) → IsTotalOrder (columns_cmp cs)
columns_cmp_total [] = none_total
columns_cmp_total (c ∷ cs) = then_total (on_total (λ row. row_cell row c) (key_cmp_total false false)) (columns_cmp_total cs)

module _ (cs : List ℕ) (i : ℕ) (c : ℕ) (x y : Row) (lt : i < length cs) (is : c ≡ get_or cs i c) where
  split : columns_cmp (drop i cs) x y ≡ ordering_then (key_cmp false false (row_cell x c) (row_cell y c)) (columns_cmp (drop (i + 1) cs) x y)
  split = ap (λ ds. columns_cmp ds x y) (next_item cs i c lt is)

  -- equal cells lead on to the next column
  pub column_step : key_cmp false false (row_cell x c) (row_cell y c) ≡ Equal → columns_cmp (drop i cs) x y ≡ columns_cmp (drop (i + 1) cs) x y
  column_step e = split ∙ ap (λ o. ordering_then o (columns_cmp (drop (i + 1) cs) x y)) e

  -- others decide
  pub column_other : is_eq (key_cmp false false (row_cell x c) (row_cell y c)) ≡ false → columns_cmp (drop i cs) x y ≡ key_cmp false false (row_cell x c) (row_cell y c)
  column_other e =
      let go : (p q : Ordering) → is_eq p ≡ false → ordering_then p q ≡ p = elim [ Less ↦ λ q g. refl | Equal ↦ λ q g. cc | Greater ↦ λ q g. refl ] in
      split ∙ go _ _ e
