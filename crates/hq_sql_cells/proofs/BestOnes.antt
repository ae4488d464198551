-- The first cell of a sorted list, found in one pass.
use Rattle.std.proofs.Common.{◌≡◌, List, [], ◌∷◌, map, filter, Bool, true, false, cond, ◌&&◌, ◌||◌, refl, sym, ap, ◌∙◌, Ordering, is_gt}
use Rattle.std.specs.Cmp.{IsTotalOrder}
use Rattle.std.proofs.lemmas.Cmp.{upto, back_total}
use Rattle.hq_base.specs.Aggregates.{is_taken, first_cell}
use Rattle.hq_base.specs.Cells.{CellTree, null, int, text, bool, json}
use Rattle.hq_base.specs.Lists.{put, sort}
use Rattle.hq_base.proofs.Orders.{cell_cmp_total}
use Rattle.hq_base.proofs.Sorts.{turned}
use Rattle.hq_model.specs.Logic.{null_test}
use Rattle.hq_sql_cells.specs.declared.cell.Cell.{Cell}
use Rattle.hq_sql_cells.specs.View.{cell_view}
use Rattle.hq_sql_cells.specs.Best.{best_cmp, is_better}

best_cmp_total : (greatest : Bool) → IsTotalOrder (best_cmp greatest)
best_cmp_total true = back_total cell_cmp_total
best_cmp_total false = cell_cmp_total

module _ {R : CellTree → CellTree → Ordering} (o : IsTotalOrder R) where
  -- of two that are put, the one that stands before the other decides
  first_two : (b x : CellTree) (ys : List CellTree) → first_cell (put R b (put R x ys)) ≡ first_cell (put R (cond (is_gt (R b x)) x b) ys)
  first_two b x [] =
      let go : (p : Bool) → first_cell (cond p (x ∷ (b ∷ [])) (b ∷ (x ∷ []))) ≡ first_cell (put R (cond p x b) []) = elim [ true ↦ refl | false ↦ refl ] in
      go (is_gt (R b x))
  first_two b x (h ∷ ys) =
      let go : (p q r : Bool) → is_gt (R x h) ≡ p → is_gt (R b x) ≡ q → is_gt (R b h) ≡ r
      → first_cell (put R b (cond p (h ∷ put R x ys) (x ∷ (h ∷ ys)))) ≡ first_cell (put R (cond q x b) (h ∷ ys)) =
      elim [
        | true ↦ elim [
          | true ↦ elim [ true ↦ λ e f g. rw (e, g) refl | false ↦ λ e f g. let below = upto o b h x g (turned o x h e) in cc ]
          | false ↦ elim [ true ↦ λ e f g. rw g refl | false ↦ λ e f g. rw g refl ]
        ]
        | false ↦ elim [
          | true ↦ λ r e f g. rw (e, f) refl
          | false ↦ elim [ true ↦ λ e f g. let below = upto o b x h f e in cc | false ↦ λ e f g. rw (f, g) refl ]
        ]
      ] in
      go (is_gt (R x h)) (is_gt (R b x)) (is_gt (R b h)) refl refl refl

-- the first cell, of those that are taken, in this order
abbrev pub best_in : (greatest : Bool) → List CellTree → CellTree
best_in greatest cs = first_cell (sort (best_cmp greatest) (filter is_taken cs))

-- a cell that may be the best one so far: NULL stands for none
abbrev pub may_be_best : CellTree → Bool
may_be_best c = null_test c || is_taken c

taken_step : (greatest : Bool) (b x : CellTree) (cs : List CellTree) → is_taken b ≡ true → is_taken x ≡ true
    → best_in greatest (b ∷ (x ∷ cs)) ≡ best_in greatest (cond (is_gt (best_cmp greatest b x)) x b ∷ cs)
taken_step g b x cs tb tx =
    let go : (p : Bool) → first_cell (put (best_cmp g) (cond p x b) (sort (best_cmp g) (filter is_taken cs))) ≡ best_in g (cond p x b ∷ cs) = elim [ true ↦ rw tx refl | false ↦ rw tb refl ] in
    rw (tb, tx) (first_two (best_cmp_total g) b x (sort (best_cmp g) (filter is_taken cs)) ∙ go (is_gt (best_cmp g b x)))

other_step : (greatest : Bool) (b x : CellTree) (cs : List CellTree) → is_taken b ≡ true → null_test b ≡ false
    → best_in greatest (b ∷ (x ∷ cs)) ≡ best_in greatest (cond (is_better greatest b x) x b ∷ cs)
other_step g b x cs tb nb =
    let go : (t : Bool) → is_taken x ≡ t → best_in g (b ∷ (x ∷ cs)) ≡ best_in g (cond (t && is_gt (best_cmp g b x)) x b ∷ cs) =
    elim [ true ↦ λ e. taken_step g b x cs tb e | false ↦ λ e. rw e refl ] in
    rw nb (go (is_taken x) refl)

-- a cell that is better takes the place of the best one so far
pub best_step : (greatest : Bool) (b x : CellTree) (cs : List CellTree) → may_be_best b ≡ true
    → best_in greatest (b ∷ (x ∷ cs)) ≡ best_in greatest (cond (is_better greatest b x) x b ∷ cs)
best_step g null x cs ready =
    let go : (t : Bool) → is_taken x ≡ t → best_in g (x ∷ cs) ≡ best_in g (cond (t && true) x null ∷ cs) = elim [ true ↦ λ e. refl | false ↦ λ e. rw e refl ] in
    go (is_taken x) refl
best_step g (int n) x cs ready = other_step g (int n) x cs refl refl
best_step g (text t) x cs ready = other_step g (text t) x cs refl refl
best_step g (bool c) x cs ready = other_step g (bool c) x cs refl refl
best_step g (json j) x cs ready = cc

taken_may_be_best : (g : Bool) (b x : CellTree) → is_better g b x ≡ true → may_be_best x ≡ true
taken_may_be_best g b null e = cc
taken_may_be_best g b (int n) e = refl
taken_may_be_best g b (text t) e = refl
taken_may_be_best g b (bool c) e = refl
taken_may_be_best g b (json j) e = cc

-- one step of the pass, where the cell is better
pub best_replaced : (g : Bool) (b : CellTree) (x : Cell) (old new : List Cell) (best : CellTree) → old ≡ x ∷ new → is_better g b (cell_view x) ≡ true
    → (best_in g (b ∷ map cell_view old) ≡ best) × (may_be_best b ≡ true) → (best_in g (cell_view x ∷ map cell_view new) ≡ best) × (may_be_best (cell_view x) ≡ true)
best_replaced g b x old new best is better h =
    let step : best_in g (b ∷ (cell_view x ∷ map cell_view new)) ≡ best_in g (cond true (cell_view x) b ∷ map cell_view new) =
    best_step g b (cell_view x) (map cell_view new) h.1 ∙ ap (λ t. best_in g (cond t (cell_view x) b ∷ map cell_view new)) better in
    (sym step ∙ ap (λ cs. best_in g (b ∷ map cell_view cs)) (sym is) ∙ h.0, taken_may_be_best g b (cell_view x) better)

-- and where it is not
pub best_stays : (g : Bool) (b : CellTree) (x : Cell) (old new : List Cell) (best : CellTree) → old ≡ x ∷ new → is_better g b (cell_view x) ≡ false
    → (best_in g (b ∷ map cell_view old) ≡ best) × (may_be_best b ≡ true) → (best_in g (b ∷ map cell_view new) ≡ best) × (may_be_best b ≡ true)
best_stays g b x old new best is worse h =
    let step : best_in g (b ∷ (cell_view x ∷ map cell_view new)) ≡ best_in g (cond false (cell_view x) b ∷ map cell_view new) =
    best_step g b (cell_view x) (map cell_view new) h.1 ∙ ap (λ t. best_in g (cond t (cell_view x) b ∷ map cell_view new)) worse in
    (sym step ∙ ap (λ cs. best_in g (b ∷ map cell_view cs)) (sym is) ∙ h.0, h.1)

-- at the end of the list it is the best of all
pub best_last : (greatest : Bool) (b : CellTree) → may_be_best b ≡ true → best_in greatest (b ∷ []) ≡ b
best_last g null ready = refl
best_last g (int n) ready = refl
best_last g (text t) ready = refl
best_last g (bool c) ready = refl
best_last g (json j) ready = cc
