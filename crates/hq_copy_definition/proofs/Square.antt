-- Links by equal cells are square.
use Rattle.std.proofs.Common.{◌≡◌, List, [], ◌∷◌, true, refl, sym, ap, ap₂, ◌∙◌, subst, ◌&&◌, Option, Some, None, Ordering, Less, Equal, Greater, is_eq}
use Rattle.std.proofs.lemmas.Bool.{and_parts, false≢true}
use Rattle.hq_base.specs.Cells.{CellTree, cell_of, same_cell}
use Rattle.hq_base.specs.declared.value.Val.{Val}
use Rattle.hq_base.proofs.Orders.{same_value}
use Rattle.hq_model.specs.Database.{Row}
use Rattle.hq_model.specs.Logic.{is_true, equal, order_between, tested}
use Rattle.hq_model.specs.Seen.{row_cell, linked_by}
use Rattle.hq_model.specs.declared.meta.Pair.{Pair}
use Rattle.hq_model.proofs.CellOrders.{cell_cmp_between}
use Rattle.hq_copy_definition.specs.Links.{Square}

-- cells that are equal, and so not NULL, are not distinct
ordered_same : (a b : CellTree) (o : Option Ordering) → order_between a b ≡ o → is_true (tested is_eq o) ≡ true → same_cell a b ≡ true
ordered_same a b None e h = absurd (false≢true h)
ordered_same a b (Some Less) e h = absurd (false≢true h)
ordered_same a b (Some Equal) e h = ap is_eq (cell_cmp_between a b Equal e)
ordered_same a b (Some Greater) e h = absurd (false≢true h)

equal_same : (a b : CellTree) → is_true (equal a b) ≡ true → same_cell a b ≡ true
equal_same a b h = ordered_same a b (order_between a b) refl h

-- equal values are the same
pub equal_values : (v w : Val) → is_true (equal (cell_of v) (cell_of w)) ≡ true → v ≡ w
equal_values v w h = same_value v w (equal_same (cell_of v) (cell_of w) h)

pub linked_square : (ps : List Pair) (xs ys : List Row) → Square (linked_by ps) xs ys
linked_square [] xs ys x u y z mx mu my mz a b c = refl
linked_square (p ∷ ps) xs ys x u y z mx mu my mz a b c =
    let xy = and_parts _ (linked_by ps x y) a in
    let uy = and_parts _ (linked_by ps u y) b in
    let uz = and_parts _ (linked_by ps u z) c in
    let here : row_cell u p.own ≡ row_cell x p.own = ap cell_of (sym (equal_values _ _ uy.0) ∙ equal_values _ _ xy.0) in
    ap₂ (λ v w. v && w)
    (subst (λ k. is_true (equal (row_cell z p.remote) k) ≡ true) here uz.0)
    (linked_square ps xs ys x u y z mx mu my mz xy.1 uy.1 uz.1)
