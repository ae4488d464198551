-- A part weighs no more than the whole.
use Rattle.std.proofs.Common.{rules, ◌≡◌, ℕ, zero, suc, ◌<◌, ◌≤◌, List, [], ◌∷◌, map, length, get_or, arith}
use Rattle.hq_sql_tree.specs.declared.expr.Expr.{Expr, the_lemmas}
use Rattle.hq_sql_tree.specs.declared.expr.ExprPair.{ExprPair}
use Rattle.hq_sql_tree.specs.declared.expr.Order.{Order}
use Rattle.hq_sql_tree.specs.declared.select.Out.{Out}
use Rattle.hq_sql_tree.specs.declared.select.Pred.{Pred}
use Rattle.hq_sql_conjuncts.specs.Weight.{total, expr_weight, pair_weight, order_weight, out_weight, pred_weight}

-- an item weighs at most what all weigh
pub item_weight : {A : Type 0} (f : A → ℕ) (xs : List A) (i : ℕ) (d : A) → i < length xs → f (get_or xs i d) ≤ total (map f xs)
item_weight f [] i d h = absurd (omega arith)
item_weight f (x ∷ xs) zero d h = omega arith
item_weight f (x ∷ xs) (suc i) d h =
    let h' : i < length xs = omega arith in
    let e = item_weight f xs i d h' in
    omega arith

-- a pair and a sort key weigh what their expressions do
pub pair_is : (p : ExprPair) → pair_weight p ≡ expr_weight p.value
pair_is p = search (rules, the_lemmas)

pub order_is : (o : Order) → order_weight o ≡ expr_weight o.value
order_is o = search (rules, the_lemmas)

pub pair_item : (ps : List ExprPair) (i : ℕ) (d : ExprPair) → i < length ps → expr_weight (get_or ps i d).value ≤ total (map pair_weight ps)
pair_item ps i d h = rw (← pair_is (get_or ps i d)) (item_weight pair_weight ps i d h)

pub order_item : (os : List Order) (i : ℕ) (d : Order) → i < length os → expr_weight (get_or os i d).value ≤ total (map order_weight os)
order_item os i d h = rw (← order_is (get_or os i d)) (item_weight order_weight os i d h)

pub out_item : (os : List Out) (i : ℕ) (d : Out) → i < length os → expr_weight (get_or os i d).value ≤ total (map out_weight os)
out_item os i d h = item_weight out_weight os i d h

pub expr_item : (es : List Expr) (i : ℕ) (d : Expr) → i < length es → expr_weight (get_or es i d) ≤ total (map expr_weight es)
expr_item es i d h = item_weight expr_weight es i d h

pub pred_item : (ps : List Pred) (i : ℕ) (d : Pred) → i < length ps → pred_weight (get_or ps i d) ≤ total (map pred_weight ps)
pred_item ps i d h = item_weight pred_weight ps i d h
