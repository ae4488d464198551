-- Lists inside trees: the members of AND and OR, and the sort keys of json_agg.
use Rattle.std.proofs.Common.{◌≡◌, refl, ap, suc, ◌==◌, List, [], ◌∷◌, map, length, false, ◌&&◌}
use Rattle.std.proofs.Math.Bool.{and_assoc}
use Rattle.hq_sql_tree.specs.declared.expr.Order.{Order}
use Rattle.hq_sql_tree.specs.declared.select.Pred.{Pred}
use Rattle.hq_sql_tree.specs.Tree as tree
use Rattle.hq_sql_tree.specs.Tree.{ExprTree, orders_of, preds_of, pred_list}
use Rattle.hq_sql_tree.specs.View.{order_view, pred_view}
use Rattle.hq_sql_tree.specs.Form.{is_expr, is_agg, are_orders}

-- as many members as the code has
pub listed_length : (ps : List Pred) → length (pred_list (preds_of (map pred_view ps))) ≡ length ps
listed_length [] = refl
listed_length (p ∷ ps) = ap suc (listed_length ps)

-- json_agg with some sort keys
pub some_keys : (e : ExprTree) (os : List Order) → (length os == 0) ≡ false → is_agg (tree.json_agg e (orders_of (map order_view os))) ≡ (is_expr e && are_orders (orders_of (map order_view os)))
some_keys e [] h = cc
some_keys e (o ∷ os) h = and_assoc (is_expr e) (is_expr (order_view o).value) (are_orders (orders_of (map order_view os)))
