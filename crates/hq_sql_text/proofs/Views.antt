-- What the variants of a select are seen as.
use Rattle.std.proofs.Common.{◌≡◌, ℕ, List, map, Option, rules}
use Rattle.std.specs.Global.{Vec, Box}
use Rattle.hq_sql_tree.specs.declared.expr.Expr.{Expr}
use Rattle.hq_sql_tree.specs.declared.expr.Order.{Order}
use Rattle.hq_sql_tree.specs.declared.select.Out.{Out}
use Rattle.hq_sql_tree.specs.declared.select.From.{From}
use Rattle.hq_sql_tree.specs.declared.select.Join.{Join}
use Rattle.hq_sql_tree.specs.declared.select.Pred.{Pred}
use Rattle.hq_sql_tree.specs.declared.select.Select.{Select, Rows, Fold, the_lemmas}
use Rattle.hq_sql_tree.specs.Tree as tree
use Rattle.hq_sql_tree.specs.Tree.{joins_of}
use Rattle.hq_sql_tree.specs.View.{expr_view, out_view, order_view, select_view, from_view, join_view, filter_view}

pub view_rows : (distinct : Vec Expr) (outs : Vec Out) (from : From) (joins : Vec Join) (condition : Option Pred) (keys : Vec Order) (limit offset : Option ℕ)
    → select_view (Rows distinct outs from joins condition keys limit offset)
    ≡ tree.rows (map expr_view distinct.items) (map out_view outs.items) (from_view from) (joins_of (map join_view joins.items))
    (filter_view condition) (map order_view keys.items) limit offset
view_rows distinct outs from joins condition keys limit offset = search (rules, the_lemmas)

pub view_fold : (o : Out) (inner : Box Select) (alias : List ℕ) → select_view (Fold o inner alias) ≡ tree.fold (out_view o) (select_view inner.value) alias
view_fold o inner alias = search (rules, the_lemmas)
