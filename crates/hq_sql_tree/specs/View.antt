-- What the declared trees are seen as.
use Rattle.std.specs.Prelude.{map, Option, Some, None}
use Rattle.hq_sql_tree.specs.declared.expr.Agg.{Agg, fold-Agg}
use Rattle.hq_sql_tree.specs.declared.expr.Agg.TheOpen.{Agg-F, Expr-F, ExprPair-F, Order-F}
use Rattle.hq_sql_tree.specs.declared.expr.Expr.{Expr, fold-Expr}
use Rattle.hq_sql_tree.specs.declared.expr.ExprPair.{ExprPair, fold-ExprPair}
use Rattle.hq_sql_tree.specs.declared.expr.Order.{Order, fold-Order}
use Rattle.hq_sql_tree.specs.declared.select.Out.{Out}
use Rattle.hq_sql_tree.specs.declared.select.From.{From, fold-From}
use Rattle.hq_sql_tree.specs.declared.select.From.TheOpen.{From-F, Pred-F, Select-F, Join-F}
use Rattle.hq_sql_tree.specs.declared.select.Pred.{Pred, fold-Pred}
use Rattle.hq_sql_tree.specs.declared.select.Select.{Select, fold-Select}
use Rattle.hq_sql_tree.specs.declared.select.Join.{Join, fold-Join}
use Rattle.hq_sql_tree.specs.Tree as tree
use Rattle.hq_sql_tree.specs.Tree.{ExprTree, PairTree, AggTree, OrderTree, OutTree, SelectTree, FromTree, JoinTree, FilterTree, PredTree, pairs_of, orders_of, joins_of, preds_of}

-- ---- expressions: one level, whose parts are seen already

abbrev pub agg_step : Agg-F AggTree ExprTree PairTree OrderTree → AggTree
agg_step Agg-F.CountAll = tree.count_all
agg_step (Agg-F.Count e distinct) = tree.count e.value distinct
agg_step (Agg-F.Take a e) = tree.take a e.value
agg_step (Agg-F.JsonAgg e os) = tree.json_agg e.value (orders_of os.items)

abbrev pub expr_step : Expr-F AggTree ExprTree PairTree OrderTree → ExprTree
expr_step (Expr-F.Column alias name form) = tree.column alias name form
expr_step (Expr-F.Int n) = tree.int n
expr_step (Expr-F.Text t) = tree.text t
expr_step (Expr-F.Uuid t) = tree.uuid t
expr_step (Expr-F.Bool b) = tree.bool b
expr_step (Expr-F.Object ps) = tree.object (pairs_of ps.items)
expr_step (Expr-F.Agg a) = tree.aggregate a

abbrev pub pair_step : ExprPair-F AggTree ExprTree PairTree OrderTree → PairTree
pair_step p = record { name = p.name; value = p.value }

abbrev pub order_step : Order-F AggTree ExprTree PairTree OrderTree → OrderTree
order_step o = record { value = o.value; desc = o.desc; nulls_first = o.nulls_first }

abbrev pub agg_view : Agg → AggTree
agg_view = fold-Agg AggTree ExprTree PairTree OrderTree agg_step expr_step pair_step order_step

abbrev pub expr_view : Expr → ExprTree
expr_view = fold-Expr AggTree ExprTree PairTree OrderTree agg_step expr_step pair_step order_step

abbrev pub pair_view : ExprPair → PairTree
pair_view = fold-ExprPair AggTree ExprTree PairTree OrderTree agg_step expr_step pair_step order_step

abbrev pub order_view : Order → OrderTree
order_view = fold-Order AggTree ExprTree PairTree OrderTree agg_step expr_step pair_step order_step

abbrev pub out_view : Out → OutTree
out_view o = record { value = expr_view o.value; name = o.name }

-- ---- selects and conditions

abbrev pub filter_of : Option PredTree → FilterTree
filter_of None = tree.no_filter
filter_of (Some p) = tree.filter p

abbrev pub from_step : From-F FromTree PredTree SelectTree JoinTree → FromTree
from_step (From-F.Table schema name alias) = tree.table schema name alias
from_step (From-F.Sub s alias) = tree.sub s.value alias
from_step (From-F.One alias) = tree.one alias

abbrev pub pred_step : Pred-F FromTree PredTree SelectTree JoinTree → PredTree
pred_step Pred-F.True = tree.always
pred_step Pred-F.False = tree.never
pred_step (Pred-F.Test e t es) = tree.test (expr_view e) t (map expr_view es.items)
pred_step (Pred-F.Not p) = tree.negation p.value
pred_step (Pred-F.And ps) = tree.all_of (preds_of ps.items)
pred_step (Pred-F.Or ps) = tree.any_of (preds_of ps.items)
pred_step (Pred-F.Exists s) = tree.exists s.value

abbrev pub select_step : Select-F FromTree PredTree SelectTree JoinTree → SelectTree
select_step (Select-F.Rows distinct outs from joins filter order limit offset) =
    tree.rows (map expr_view distinct.items) (map out_view outs.items) from (joins_of joins.items) (filter_of filter) (map order_view order.items) limit offset
select_step (Select-F.Fold out rows alias) = tree.fold (out_view out) rows.value alias

abbrev pub join_step : Join-F FromTree PredTree SelectTree JoinTree → JoinTree
join_step j = record { select = j.select.value; alias = j.alias }

abbrev pub from_view : From → FromTree
from_view = fold-From FromTree PredTree SelectTree JoinTree from_step pred_step select_step join_step

abbrev pub pred_view : Pred → PredTree
pred_view = fold-Pred FromTree PredTree SelectTree JoinTree from_step pred_step select_step join_step

abbrev pub select_view : Select → SelectTree
select_view = fold-Select FromTree PredTree SelectTree JoinTree from_step pred_step select_step join_step

abbrev pub join_view : Join → JoinTree
join_view = fold-Join FromTree PredTree SelectTree JoinTree from_step pred_step select_step join_step

abbrev pub filter_view : Option Pred → FilterTree
filter_view None = tree.no_filter
filter_view (Some p) = tree.filter (pred_view p)
