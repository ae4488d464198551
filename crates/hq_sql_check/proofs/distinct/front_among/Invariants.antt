use Rattle.std.proofs.Common.{◌≡◌, ◌+◌, drop, map}
use Rattle.hq_sql_tree.specs.View.{expr_view, order_view}
use Rattle.hq_sql_check.specs.Fronts.{front_among}
use Rattle.hq_sql_check.proofs.distinct.front_among.Given as goal

-- all keys so far are among the expressions
abbrev pub invariant-loop-key : goal.invariant-loop-key
invariant-loop-key l =
    record {
      count : l.front ≡ l.key-index;
      front : l.front + front_among (map expr_view l.exprs) (map order_view (drop l.key-index l.keys))
          ≡ front_among (map expr_view l.exprs) (map order_view l.keys);
    }
