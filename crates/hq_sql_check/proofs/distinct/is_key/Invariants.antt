use Rattle.std.proofs.Common.{◌≡◌, drop, map}
use Rattle.hq_sql_tree.specs.View.{expr_view, order_view}
use Rattle.hq_sql_tree.specs.WellFormed.{is_among}
use Rattle.hq_sql_check.specs.Fronts.{key_values}
use Rattle.hq_sql_check.proofs.distinct.is_key.Given as goal

-- those that are left tell what all do
abbrev pub invariant-loop-key : goal.invariant-loop-key
invariant-loop-key l = is_among (key_values (map order_view (drop l.key-index l.keys))) (expr_view l.value) ≡ is_among (key_values (map order_view l.keys)) (expr_view l.value)
