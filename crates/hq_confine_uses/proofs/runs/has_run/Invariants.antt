use Rattle.std.proofs.Common.{◌≡◌, List, drop, map}
use Rattle.hq_sql_tree.specs.Tree.{orders_of}
use Rattle.hq_sql_tree.specs.View.{order_view}
use Rattle.hq_sql_tree.specs.declared.expr.Order.{Order}
use Rattle.hq_confine_rules.specs.Uses.{has_run}
use Rattle.hq_confine_uses.specs.Views.{shapes_view, rules_schema}
use Rattle.hq_confine_uses.proofs.runs.has_run.Given as goal

-- the sort keys that are left tell what all do
abbrev pub invariant-loop-at : goal.invariant-loop-at
invariant-loop-at l =
    let has = λ (os : List Order). has_run (rules_schema l.rules) (shapes_view l.scope) l.t l.alias (orders_of (map order_view os)) in
    has (drop l.at l.orders) ≡ has l.orders
