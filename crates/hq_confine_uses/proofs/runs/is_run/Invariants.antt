use Rattle.std.proofs.Common.{◌≡◌, ℕ, ◌≤◌, List, drop, length, map}
use Rattle.hq_sql_tree.specs.Tree.{orders_of}
use Rattle.hq_sql_tree.specs.View.{order_view}
use Rattle.hq_sql_tree.specs.declared.expr.Order.{Order}
use Rattle.hq_confine_rules.specs.Uses.{is_run}
use Rattle.hq_confine_uses.specs.Views.{path_view, shapes_view, rules_schema}
use Rattle.hq_confine_uses.proofs.runs.is_run.Given as goal

-- the columns and sort keys that are left tell what all do
abbrev pub invariant-loop-at : goal.invariant-loop-at
invariant-loop-at l =
    let run = λ (cs : List ℕ) (os : List Order). is_run (rules_schema l.rules) (shapes_view l.scope) l.t (path_view l.path) cs (orders_of (map order_view os)) in
    record {
      enough : length l.columns ≤ length l.orders;
      left : run (drop l.at l.columns) (drop l.at l.orders) ≡ run l.columns l.orders;
    }
