use Rattle.std.proofs.Common.{◌≡◌, ℕ, List, drop, map}
use Rattle.hq_sql_tree.specs.Tree.{orders_of, pairs_of}
use Rattle.hq_sql_tree.specs.View.{order_view, pair_view}
use Rattle.hq_sql_tree.specs.declared.expr.ExprPair.{ExprPair}
use Rattle.hq_sql_tree.specs.declared.expr.Order.{Order}
use Rattle.hq_confine_rules.specs.Faults.{worse, worst}
use Rattle.hq_confine_rules.specs.Uses.{orders_faults, pairs_faults}
use Rattle.hq_confine_uses.specs.Views.{faulted, shapes_view, rules_schema, rules_grants}
use Rattle.hq_confine_uses.proofs.uses.+uses.Given as goal

-- the fault so far, and that of the pairs that are left
abbrev pub invariant-pairs_fault-loop-pair : goal.invariant-pairs_fault-loop-pair
invariant-pairs_fault-loop-pair l =
    let whole = λ (list : List ExprPair). worst (pairs_faults (rules_schema l.rules) (rules_grants l.rules) (shapes_view l.scope) (pairs_of (map pair_view list))) in
    worse (faulted l.found) (whole (drop l.pair-index l.pair-items)) ≡ whole l.pair-items

-- the fault so far, and that of the sort keys that are left, the first of which may belong to a run
abbrev pub invariant-orders_fault-loop-at : goal.invariant-orders_fault-loop-at
invariant-orders_fault-loop-at l =
    let whole = λ (left : ℕ) (list : List Order). worst (orders_faults (rules_schema l.rules) (rules_grants l.rules) (shapes_view l.scope) left (orders_of (map order_view list))) in
    worse (faulted l.found) (whole l.left (drop l.at l.orders.items)) ≡ whole 0 l.orders.items
