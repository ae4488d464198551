use Rattle.std.proofs.Common.{◌≡◌, List, drop, map}
use Rattle.hq_sql_tree.specs.Tree.{joins_of, preds_of}
use Rattle.hq_sql_tree.specs.View.{from_view, join_view, pred_view}
use Rattle.hq_sql_tree.specs.declared.select.Pred.{Pred}
use Rattle.hq_confine_rules.specs.Faults.{worse, worst, is_exempt, joined_shapes, joins_faults, conjuncts_faults, preds_faults}
use Rattle.hq_confine_members.specs.Views.{preds_view}
use Rattle.hq_confine_uses.specs.Views.{alias_view, faulted, shapes_view, stacked, rules_schema, rules_grants}
use Rattle.hq_confine.proofs.walk.+walk.Given as goal

-- beside the aliases so far: the fault so far, and that of the joins that are left; and what all joins put into scope
abbrev pub invariant-walk_joins-loop-join : goal.invariant-walk_joins-loop-join
invariant-walk_joins-loop-join l =
    let s = rules_schema l.rules in
    let g = rules_grants l.rules in
    let here = stacked (map alias_view l.aliases.items) (shapes_view l.scope) in
    let begun = stacked (map alias_view l.initial.aliases.items) (shapes_view l.scope) in
    let left = joins_of (map join_view (drop l.join-index l.join-items)) in
    let all = joins_of (map join_view l.join-items) in
    record {
      fault : worse (faulted l.found) (worst (joins_faults s g here left)) ≡ worst (joins_faults s g begun all);
      shapes : joined_shapes s g here left ≡ joined_shapes s g begun all;
    }

-- the fault so far, and that of the conjuncts that are left
abbrev pub invariant-walk_conjuncts-loop-pred : goal.invariant-walk_conjuncts-loop-pred
invariant-walk_conjuncts-loop-pred l =
    let s = rules_schema l.rules in
    let g = rules_grants l.rules in
    let x = shapes_view l.scope in
    let whole = λ (list : List Pred). worst (conjuncts_faults s g x (is_exempt s g x (preds_view l.all) (from_view l.from)) (preds_of (map pred_view list))) in
    worse (faulted l.found) (whole (drop l.pred-index l.pred-items)) ≡ whole l.pred-items

-- the fault so far, and that of the conditions that are left
abbrev pub invariant-walk_preds-loop-pred : goal.invariant-walk_preds-loop-pred
invariant-walk_preds-loop-pred l =
    let whole = λ (list : List Pred). worst (preds_faults (rules_schema l.rules) (rules_grants l.rules) (shapes_view l.scope) (preds_of (map pred_view list))) in
    worse (faulted l.found) (whole (drop l.pred-index l.pred-items)) ≡ whole l.pred-items
