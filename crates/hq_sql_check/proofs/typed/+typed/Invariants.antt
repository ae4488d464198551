use Rattle.std.proofs.Common.{◌≡◌, drop, map}
use Rattle.hq_sql_tree.specs.Tree.{joins_of, preds_of}
use Rattle.hq_sql_tree.specs.View.{join_view, pred_view}
use Rattle.hq_sql_tree.specs.WellFormed.{are_typed_joins, joined_scope, are_typed_preds}
use Rattle.hq_sql_check.specs.Scopes.{alias_view, stacked, scope_view}
use Rattle.hq_sql_check.proofs.typed.+typed.Given as goal

-- the joins that are left tell, beside the aliases so far, what all do
abbrev pub invariant-push_joins-loop-join : goal.invariant-push_joins-loop-join
invariant-push_joins-loop-join l =
    record {
      well : are_typed_joins (joins_of (map join_view (drop l.join-index l.join-items))) l.tables
          (stacked (map alias_view l.aliases.items) (scope_view l.scope))
          ≡ are_typed_joins (joins_of (map join_view l.join-items)) l.tables
          (stacked (map alias_view l.initial.aliases.items) (scope_view l.scope));
      names : joined_scope (joins_of (map join_view (drop l.join-index l.join-items))) l.tables
          (stacked (map alias_view l.aliases.items) (scope_view l.scope))
          ≡ joined_scope (joins_of (map join_view l.join-items)) l.tables
          (stacked (map alias_view l.initial.aliases.items) (scope_view l.scope));
    }

-- those that are left tell what all do
abbrev pub invariant-are_typed_preds-loop-pred : goal.invariant-are_typed_preds-loop-pred
invariant-are_typed_preds-loop-pred l =
    are_typed_preds (preds_of (map pred_view (drop l.pred-index l.pred-items))) l.tables (scope_view l.scope)
    ≡ are_typed_preds (preds_of (map pred_view l.pred-items)) l.tables (scope_view l.scope)
