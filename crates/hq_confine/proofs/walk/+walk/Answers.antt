use Rattle.std.proofs.Common.{◌≡◌, ◌∙◌, ◌+◌, ◌<◌, List, [], ◌∷◌, ◌++◌, Bool, true, cond, drop, length, map, refl, sym, ap, ap₂, arith}
use Rattle.hq_sql_tree.specs.Tree.{SelectTree, JoinTree, PredTree, joins_of, preds_of}
use Rattle.hq_sql_tree.specs.View.{expr_view, filter_view, from_view, join_view, order_view, out_view, pred_view, select_view}
use Rattle.hq_sql_tree.specs.declared.select.Pred.{Pred}
use Rattle.hq_sql_tree.proofs.Next.{next_join, next_pred}
use Rattle.hq_sql_tree.proofs.Views.{view_rows, view_fold, view_join}
use Rattle.hq_confine_rules.specs.Faults.{worse, worst, is_exempt, outputs_of, from_shapes, joined_shapes}
use Rattle.hq_confine_rules.specs.Faults.{select_faults, joins_faults, where_faults, conjunct_faults, conjuncts_faults, pred_faults, preds_faults}
use Rattle.hq_confine_rules.specs.Members.{is_mask_join}
use Rattle.hq_confine_rules.specs.Origins.{Shapes}
use Rattle.hq_confine_uses.specs.declared.scope.Alias.{Alias}
use Rattle.hq_confine.specs.Parts.{scanned_faults}
use Rattle.hq_confine_members.specs.Views.{preds_view}
use Rattle.hq_confine_uses.specs.Views.{alias_view, faulted, output_view, shapes_view, stacked, rules_schema, rules_grants}
use Rattle.hq_confine.proofs.Joins.{more_shapes, more_faults}
use Rattle.hq_confine.proofs.Parts.{rows_fault, fold_fault}
use Rattle.hq_confine_uses.proofs.Worst.{worse_more, worse_end}
use Rattle.hq_confine.proofs.walk.+walk.Goals as goal

pub walk_preds-loop-pred-preserved : goal.walk_preds-loop-pred-preserved
walk_preds-loop-pred-preserved t c =
    let s = rules_schema c.args.rules.now in
    let g = rules_grants c.args.rules.now in
    let x = shapes_view c.args.scope.now in
    let items = c.deref-pred-items.result.now in
    let i = c.loop-pred.pred-index in
    let item = c.pred-item.result in
    let within : i < length items = omega arith in
    let before = faulted c.loop-pred.found in
    let F = λ (list : List Pred). preds_faults s g x (preds_of (map pred_view list)) in
    worse_more before (faulted c.worse-found.result) (pred_faults s g x (pred_view item)) (F (drop (i + 1) items)) (F (drop i items)) (worst (F items))
    (ap (preds_faults s g x) (next_pred items i item within c.pred-item.is)) (c.worse-found.ensures ∙ ap (worse before) c.in_ok-fault.ensures) c.loop-pred.invariant

pub walk_preds-returns : goal.walk_preds-returns
walk_preds-returns t c =
    let s = rules_schema c.args.rules.now in
    let g = rules_grants c.args.rules.now in
    let x = shapes_view c.args.scope.now in
    let items = c.deref-pred-items.result.now in
    let F = λ (list : List Pred). preds_faults s g x (preds_of (map pred_view list)) in
    worse_end F items c.loop-pred.pred-index (faulted c.loop-pred.found) (worst (F items)) refl c.loop-pred-test.false c.loop-pred.invariant
    ∙ ap (λ list. worst (F list)) c.deref-pred-items.ensures.value

pub walk_conjuncts-loop-pred-preserved : goal.walk_conjuncts-loop-pred-preserved
walk_conjuncts-loop-pred-preserved t c =
    let s = rules_schema c.args.rules.now in
    let g = rules_grants c.args.rules.now in
    let x = shapes_view c.args.scope.now in
    let exempt = is_exempt s g x (preds_view c.args.all.now) (from_view c.args.from.now) in
    let items = c.deref-pred-items.result.now in
    let i = c.loop-pred.pred-index in
    let item = c.pred-item.result in
    let within : i < length items = omega arith in
    let before = faulted c.loop-pred.found in
    let F = λ (list : List Pred). conjuncts_faults s g x exempt (preds_of (map pred_view list)) in
    worse_more before (faulted c.worse-found.result) (conjunct_faults s g x exempt (pred_view item)) (F (drop (i + 1) items)) (F (drop i items)) (worst (F items))
    (ap (conjuncts_faults s g x exempt) (next_pred items i item within c.pred-item.is)) (c.worse-found.ensures ∙ ap (worse before) c.in_ok-fault.ensures) c.loop-pred.invariant

pub walk_conjuncts-returns : goal.walk_conjuncts-returns
walk_conjuncts-returns t c =
    let s = rules_schema c.args.rules.now in
    let g = rules_grants c.args.rules.now in
    let x = shapes_view c.args.scope.now in
    let exempt = is_exempt s g x (preds_view c.args.all.now) (from_view c.args.from.now) in
    let items = c.deref-pred-items.result.now in
    let F = λ (list : List Pred). conjuncts_faults s g x exempt (preds_of (map pred_view list)) in
    worse_end F items c.loop-pred.pred-index (faulted c.loop-pred.found) (worst (F items)) refl c.loop-pred-test.false c.loop-pred.invariant
    ∙ ap (λ list. worst (F list)) c.deref-pred-items.ensures.value

-- a join more in scope, and its fault
pub walk_joins-loop-join-preserved : goal.walk_joins-loop-join-preserved
walk_joins-loop-join-preserved t c =
    let s = rules_schema c.args.rules.now in
    let g = rules_grants c.args.rules.now in
    let outer = shapes_view c.args.scope.now in
    let items = c.deref-join-items.result.now in
    let i = c.loop-join.join-index in
    let j = c.join-item.result in
    let within : i < length items = omega arith in
    let next = next_join items i j within c.join-item.is in
    let q : SelectTree = select_view j.select.value in
    let rest = joins_of (map join_view (drop (i + 1) items)) in
    let aliases = map alias_view c.loop-join.aliases.items in
    let after = map alias_view c.push_outputs.new.aliases.items in
    let here : Shapes = stacked aliases outer in
    let os = map output_view c.in_ok-walked.walked.outputs.items in
    let scope_is = ap (λ (l : List Alias). stacked (map alias_view l) outer) c.deref.ensures.value in
    let select_is = ap (λ (seen : JoinTree). seen.select) (view_join j) in
    let are : os ≡ cond (is_mask_join s g here q) [] (outputs_of s g here q) =
    c.in_ok-walked.ensures.outputs ∙ ap₂ (λ (x : Shapes) (k : SelectTree). cond (is_mask_join s g x k) [] (outputs_of s g x k)) scope_is select_is in
    let own : faulted c.in_ok-walked.walked.fault ≡ worst (cond (is_mask_join s g here q) [] (select_faults s g here true q)) =
    c.in_ok-walked.ensures.fault ∙ ap₂ (λ (x : Shapes) (k : SelectTree). worst (cond (is_mask_join s g x k) [] (select_faults s g x true k))) scope_is select_is in
    record {
      fault = more_faults s g aliases after outer j.alias os q rest c.in_ok-push_outputs.ensures are (faulted c.loop-join.found) (faulted c.worse-found.result)
          (faulted c.in_ok-walked.walked.fault) _ own c.worse-found.ensures
          (ap (λ js. worse (faulted c.loop-join.found) (worst (joins_faults s g here js))) (sym next) ∙ c.loop-join.invariant.fault);
      shapes = more_shapes s g aliases after outer j.alias os q rest c.in_ok-push_outputs.ensures are ∙ ap (joined_shapes s g here) (sym next) ∙ c.loop-join.invariant.shapes;
    }

-- the parts of rows
pub walk_select-returns-in_ok-outputs-in-Rows-clause-fault : goal.walk_select-returns-in_ok-outputs-in-Rows-clause-fault
walk_select-returns-in_ok-outputs-in-Rows-clause-fault t c =
    let s = rules_schema c.args.rules.now in
    let g = rules_grants c.args.rules.now in
    let r = c.in-Rows in
    let seen = ap select_view r.is ∙ view_rows r.distinct r.outs r.from r.joins r.filter r.order r.limit r.offset in
    let outer : Shapes = shapes_view c.args.scope.now in
    let from = from_view r.from in
    let joins = joins_of (map join_view r.joins.items) in
    let condition = filter_view r.filter in
    let keys = map order_view r.order.items in
    let inside : Shapes = stacked (map alias_view c.deref.result.now) outer in
    let all = preds_view c.in_ok-all-in-Rows.all.items in
    let first_is : stacked (map alias_view c.push.new.self.items) outer ≡ from_shapes s g outer from =
    ap (λ (l : List Alias). stacked (map alias_view l) outer)
    (c.in_ok-push-in-Rows.ensures.items ∙ ap (λ (l : List Alias). l ++ c.in_ok-begun-in-Rows.begun.alias ∷ []) c.new-aliases.ensures.items) ∙ c.in_ok-begun-in-Rows.ensures.shapes in
    let inside_is : inside ≡ joined_shapes s g (from_shapes s g outer from) joins =
    ap (λ (l : List Alias). stacked (map alias_view l) outer) c.deref.ensures.value ∙ c.in_ok-joined-in-Rows.ensures.shapes ∙ ap (λ (x : Shapes). joined_shapes s g x joins) first_is in
    let scanned = c.in_ok-scanned-in-Rows.ensures ∙ ap₂ (λ (l : List PredTree) (u : Bool). worst (scanned_faults s g inside l keys u from))
    (ap preds_view c.deref-in-Rows.ensures.value) c.is_unordered-unordered.ensures in
    let joined = c.in_ok-joined-in-Rows.ensures.fault ∙ ap (λ (x : Shapes). worst (joins_faults s g x joins)) first_is in
    let kept = c.in_ok-kept-in-Rows.ensures ∙ ap (λ (l : List PredTree). worst (where_faults s g inside (is_exempt s g inside l from) condition)) (ap preds_view c.deref-in-Rows-2.ensures.value) in
    c.worst_of.ensures
    ∙ rows_fault s g outer inside c.args.counts (map expr_view r.distinct.items) (map out_view r.outs.items) from joins condition keys r.limit r.offset all
    (faulted c.front_fault-front.result) (faulted c.in_ok-begun-in-Rows.begun.fault) (faulted c.in_ok-scanned-in-Rows.scanned) (faulted c.in_ok-joined-in-Rows.joined)
    (faulted c.in_ok-kept-in-Rows.kept) (faulted c.orders_fault-sorted.result)
    inside_is c.in_ok-all-in-Rows.ensures c.front_fault-front.ensures c.in_ok-begun-in-Rows.ensures.fault scanned joined kept c.orders_fault-sorted.ensures
    ∙ ap (λ (q : SelectTree). worst (select_faults s g outer c.args.counts q)) (sym seen)

-- the parts of a fold
pub walk_select-returns-in_ok-inner-in-Fold-clause-fault : goal.walk_select-returns-in_ok-inner-in-Fold-clause-fault
walk_select-returns-in_ok-inner-in-Fold-clause-fault t c =
    let s = rules_schema c.args.rules.now in
    let g = rules_grants c.args.rules.now in
    let r = c.in-Fold in
    let seen = ap select_view r.is ∙ view_fold r.out r.rows r.alias in
    let outer : Shapes = shapes_view c.args.scope.now in
    let inner : SelectTree = select_view r.rows.value in
    let walked = c.in_ok-inner-in-Fold in
    let inner_is : select_view c.deref-in-Fold.result.now ≡ inner = ap select_view c.deref-in-Fold.ensures in
    let os_is = walked.ensures.outputs ∙ ap (λ (q : SelectTree). outputs_of s g outer q) inner_is in
    let fault_is = walked.ensures.fault ∙ ap (λ (q : SelectTree). worst (select_faults s g outer c.shows_order.result q)) inner_is in
    fold_fault s g outer c.args.counts (out_view r.out) inner r.alias (map output_view walked.inner.outputs.items) c.shows_order.result (faulted c.folded.result.fault)
    (faulted walked.inner.fault) os_is c.shows_order.ensures c.folded.ensures.fault fault_is
    ∙ ap (λ (q : SelectTree). worst (select_faults s g outer c.args.counts q)) (sym seen)
