use Rattle.std.proofs.Common.{◌≡◌, ◌∙◌, refl, sym, ap, List, ◌+◌, ◌<◌, ◌++◌, ◌∷◌, [], map, drop, length, true, arith, rules}
use Rattle.hq_sql_tree.specs.declared.select.Join.{Join}
use Rattle.hq_sql_tree.specs.declared.select.Pred.{Pred}
use Rattle.hq_sql_tree.specs.Tree.{joins_of, preds_of}
use Rattle.hq_sql_tree.specs.View.{select_view, join_view, pred_view}
use Rattle.hq_sql_tree.specs.WellFormed.{select_names, is_typed, are_typed_joins, joined_scope, is_typed_pred, are_typed_preds}
use Rattle.hq_sql_check.specs.Scopes.{name_view, alias_view, stacked, scope_view}
use Rattle.hq_sql_check.proofs.JoinSteps.{joins_typed, joins_scope}
use Rattle.hq_sql_tree.proofs.Next.{next_join, next_pred, passes, fails, at_end}
use Rattle.hq_sql_check.proofs.typed.+typed.Goals as goal

pub push_joins-loop-join-preserved : goal.push_joins-loop-join-preserved
push_joins-loop-join-preserved t c =
    let items = c.deref-join-items.result.now in
    let i = c.loop-join.join-index in
    let item = c.join-item.result in
    let within : i < length items = omega arith in
    let next = next_join items i item within c.join-item.is in
    let s = select_view item.select.value in
    let tables = c.args.tables.now in
    let before = map alias_view c.loop-join.aliases.items in
    let outer = scope_view c.args.scope.now in
    let names = map name_view c.in-Some.names.items in
    let rest = joins_of (map join_view (drop (i + 1) items)) in
    let pushed : map alias_view c.push_alias.new.aliases.items ≡ before ++ (item.alias, names) ∷ [] = c.in_ok-push_alias.ensures in
    let typed : is_typed s tables (stacked before outer) ≡ true = search rules in
    let are : names ≡ select_names s tables (stacked before outer) = search rules in
    record {
      well =
          ap (λ stack. are_typed_joins rest tables (stacked stack outer)) pushed
          ∙
          (joins_typed before outer item.alias names s rest tables are typed
          ∙ (ap (λ js. are_typed_joins js tables (stacked before outer)) (sym next) ∙ c.loop-join.invariant.well));
      names =
          ap (λ stack. joined_scope rest tables (stacked stack outer)) pushed
          ∙
          (joins_scope before outer item.alias names s rest tables are
          ∙ (ap (λ js. joined_scope js tables (stacked before outer)) (sym next) ∙ c.loop-join.invariant.names));
    }

pub are_typed_preds-returns-then-not-branch : goal.are_typed_preds-returns-then-not-branch
are_typed_preds-returns-then-not-branch t c =
    let items = c.deref-pred-items.result.now in
    let i = c.loop-pred.pred-index in
    let within : i < length items = omega arith in
    let tables = c.args.tables.now in
    let scope = scope_view c.args.scope.now in
    let whole = λ (list : List Pred). are_typed_preds (preds_of (map pred_view list)) tables scope in
    fails (is_typed_pred (pred_view c.pred-item.result) tables scope) (whole (drop (i + 1) items)) (whole (drop i items)) (whole items)
    (ap (λ ps. are_typed_preds ps tables scope) (next_pred items i c.pred-item.result within c.pred-item.is)) c.loop-pred.invariant
    (sym c.in_ok-is_typed_pred.ensures ∙ c.if-not-branch.true)
    ∙ ap whole c.deref-pred-items.ensures.value

pub are_typed_preds-loop-pred-preserved : goal.are_typed_preds-loop-pred-preserved
are_typed_preds-loop-pred-preserved t c =
    let items = c.deref-pred-items.result.now in
    let i = c.loop-pred.pred-index in
    let within : i < length items = omega arith in
    let tables = c.args.tables.now in
    let scope = scope_view c.args.scope.now in
    let whole = λ (list : List Pred). are_typed_preds (preds_of (map pred_view list)) tables scope in
    passes (is_typed_pred (pred_view c.pred-item.result) tables scope) (whole (drop (i + 1) items)) (whole (drop i items)) (whole items)
    (ap (λ ps. are_typed_preds ps tables scope) (next_pred items i c.pred-item.result within c.pred-item.is)) c.loop-pred.invariant
    (sym c.in_ok-is_typed_pred.ensures ∙ c.if-not-branch.false)

pub are_typed_preds-returns : goal.are_typed_preds-returns
are_typed_preds-returns t c =
    let whole = λ (list : List Pred). are_typed_preds (preds_of (map pred_view list)) c.args.tables.now (scope_view c.args.scope.now) in
    at_end whole c.deref-pred-items.result.now c.loop-pred.pred-index true _ refl c.loop-pred-test.false c.loop-pred.invariant ∙ ap whole c.deref-pred-items.ensures.value

pub push_joins-returns-clause-well : goal.push_joins-returns-clause-well
push_joins-returns-clause-well t c =
    let outer = scope_view c.args.scope.now in
    let found = stacked (map alias_view c.loop-join.aliases.items) outer in
    let begun = stacked (map alias_view c.args.aliases.now.items) outer in
    let left = λ (list : List Join). are_typed_joins (joins_of (map join_view list)) c.args.tables.now found in
    let whole = λ (list : List Join). are_typed_joins (joins_of (map join_view list)) c.args.tables.now begun in
    at_end left c.deref-join-items.result.now c.loop-join.join-index true _ refl c.loop-join-test.false c.loop-join.invariant.well ∙ ap whole c.deref-join-items.ensures.value

pub push_joins-returns-clause-aliases : goal.push_joins-returns-clause-aliases
push_joins-returns-clause-aliases t c = λ _.
    let outer = scope_view c.args.scope.now in
    let found = stacked (map alias_view c.loop-join.aliases.items) outer in
    let begun = stacked (map alias_view c.args.aliases.now.items) outer in
    let left = λ (list : List Join). joined_scope (joins_of (map join_view list)) c.args.tables.now found in
    let whole = λ (list : List Join). joined_scope (joins_of (map join_view list)) c.args.tables.now begun in
    at_end left c.deref-join-items.result.now c.loop-join.join-index found _ refl c.loop-join-test.false c.loop-join.invariant.names ∙ ap whole c.deref-join-items.ensures.value
