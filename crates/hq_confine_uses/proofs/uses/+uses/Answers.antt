use Rattle.std.proofs.Common.{◌≡◌, ◌∙◌, ◌+◌, ◌<◌, ◌≤◌, List, drop, get_or, length, map, refl, sym, ap, ap₂, arith}
use Rattle.std.proofs.lemmas.List.{take_rest}
use Rattle.hq_sql_tree.specs.Tree.{orders_of, pairs_of}
use Rattle.hq_sql_tree.specs.View.{agg_view, expr_view, order_view, pair_view}
use Rattle.hq_sql_tree.specs.declared.expr.ExprPair.{ExprPair}
use Rattle.hq_sql_tree.proofs.Next.{next_pair}
use Rattle.hq_sql_tree.proofs.Views.{view_json_agg}
use Rattle.hq_confine_rules.specs.Faults.{worse, worst}
use Rattle.hq_confine_rules.specs.Origins.{origin}
use Rattle.hq_confine_rules.specs.Uses.{agg_faults, expr_faults, orders_faults, pairs_faults, run_from}
use Rattle.hq_confine_uses.specs.Views.{faulted, shapes_view, rules_schema, rules_grants}
use Rattle.hq_confine_uses.proofs.Sorts.{keys_faults, in_run, run_begins, no_run}
use Rattle.hq_confine_uses.proofs.Worst.{worse_more, worse_end, worst_of_two}
use Rattle.hq_confine_uses.proofs.uses.+uses.Goals as goal

pub pairs_fault-loop-pair-preserved : goal.pairs_fault-loop-pair-preserved
pairs_fault-loop-pair-preserved t c =
    let s = rules_schema c.args.rules.now in
    let g = rules_grants c.args.rules.now in
    let x = shapes_view c.args.scope.now in
    let items = c.deref-pair-items.result.now in
    let i = c.loop-pair.pair-index in
    let item = c.pair-item.result in
    let within : i < length items = omega arith in
    let before = faulted c.loop-pair.found in
    let F = λ (list : List ExprPair). pairs_faults s g x (pairs_of (map pair_view list)) in
    worse_more before (faulted c.worse-found.result) (expr_faults s g x (expr_view item.value)) (F (drop (i + 1) items)) (F (drop i items)) (worst (F items))
    (ap (pairs_faults s g x) (next_pair items i item within c.pair-item.is)) (c.worse-found.ensures ∙ ap (worse before) c.expr_fault.ensures) c.loop-pair.invariant

pub pairs_fault-returns : goal.pairs_fault-returns
pairs_fault-returns t c =
    let s = rules_schema c.args.rules.now in
    let g = rules_grants c.args.rules.now in
    let x = shapes_view c.args.scope.now in
    let items = c.deref-pair-items.result.now in
    let F = λ (list : List ExprPair). pairs_faults s g x (pairs_of (map pair_view list)) in
    worse_end F items c.loop-pair.pair-index (faulted c.loop-pair.found) (worst (F items)) refl c.loop-pair-test.false c.loop-pair.invariant
    ∙ ap (λ list. worst (F list)) c.deref-pair-items.ensures.value

pub agg_fault-returns-in-JsonAgg : goal.agg_fault-returns-in-JsonAgg
agg_fault-returns-in-JsonAgg t c =
    let s = rules_schema c.args.rules.now in
    let g = rules_grants c.args.rules.now in
    let x = shapes_view c.args.scope.now in
    let a = c.in-JsonAgg in
    let seen = ap agg_view a.is ∙ view_json_agg a.value a.order in
    let first = c.expr_fault-in-JsonAgg.ensures ∙ ap (λ e. worst (expr_faults s g x (expr_view e))) c.deref-in-JsonAgg.ensures in
    c.worse.ensures
    ∙ worst_of_two (faulted c.expr_fault-in-JsonAgg.result) (faulted c.orders_fault.result) (expr_faults s g x (expr_view a.value.value))
    (orders_faults s g x 0 (orders_of (map order_view a.order.items))) first c.orders_fault.ensures
    ∙ ap (λ seen_as. worst (agg_faults s g x seen_as)) (sym seen)

-- a sort key of a run that has begun
pub orders_fault-loop-at-preserved-then-left-gt0 : goal.orders_fault-loop-at-preserved-then-left-gt0
orders_fault-loop-at-preserved-then-left-gt0 t c =
    let s = rules_schema c.args.rules.now in
    let g = rules_grants c.args.rules.now in
    let x = shapes_view c.args.scope.now in
    let items = c.args.orders.now.items in
    let i = c.loop-at.at in
    let item = c.order-item.result in
    let lent = c.deref-order-items.ensures.value in
    let within : i < length items = omega (arith, ap length lent) in
    let is : item ≡ get_or items i item = c.order-item.is ∙ ap (λ l. get_or l i item) lent in
    ap (λ l. worse (faulted c.loop-at.found) (worst l)) (sym (in_run s g x items i c.loop-at.left item within is c.if-left-gt0.true)) ∙ c.loop-at.invariant

-- one with which a run begins
pub orders_fault-loop-at-preserved-then-run-gt0 : goal.orders_fault-loop-at-preserved-then-run-gt0
orders_fault-loop-at-preserved-then-run-gt0 t c =
    let s = rules_schema c.args.rules.now in
    let g = rules_grants c.args.rules.now in
    let x = shapes_view c.args.scope.now in
    let items = c.args.orders.now.items in
    let i = c.loop-at.at in
    let item = c.order-item.result in
    let lent = c.deref-order-items.ensures.value in
    let within : i < length items = omega (arith, ap length lent) in
    let is : item ≡ get_or items i item = c.order-item.is ∙ ap (λ l. get_or l i item) lent in
    let run : c.run_from-run.result ≡ run_from s x (origin s x (expr_view item.value)) (orders_of (map order_view (drop i items))) =
    c.run_from-run.ensures ∙ ap₂ (λ o l. run_from s x o (orders_of (map order_view l))) c.origin.ensures (take_rest c.deref.result.now i ∙ ap (drop i) c.deref.ensures.value) in
    let none : 0 ≡ c.loop-at.left = omega arith in
    ap (λ l. worse (faulted c.loop-at.found) (worst l))
    (sym (run_begins s g x items i c.run_from-run.result item within is run c.if-run-gt0.true) ∙ ap (λ n. keys_faults s g x n (drop i items)) none) ∙ c.loop-at.invariant

-- one alone
pub orders_fault-loop-at-preserved : goal.orders_fault-loop-at-preserved
orders_fault-loop-at-preserved t c =
    let s = rules_schema c.args.rules.now in
    let g = rules_grants c.args.rules.now in
    let x = shapes_view c.args.scope.now in
    let items = c.args.orders.now.items in
    let i = c.loop-at.at in
    let item = c.order-item.result in
    let lent = c.deref-order-items.ensures.value in
    let within : i < length items = omega (arith, ap length lent) in
    let is : item ≡ get_or items i item = c.order-item.is ∙ ap (λ l. get_or l i item) lent in
    let run : c.run_from-run.result ≡ run_from s x (origin s x (expr_view item.value)) (orders_of (map order_view (drop i items))) =
    c.run_from-run.ensures ∙ ap₂ (λ o l. run_from s x o (orders_of (map order_view l))) c.origin.ensures (take_rest c.deref.result.now i ∙ ap (drop i) c.deref.ensures.value) in
    let none : 0 ≡ c.loop-at.left = omega arith in
    let no : c.run_from-run.result ≡ 0 = omega arith in
    let before = faulted c.loop-at.found in
    let F = keys_faults s g x 0 in
    ap (λ n. worse (faulted c.worse-found.result) (worst (keys_faults s g x n (drop (i + 1) items)))) (sym none)
    ∙ worse_more before (faulted c.worse-found.result) (expr_faults s g x (expr_view item.value)) (F (drop (i + 1) items)) (F (drop i items)) (worst (F items))
    (no_run s g x items i c.run_from-run.result item within is run no) (c.worse-found.ensures ∙ ap (worse before) c.expr_fault.ensures)
    (ap (λ n. worse before (worst (keys_faults s g x n (drop i items)))) none ∙ c.loop-at.invariant)

pub orders_fault-returns : goal.orders_fault-returns
orders_fault-returns t c =
    let s = rules_schema c.args.rules.now in
    let g = rules_grants c.args.rules.now in
    let x = shapes_view c.args.scope.now in
    let items = c.args.orders.now.items in
    let over : length items ≤ c.loop-at.at = omega (arith, ap length c.deref-order-items.ensures.value) in
    worse_end (keys_faults s g x c.loop-at.left) items c.loop-at.at (faulted c.loop-at.found) (worst (keys_faults s g x 0 items)) refl over c.loop-at.invariant
