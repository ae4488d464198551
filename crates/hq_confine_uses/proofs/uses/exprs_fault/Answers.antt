use Rattle.std.proofs.Common.{◌∙◌, ◌+◌, ◌<◌, List, drop, length, map, refl, ap, arith}
use Rattle.hq_sql_tree.specs.View.{expr_view}
use Rattle.hq_sql_tree.specs.declared.expr.Expr.{Expr}
use Rattle.hq_base.proofs.Loops.{next_item}
use Rattle.hq_confine_rules.specs.Faults.{worse, worst}
use Rattle.hq_confine_rules.specs.Uses.{expr_faults, exprs_faults}
use Rattle.hq_confine_uses.specs.Views.{faulted, shapes_view, rules_schema, rules_grants}
use Rattle.hq_confine_uses.proofs.Worst.{worse_more, worse_end}
use Rattle.hq_confine_uses.proofs.uses.exprs_fault.Goals as goal

pub loop-expr-preserved : goal.loop-expr-preserved
loop-expr-preserved c =
    let s = rules_schema c.args.rules.now in
    let g = rules_grants c.args.rules.now in
    let x = shapes_view c.args.scope.now in
    let items = c.deref-expr-items.result.now in
    let i = c.loop-expr.expr-index in
    let item = c.expr-item.result in
    let within : i < length items = omega arith in
    let before = faulted c.loop-expr.found in
    let F = λ (list : List Expr). exprs_faults s g x (map expr_view list) in
    worse_more before (faulted c.worse-found.result) (expr_faults s g x (expr_view item)) (F (drop (i + 1) items)) (F (drop i items)) (worst (F items))
    (ap F (next_item items i item within c.expr-item.is)) (c.worse-found.ensures ∙ ap (worse before) c.expr_fault.ensures) c.loop-expr.invariant

pub returns : goal.returns
returns c =
    let s = rules_schema c.args.rules.now in
    let g = rules_grants c.args.rules.now in
    let x = shapes_view c.args.scope.now in
    let items = c.deref-expr-items.result.now in
    let F = λ (list : List Expr). exprs_faults s g x (map expr_view list) in
    worse_end F items c.loop-expr.expr-index (faulted c.loop-expr.found) (worst (F items)) refl c.loop-expr-test.false c.loop-expr.invariant
    ∙ ap (λ list. worst (F list)) c.deref-expr-items.ensures.value
