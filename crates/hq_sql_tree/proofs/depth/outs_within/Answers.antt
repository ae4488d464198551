use Rattle.std.proofs.Common.{◌∙◌, sym, ap, List, ◌+◌, ◌<◌, map, drop, length, nat_le, arith}
use Rattle.hq_sql_tree.specs.declared.select.Out.{Out}
use Rattle.hq_sql_tree.specs.View.{expr_view, out_view}
use Rattle.hq_sql_tree.specs.Form.{greatest, expr_depth}
use Rattle.hq_sql_tree.proofs.Next.{next_item, passes, fails, max_within}
use Rattle.hq_sql_tree.proofs.depth.outs_within.Goals as goal

pub loop-out-preserved : goal.loop-out-preserved
loop-out-preserved c =
    let items = c.deref-out-items.result.now in
    let i = c.loop-out.out-index in
    let item = c.out-item.result in
    let within : i < length items = omega arith in
    let room = c.args.room in
    let deep = λ (list : List Out). greatest (map (λ o. expr_depth o.value) (map out_view list)) in
    let whole = λ (list : List Out). nat_le (deep list) room in
    passes (nat_le (expr_depth (expr_view item.value)) room) (whole (drop (i + 1) items)) (whole (drop i items)) (whole items)
    (ap whole (next_item items i item within c.out-item.is)
    ∙ max_within (expr_depth (expr_view item.value)) (deep (drop (i + 1) items)) room)
    c.loop-out.invariant
    (sym c.expr_within.ensures ∙ c.if-not-expr_within.false)

pub returns-then-not-expr_within : goal.returns-then-not-expr_within
returns-then-not-expr_within c =
    let items = c.deref-out-items.result.now in
    let i = c.loop-out.out-index in
    let item = c.out-item.result in
    let within : i < length items = omega arith in
    let room = c.args.room in
    let deep = λ (list : List Out). greatest (map (λ o. expr_depth o.value) (map out_view list)) in
    let whole = λ (list : List Out). nat_le (deep list) room in
    fails (nat_le (expr_depth (expr_view item.value)) room) (whole (drop (i + 1) items)) (whole (drop i items)) (whole items)
    (ap whole (next_item items i item within c.out-item.is)
    ∙ max_within (expr_depth (expr_view item.value)) (deep (drop (i + 1) items)) room)
    c.loop-out.invariant
    (sym c.expr_within.ensures ∙ c.if-not-expr_within.true)
    ∙ ap whole c.deref-out-items.ensures.value
