use Rattle.std.proofs.Common.{◌∙◌, sym, ap, List, ◌+◌, ◌<◌, map, drop, length, max, nat_le, arith}
use Rattle.hq_sql_tree.specs.declared.expr.Order.{Order}
use Rattle.hq_sql_tree.specs.View.{expr_view, order_view}
use Rattle.hq_sql_tree.specs.Form.{greatest, expr_depth}
use Rattle.hq_sql_tree.proofs.Next.{next_item, view_key, passes, fails, max_within}
use Rattle.hq_sql_tree.proofs.depth.keys_within.Goals as goal

pub loop-key-preserved : goal.loop-key-preserved
loop-key-preserved c =
    let items = c.deref-key-items.result.now in
    let i = c.loop-key.key-index in
    let item = c.key-item.result in
    let within : i < length items = omega arith in
    let room = c.args.room in
    let deep = λ (list : List Order). greatest (map (λ k. expr_depth k.value) (map order_view list)) in
    let whole = λ (list : List Order). nat_le (deep list) room in
    passes (nat_le (expr_depth (expr_view item.value)) room) (whole (drop (i + 1) items)) (whole (drop i items)) (whole items)
    (ap whole (next_item items i item within c.key-item.is)
    ∙ ap (λ n. nat_le (max n (deep (drop (i + 1) items))) room) (ap expr_depth (view_key item))
    ∙ max_within (expr_depth (expr_view item.value)) (deep (drop (i + 1) items)) room)
    c.loop-key.invariant
    (sym c.expr_within.ensures ∙ c.if-not-expr_within.false)

pub returns-then-not-expr_within : goal.returns-then-not-expr_within
returns-then-not-expr_within c =
    let items = c.deref-key-items.result.now in
    let i = c.loop-key.key-index in
    let item = c.key-item.result in
    let within : i < length items = omega arith in
    let room = c.args.room in
    let deep = λ (list : List Order). greatest (map (λ k. expr_depth k.value) (map order_view list)) in
    let whole = λ (list : List Order). nat_le (deep list) room in
    fails (nat_le (expr_depth (expr_view item.value)) room) (whole (drop (i + 1) items)) (whole (drop i items)) (whole items)
    (ap whole (next_item items i item within c.key-item.is)
    ∙ ap (λ n. nat_le (max n (deep (drop (i + 1) items))) room) (ap expr_depth (view_key item))
    ∙ max_within (expr_depth (expr_view item.value)) (deep (drop (i + 1) items)) room)
    c.loop-key.invariant
    (sym c.expr_within.ensures ∙ c.if-not-expr_within.true)
    ∙ ap whole c.deref-key-items.ensures.value
