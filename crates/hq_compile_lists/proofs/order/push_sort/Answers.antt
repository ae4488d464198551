use Rattle.std.proofs.Common.{◌∙◌, ℕ, [], ◌∷◌, ◌++◌, List, map, ap}
use Rattle.std.proofs.lemmas.List.{map-append}
use Rattle.hq_sql_tree.specs.Tree.{JoinTree, OrderTree, OutTree}
use Rattle.hq_sql_tree.specs.View.{join_view, order_view, out_view}
use Rattle.hq_translation.specs.Sorts.{sort_joins}
use Rattle.hq_compile_tables.specs.Contexts.{context_schema, context_granted}
use Rattle.hq_compile_lists.proofs.order.push_sort.Goals as goal

pub returns-clause-joins : goal.returns-clause-joins
returns-clause-joins c =
    let old = c.args.parts.now.joins.items in
    let s = context_schema c.args.context.now in
    let g = context_granted c.args.context.now in
    ap (map join_view) c.in_ok-append.ensures.items ∙ map-append join_view old c.in_ok-joins.joins.items ∙ ap (λ (js : List JoinTree). map join_view old ++ js) c.in_ok-joins.ensures.joins
    ∙ ap (λ (through : List ℕ). map join_view old ++ sort_joins through s g c.args.t c.args.p c.args.next.now c.args.sort.now.column) c.as_slice.ensures

pub returns-clause-orders : goal.returns-clause-orders
returns-clause-orders c =
    let old = c.args.parts.now.orders.items in
    ap (map order_view) c.in_ok-push.ensures.items ∙ map-append order_view old (c.in_ok-row_order.field-0 ∷ []) ∙ ap (λ (os : List OrderTree). map order_view old ++ os) c.in_ok-row_order.ensures

pub returns-clause-outputs : goal.returns-clause-outputs
returns-clause-outputs c =
    let old = c.args.parts.now.outputs.items in
    ap (map out_view) c.in_ok-push-2.ensures.items ∙ map-append out_view old (c.in_ok-row_output.field-0 ∷ []) ∙ ap (λ (os : List OutTree). map out_view old ++ os) c.in_ok-row_output.ensures
