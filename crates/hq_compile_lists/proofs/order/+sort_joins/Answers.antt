use Rattle.std.proofs.Common.{◌∙◌, ℕ, List, map, ap}
use Rattle.std.proofs.lemmas.Result.{IfOk-weaker}
use Rattle.hq_sql_tree.specs.View.{join_view}
use Rattle.hq_translation.specs.Sorts.{sort_joins}
use Rattle.hq_compile_tables.specs.Contexts.{context_schema, context_granted}
use Rattle.hq_compile_lists.proofs.Steps.{first_and_rest, step_of}
use Rattle.hq_compile_lists.proofs.order.+sort_joins.Goals as goal

-- the join of the first relationship, with those behind it
pub returns-in_ok-inner-in-len1-up-clause-joins : goal.returns-in_ok-inner-in-len1-up-clause-joins
returns-in_ok-inner-in-len1-up-clause-joins t c =
    let s = context_schema c.args.context.now in
    let g = context_granted c.args.context.now in
    let first = c.in_ok-first-in-len1-up.first in
    let is_first = c.in_ok-first-in-len1-up.ensures in
    let column = c.args.column in
    let next = c.args.next.now in
    let all = first_and_rest c.args.through.now c.r-item.result c.in-len1-up.len_at_least c.r-item.is in
    IfOk-weaker c.step_joins.result _ _
    (λ joins is. step_of s g c.args.t c.args.p c.r-item.result column next _ first.table first.number c.remote_row.new.next c.as_slice.result.now first.masks.places (map join_view joins.items) _ _ _ _
    is c.in_ok-inner-in-len1-up.ensures.joins c.in_ok-outs-in-len1-up.ensures is_first.table is_first.number is_first.numbers is_first.looks
    is_first.joins is_first.members (c.as_slice.ensures ∙ c.in_ok-used-in-len1-up.ensures)
    ∙ ap (λ (rs : List ℕ). sort_joins rs s g c.args.t c.args.p next column) all)
    c.step_joins.ensures
