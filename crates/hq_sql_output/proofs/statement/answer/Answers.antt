use Rattle.std.proofs.Common.{rules, ◌≡◌, Some, IfOk, codes, map, subst, sym, ap, ◌∙◌}
use Rattle.hq_answer.specs.Answers.{IsAnswer}
use Rattle.hq_sql_tree.specs.declared.select.Select.{the_lemmas as select_lemmas}
use Rattle.hq_sql_tree.specs.Tree.{object, pairs_of, joins_of, rows}
use Rattle.hq_sql_tree.specs.View.{expr_view, out_view, pair_view, order_view, select_view, from_view, join_view, filter_view}
use Rattle.hq_sql_tree.specs.Meaning.{meaning, nothing, scopes_of}
use Rattle.hq_sql_access.specs.View.{world_of}
use Rattle.hq_sql_output.specs.Listed.{output_in}
use Rattle.hq_sql_output.specs.Selected.{page_of}
use Rattle.hq_sql_output.proofs.Objects.{object_is}
use Rattle.hq_sql_output.proofs.statement.answer.Goals as goal

pub returns-in-Some : goal.returns-in-Some
returns-in-Some c =
    let w = world_of c.args.world.now in
    let D = map expr_view c.in-Rows.distinct.items in
    let O = map out_view c.in-Rows.outs.items in
    let F = from_view c.in-Rows.from in
    let J = joins_of (map join_view c.as_slice-in-Some.result.now) in
    let C = filter_view c.in-Rows.filter in
    let K = map order_view c.in-Rows.order.items in
    let l = c.in-Rows.limit in
    let o = c.in-Rows.offset in
    let ps = map pair_view c.in-Some.pairs.now.items in
    let whole : select_view c.args.select.now ≡ rows D O F (joins_of (map join_view c.in-Rows.joins.items)) C K l o = search (rules, select_lemmas) in
    let select : select_view c.args.select.now ≡ rows D O F J C K l o = whole ∙ ap (λ js. rows D O F (joins_of (map join_view js)) C K l o) (sym c.as_slice-in-Some.ensures.value) in
    let output : output_in O (codes "v") ≡ Some (object (pairs_of ps)) =
    sym (ap (output_in O) c.in_ok-name.ensures) ∙ sym (ap (λ x. output_in (map out_view x) c.in_ok-name.name) c.as_slice.ensures.value) ∙ c.in-Some.ensures in
    subst (λ j. IfOk c.object_first.result (λ a. IsAnswer a j)) (sym (ap (λ s. meaning s w) select ∙ object_is O ps (page_of D J C K l o w (scopes_of F w nothing)) output)) c.object_first.ensures
