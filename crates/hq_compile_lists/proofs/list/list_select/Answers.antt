use Rattle.std.proofs.Common.{◌∙◌, ◌∷◌, List, map, ap}
use Rattle.hq_model.specs.Selected.{smaller}
use Rattle.hq_request_tree.specs.Arguments.{arguments_view}
use Rattle.hq_sql_tree.specs.Tree.{OutTree, object, pairs_of}
use Rattle.hq_sql_tree.specs.View.{join_view, pair_view, select_view}
use Rattle.hq_translation.specs.Lists.{list_outputs}
use Rattle.hq_translation.specs.Names.{value_name}
use Rattle.hq_compile_tables.specs.Contexts.{context_schema, context_granted}
use Rattle.hq_compile_lists.specs.Bodies.{rows_of}
use Rattle.hq_compile_lists.proofs.Selects.{list_of}
use Rattle.hq_compile_lists.proofs.list.list_select.Goals as goal

-- the rows are those of the list, by what is known of the body
pub returns : goal.returns
returns c = λ cs tie is.
    let s = context_schema c.args.context.now in
    let g = context_granted c.args.context.now in
    let t = c.args.t in
    let n = c.args.n in
    let a = arguments_view c.args.args.now in
    let pairs = map pair_view c.args.row.pairs.items in
    let children = map join_view c.args.row.joins.items in
    let limit = smaller a.limit (g.limit t) in
    let first : OutTree = record { value = object (pairs_of pairs); name = value_name } in
    let given = ap select_view c.in_ok-rows-2.ensures.ok ∙ c.in_ok-rows.ensures
    ∙ ap (λ (keys : List OutTree). rows_of s t n c.args.body limit (first ∷ keys) children a.offset) is.keys ∙ is.rows limit (list_outputs s g t cs a n pairs) children in
    list_of s g t cs a n tie pairs children _ _ _ _ c.fold.ensures c.in_ok-alias.ensures c.in_ok-out.ensures given
