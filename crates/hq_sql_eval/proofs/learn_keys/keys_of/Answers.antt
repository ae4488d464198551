use Rattle.std.proofs.Common.{rules, ◌≡◌, ◌∙◌, [], None, map, sym, ap}
use Rattle.hq_sql_tree.specs.declared.select.From.{the_lemmas as from_lemmas}
use Rattle.hq_sql_tree.specs.declared.select.Select.{the_lemmas as select_lemmas}
use Rattle.hq_sql_tree.specs.Meaning.{named_row}
use Rattle.hq_sql_tree.specs.Tree as tree
use Rattle.hq_sql_tree.specs.Tree.{joins_of, no_join}
use Rattle.hq_sql_tree.specs.View.{expr_view, filter_view, from_view, join_view, order_view, out_view, pred_view, select_view}
use Rattle.hq_sql_access.specs.Lent.{rows_lent}
use Rattle.hq_sql_access.specs.Sources.{rows_given}
use Rattle.hq_sql_access.specs.View.{source_view, world_of}
use Rattle.hq_sql_access.specs.declared.scope.Source.TheVariants as source
use Rattle.hq_sql_eval.proofs.Keyed.{filters_is}
use Rattle.hq_sql_eval.proofs.learn_keys.keys_of.Goals as goal

pub keys_over-requires-clause-filters : goal.keys_over-requires-clause-filters
keys_over-requires-clause-filters c =
    let P = c.in-Rows-default-default-default-default-default-default-None-None in
    let w = world_of c.args.world.now in
    let F = from_view P.from in
    let J = joins_of (map join_view P.joins.items) in
    let D = map expr_view P.distinct.items in
    let O = map out_view P.outs.items in
    let K = map order_view P.order.items in
    let p = pred_view c.in-Some.filter in
    let stored = c.in-Stored.stored in
    let columns = stored.now.table.now.columns in
    let rows = c.in-Some-rows.rows.now in
    let kept : filter_view P.filter ≡ tree.filter p = ap filter_view c.in-Some.is in
    let sel : select_view c.args.select.now ≡ tree.rows D O F J (filter_view P.filter) K None None = search (rules, select_lemmas) in
    let at : F ≡ tree.table c.in-Table.schema c.in-Table.table c.in-Table.alias = search (rules, from_lemmas) in
    let alone : J ≡ no_join = ap (λ js. joins_of (map join_view js)) (c.has_no_join.ensures c.if-not-has_no_join.false) in
    let lent : rows_lent stored.now.rows ≡ rows = ap rows_lent c.in-Some-rows.is in
    let whole : source_view (source.Stored stored) ≡ rows_given F w [] = rw c.in-Stored.is at c.source_of.ensures in
    let given : rows_given F w [] ≡ map (named_row columns) rows = sym whole ∙ ap (map (named_row columns)) lent in
    filters_is D O F J p K w (pred_view c.args.pred.now) (select_view c.args.select.now) c.in-Table.schema c.in-Table.table c.in-Table.alias columns rows
    c.requires (sel ∙ ap (λ f. tree.rows D O F J f K None None) kept) at alone given
