use Rattle.std.proofs.Common.{rules, ◌≡◌, [], IfSome, map, subst, sym, ap, ◌∙◌}
use Rattle.hq_base.specs.Aggregates.{counted, aggregated}
use Rattle.hq_sql_cells.specs.View.{cell_view}
use Rattle.hq_sql_tree.specs.declared.expr.Agg.{the_lemmas as agg_lemmas}
use Rattle.hq_sql_tree.specs.Meaning.{taken, value}
use Rattle.hq_sql_tree.specs.Tree as tree
use Rattle.hq_sql_tree.specs.View.{agg_view, expr_view}
use Rattle.hq_sql_access.specs.View.{world_of, names_of}
use Rattle.hq_sql_output.specs.Grouped.{group_in}
use Rattle.hq_sql_output.proofs.grouped.taken_at.Goals as goal

pub returns-in_ok-counted-in-Some : goal.returns-in_ok-counted-in-Some
returns-in_ok-counted-in-Some c =
    let ns = group_in c.args.group.now (world_of c.args.world.now) (names_of c.args.scope.now c.args.world.now) in
    let e = expr_view c.in-Count.expr.value in
    let lent : c.deref.result.now ≡ c.in-Count.expr.value = search rules in
    let found : map cell_view c.in-Some.cells.items ≡ map (value e []) ns =
    subst (λ x. map cell_view c.in-Some.cells.items ≡ map (value (expr_view x) []) ns) lent
    (subst (λ o. IfSome o (λ cells. map cell_view cells.items ≡ map (value (expr_view c.deref.result.now) []) ns)) c.in-Some.is c.in_ok-cells-in-Count.ensures) in
    let whole : taken (agg_view c.args.agg.now) ns ≡ counted c.in-Count.distinct (map (value e []) ns) = search (rules, agg_lemmas) in
    c.in_ok-counted-in-Some.ensures.value ∙ ap (counted c.in-Count.distinct) found ∙ sym whole

pub returns-in_ok-aggregated-in-Some-2 : goal.returns-in_ok-aggregated-in-Some-2
returns-in_ok-aggregated-in-Some-2 c =
    let ns = group_in c.args.group.now (world_of c.args.world.now) (names_of c.args.scope.now c.args.world.now) in
    let a = c.in-Take.aggregate in
    let e = expr_view c.in-Take.expr.value in
    let lent : c.deref-in-Take.result.now ≡ c.in-Take.expr.value = search rules in
    let found : map cell_view c.in-Some-2.cells.items ≡ map (value e []) ns =
    subst (λ x. map cell_view c.in-Some-2.cells.items ≡ map (value (expr_view x) []) ns) lent
    (subst (λ o. IfSome o (λ cells. map cell_view cells.items ≡ map (value (expr_view c.deref-in-Take.result.now) []) ns)) c.in-Some-2.is c.in_ok-cells-in-Take.ensures) in
    let is : agg_view c.args.agg.now ≡ tree.take a e = search (rules, agg_lemmas) in
    c.in_ok-aggregated-in-Some-2.ensures.value ∙ ap (aggregated a) found ∙ ap (λ g. taken g ns) (sym is)
