use Rattle.std.proofs.Common.{◌∙◌, map, ap, sym, rules}
use Rattle.std.specs.Ordering.{on}
use Rattle.std.proofs.lemmas.Result.{IfOk-weaker}
use Rattle.hq_base.specs.Lists.{sort}
use Rattle.hq_base.proofs.Sorts.{sort_map}
use Rattle.hq_sql_cells.specs.Keys.{keys_cmp, keys_of}
use Rattle.hq_sql_cells.specs.declared.sorting.Fronted.{Fronted}
use Rattle.hq_sql_cells.proofs.KeyOrders.{sorted_by_closure, keys_cmp_total}
use Rattle.hq_sql_cells.proofs.sorting.sorted_kept.Goals as goal

pub returns : goal.returns
returns g c =
    let order = c.args.order.now in
    let sorted =
    sorted_by_closure (keys_cmp_total order) (λ (f : Fronted _). keys_of f.kept) c.in_ok-all.all.items _ c.in_ok-sort_by.ensures.sorted
    c.in_ok-sort_by.ensures.stable (λ a r f' k. search rules) in
    IfOk-weaker c.without_fronts.result _ _
    (λ rows is. is ∙ ap (map (λ (f : Fronted _). f.kept)) sorted ∙ sym (sort_map (λ (f : Fronted _). f.kept) (on keys_of (keys_cmp order)) c.in_ok-all.all.items)
    ∙ ap (sort (on keys_of (keys_cmp order))) c.in_ok-all.ensures)
    c.without_fronts.ensures
