use Rattle.std.proofs.Common.{◌∙◌, sym, ap, subst, map, filter, length}
use Rattle.hq_base.proofs.Orders.{cell_cmp_total}
use Rattle.hq_base.proofs.Sorts.{ascends_sort, sort_filter}
use Rattle.hq_base.specs.Aggregates.{is_taken}
use Rattle.hq_base.specs.Cells.{cell_cmp, same_cell}
use Rattle.hq_base.specs.Lists.{Ascends, firsts}
use Rattle.hq_sql_cells.specs.View.{cell_view}
use Rattle.hq_sql_cells.proofs.Groups.{sorted_cells}
use Rattle.hq_sql_cells.proofs.different.different_cells.Goals as goal

pub number_of_groups-requires : goal.number_of_groups-requires
number_of_groups-requires c =
    let is = ap (map cell_view) c.deref.ensures.value ∙ sorted_cells c.args.cells.items _ c.in_ok-sort_cells.ensures in
    subst (Ascends cell_cmp) (sym is) (ascends_sort cell_cmp_total (map cell_view c.args.cells.items))

pub returns : goal.returns
returns c =
    let is = ap (map cell_view) c.deref.ensures.value ∙ sorted_cells c.args.cells.items _ c.in_ok-sort_cells.ensures in
    c.number_of_groups.ensures ∙ ap (λ cs. length (firsts same_cell cs)) (ap (filter is_taken) is ∙ sort_filter cell_cmp_total is_taken (map cell_view c.args.cells.items))
