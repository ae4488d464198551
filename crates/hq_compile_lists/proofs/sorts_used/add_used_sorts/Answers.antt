use Rattle.std.proofs.Common.{List, map, refl}
use Rattle.hq_translation.specs.Sorts.{used_by, used_sorts}
use Rattle.hq_compile_tables.proofs.Loops.{rest-more}
use Rattle.hq_compile_lists.specs.RowSorts.{row_sort_view}
use Rattle.hq_compile_lists.specs.declared.sorts.RowSort.{RowSort}
use Rattle.hq_compile_lists.proofs.sorts_used.add_used_sorts.Goals as goal

pub loop-sort-preserved : goal.loop-sort-preserved
loop-sort-preserved c =
    let rest = λ (ks : List RowSort). used_sorts (map row_sort_view ks) in
    let sort = c.sort-item.result in
    rest-more rest rest c.args.sorts.now c.loop-sort.sort-index sort c.loop-sort.columns c.add_used_sort.new.columns
    (used_by sort.own sort.through sort.column) _ c.loop-sort.invariant c.loop-sort-test.true c.sort-item.is refl
    c.in_ok-add_used_sort.ensures
