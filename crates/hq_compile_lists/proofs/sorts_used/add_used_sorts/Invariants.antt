use Rattle.std.proofs.Common.{◌≡◌, ◌++◌, drop, map}
use Rattle.hq_translation.specs.Sorts.{used_sorts}
use Rattle.hq_compile_lists.specs.RowSorts.{row_sort_view}
use Rattle.hq_compile_lists.proofs.sorts_used.add_used_sorts.Given as goal

abbrev pub invariant-loop-sort : goal.invariant-loop-sort
invariant-loop-sort l =
    l.columns ++ used_sorts (map row_sort_view (drop l.sort-index l.sorts)) ≡ l.initial.columns ++ used_sorts (map row_sort_view l.sorts)
