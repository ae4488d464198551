use Rattle.std.proofs.Common.{◌≡◌, ◌==◌, map, drop}
use Rattle.std.specs.List.{list_any}
use Rattle.hq_request_tree.specs.Arguments.{sort_view}
use Rattle.hq_request_arguments.proofs.columns.has_sort_by.Given as goal

-- a sort by the column is left, if there is one at all
abbrev pub invariant-loop-sort : goal.invariant-loop-sort
invariant-loop-sort l = list_any (λ k. k.column == l.column) (map sort_view (drop l.sort-index l.sorts)) ≡ list_any (λ k. k.column == l.column) (map sort_view l.sorts)
