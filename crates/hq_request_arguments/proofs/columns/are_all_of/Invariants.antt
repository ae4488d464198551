use Rattle.std.proofs.Common.{◌≡◌, ◌==◌, ◌&&◌, map, drop}
use Rattle.std.specs.List.{list_all, list_any}
use Rattle.hq_request_tree.specs.Conditions.{is_plain_sort}
use Rattle.hq_request_tree.specs.Arguments.{sort_view}
use Rattle.hq_request_arguments.proofs.columns.are_all_of.Given as goal

-- all that are left pass, if all do
abbrev pub invariant-loop-sort : goal.invariant-loop-sort
invariant-loop-sort l =
    list_all (λ k. is_plain_sort k && list_any (λ c. c == k.column) l.columns) (map sort_view (drop l.sort-index l.sorts))
    ≡ list_all (λ k. is_plain_sort k && list_any (λ c. c == k.column) l.columns) (map sort_view l.sorts)
