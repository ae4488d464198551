use Rattle.std.proofs.Common.{◌≡◌, ◌==◌, map, drop}
use Rattle.std.specs.List.{list_all, list_any}
use Rattle.hq_request_tree.specs.Arguments.{sort_view}
use Rattle.hq_request_arguments.proofs.columns.cover_all.Given as goal

-- all that are left pass, if all do
abbrev pub invariant-loop-column : goal.invariant-loop-column
invariant-loop-column l =
    list_all (λ c. list_any (λ k. k.column == c) (map sort_view l.sorts)) (drop l.column-index l.columns)
    ≡ list_all (λ c. list_any (λ k. k.column == c) (map sort_view l.sorts)) l.columns
