use Rattle.std.proofs.Common.{◌≡◌, ◌++◌, filter, drop, map}
use Rattle.std.specs.List.{list_any}
use Rattle.hq_model.specs.Permission.{permits}
use Rattle.hq_model.specs.PermView.{permission_view}
use Rattle.hq_model.proofs.inherited.columns_of_any.Given as goal

abbrev pub invariant-loop-col : goal.invariant-loop-col
invariant-loop-col l =
    l.cols ++ filter (λ c. list_any (permits c) (map permission_view l.views)) (drop l.col-index l.col-items)
    ≡ filter (λ c. list_any (permits c) (map permission_view l.views)) l.col-items
