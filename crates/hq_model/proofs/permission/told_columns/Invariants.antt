use Rattle.std.proofs.Common.{◌≡◌, ◌++◌, filter, drop}
use Rattle.std.specs.Prelude.{◌==◌}
use Rattle.std.specs.List.{list_any}
use Rattle.hq_model.proofs.permission.told_columns.Given as goal

abbrev pub invariant-loop-col : goal.invariant-loop-col
invariant-loop-col l =
    l.cols ++ filter (λ c. list_any (λ d. d == c) l.told) (drop l.col-index l.col-items) ≡ filter (λ c. list_any (λ d. d == c) l.told) l.col-items
