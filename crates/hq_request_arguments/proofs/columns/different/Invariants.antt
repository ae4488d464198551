use Rattle.std.proofs.Common.{◌≡◌, ◌++◌, filter, not, drop, ◌==◌}
use Rattle.std.specs.List.{list_any}
use Rattle.hq_base.specs.Lists.{firsts}
use Rattle.hq_request_arguments.proofs.columns.different.Given as goal

-- the different ones so far, and then those of the rest that are not among them
abbrev pub invariant-loop-column : goal.invariant-loop-column
invariant-loop-column l =
    firsts (λ c d. c == d) l.columns
    ≡ l.different ++ filter (λ d. not (list_any (λ c. c == d) l.different)) (firsts (λ c d. c == d) (drop l.column-index l.columns))
