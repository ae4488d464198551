use Rattle.std.proofs.Common.{◌≡◌, ◌==◌, drop}
use Rattle.std.specs.List.{list_all}
use Rattle.hq_request_arguments.proofs.columns.are_all.Given as goal

-- all that are left pass, if all do
abbrev pub invariant-loop-other : goal.invariant-loop-other
invariant-loop-other l = list_all (λ d. d == l.column) (drop l.other-index l.columns) ≡ list_all (λ d. d == l.column) l.columns
