use Rattle.std.proofs.Common.{◌≡◌, ◌++◌, drop}
use Rattle.hq_compile_lists.proofs.sorts.copied_through.Given as goal

abbrev pub invariant-loop-r : goal.invariant-loop-r
invariant-loop-r l = l.copy ++ drop l.r-index l.r-items ≡ l.through
