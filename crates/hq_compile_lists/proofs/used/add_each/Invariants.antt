use Rattle.std.proofs.Common.{◌≡◌, ◌++◌, drop}
use Rattle.hq_compile_lists.proofs.used.add_each.Given as goal

abbrev pub invariant-loop-column : goal.invariant-loop-column
invariant-loop-column l = l.columns ++ drop l.column-index l.more ≡ l.initial.columns ++ l.more
