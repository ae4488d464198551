use Rattle.std.proofs.Common.{◌≡◌, take}
use Rattle.hq_copy_filter.specs.Lent.{rows_of}
use Rattle.hq_copy_filter.proofs.permitted.listed.Given as goal

abbrev pub invariant-loop-at : goal.invariant-loop-at
invariant-loop-at l = rows_of l.all.items ≡ take l.at l.rows
