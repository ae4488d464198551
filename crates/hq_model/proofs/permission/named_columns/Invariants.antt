use Rattle.std.proofs.Common.{◌≡◌, ◌++◌, drop}
use Rattle.hq_model.specs.Permission.{named_from}
use Rattle.hq_model.proofs.permission.named_columns.Given as goal

abbrev pub invariant-loop-at : goal.invariant-loop-at
invariant-loop-at l = l.cols ++ named_from l.at (drop l.at l.names) ≡ named_from 0 l.names
