use Rattle.std.proofs.Common.{◌≡◌, ◌++◌, drop}
use Rattle.hq_model.specs.Permission.{named_from}
use Rattle.hq_load_meta_names.proofs.shown.named_columns.Given as goal

-- the columns so far, and then those of the rest
abbrev pub invariant-loop-at : goal.invariant-loop-at
invariant-loop-at l = l.cols ++ named_from l.at (drop l.at l.names) ≡ named_from 0 l.names
