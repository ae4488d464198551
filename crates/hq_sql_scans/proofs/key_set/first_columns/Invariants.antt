use Rattle.std.proofs.Common.{◌≡◌}
use Rattle.hq_load_index.specs.Indexes.{counted}
use Rattle.hq_sql_scans.proofs.key_set.first_columns.Given as goal

abbrev pub invariant-loop-at : goal.invariant-loop-at
invariant-loop-at l = l.all.items ≡ counted 0 l.at
