use Rattle.hq_sql_scans.specs.ChosenKeys.{Gathers}
use Rattle.hq_sql_scans.proofs.key_set.chosen_values.Given as goal

-- the rows so far
abbrev pub invariant-loop-at : goal.invariant-loop-at
invariant-loop-at l = Gathers l.columns l.truths l.rows l.at l.all.values.items l.all.count
