use Rattle.std.proofs.Common.{◌≡◌}
use Rattle.hq_sql_eval.proofs.remember.+remember.Given as goal

-- the tables stay
abbrev pub invariant-remember_joins-loop-join : goal.invariant-remember_joins-loop-join
invariant-remember_joins-loop-join l = l.world.tables ≡ l.initial.world.tables

abbrev pub invariant-remember_preds-loop-pred : goal.invariant-remember_preds-loop-pred
invariant-remember_preds-loop-pred l = l.world.tables ≡ l.initial.world.tables
