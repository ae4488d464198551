use Rattle.std.proofs.Common.{◌+◌, map}
use Rattle.hq_sql_conjuncts.specs.Weight.{total, join_weight}
use Rattle.hq_sql_access.specs.Weight.{scope_weight}
use Rattle.hq_sql_access.proofs.resolved.+resolve.Given as goal

-- what is left of the scope
abbrev pub decreases-resolve : goal.decreases-resolve
decreases-resolve l = scope_weight l.scope + scope_weight l.scope

abbrev pub decreases-resolve_joined : goal.decreases-resolve_joined
decreases-resolve_joined l = 1 + ((total (map join_weight l.joins.now) + scope_weight l.outer.now) + (total (map join_weight l.joins.now) + scope_weight l.outer.now))
