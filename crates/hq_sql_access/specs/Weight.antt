-- How much is left to evaluate in a scope: a number that falls from call to call, beside those of the parts of a select.
use Rattle.std.specs.Prelude.{ℕ, ◌+◌, map}
use Rattle.hq_sql_conjuncts.specs.Weight.{total, join_weight, select_weight}
use Rattle.hq_sql_access.specs.declared.scope.Scope.{Scope, Nothing, Bound', Later', Joined'}

abbrev pub scope_weight : Scope → ℕ
scope_weight Nothing = 0
scope_weight (Bound' alias row p outer) = 1 + scope_weight outer
scope_weight (Later' alias select p outer) = 3 + (select_weight select.now + scope_weight outer)
scope_weight (Joined' joins rows p outer) = 1 + (total (map join_weight joins.now) + scope_weight outer)
