use Rattle.std.proofs.Common.{◌≡◌, take, map}
use Rattle.hq_sql_tree.specs.View.{out_view}
use Rattle.hq_sql_tree.specs.WellFormed.{out_names}
use Rattle.hq_sql_check.specs.Scopes.{name_view, scope_view}
use Rattle.hq_sql_check.proofs.parts.out_names.Given as goal

-- those so far
abbrev pub invariant-loop-out : goal.invariant-loop-out
invariant-loop-out l = map name_view l.names.items ≡ out_names (scope_view l.scope) (map out_view (take l.out-index l.out-items))
