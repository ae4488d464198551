use Rattle.std.proofs.Common.{◌≡◌, drop, map}
use Rattle.std.specs.List.{list_all}
use Rattle.hq_sql_tree.specs.View.{out_view}
use Rattle.hq_sql_tree.specs.WellFormed.{is_value}
use Rattle.hq_sql_check.specs.Scopes.{scope_view}
use Rattle.hq_sql_check.proofs.parts.are_outputs.Given as goal

-- those that are left tell what all do
abbrev pub invariant-loop-out : goal.invariant-loop-out
invariant-loop-out l =
    list_all (λ o. is_value (scope_view l.scope) o.value) (map out_view (drop l.out-index l.out-items))
    ≡ list_all (λ o. is_value (scope_view l.scope) o.value) (map out_view l.out-items)
