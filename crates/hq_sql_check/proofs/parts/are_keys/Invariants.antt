use Rattle.std.proofs.Common.{◌≡◌, drop, map}
use Rattle.std.specs.List.{list_all}
use Rattle.hq_sql_tree.specs.View.{order_view}
use Rattle.hq_sql_tree.specs.WellFormed.{is_compared}
use Rattle.hq_sql_check.specs.Scopes.{scope_view}
use Rattle.hq_sql_check.proofs.parts.are_keys.Given as goal

-- those that are left tell what all do
abbrev pub invariant-loop-key : goal.invariant-loop-key
invariant-loop-key l =
    list_all (λ k. is_compared (scope_view l.scope) k.value) (map order_view (drop l.key-index l.key-items))
    ≡ list_all (λ k. is_compared (scope_view l.scope) k.value) (map order_view l.key-items)
