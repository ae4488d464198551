use Rattle.std.proofs.Common.{◌≡◌, drop, map}
use Rattle.hq_sql_tree.specs.WellFormed.{kind_named}
use Rattle.hq_sql_check.specs.Scopes.{name_view}
use Rattle.hq_sql_check.proofs.scope.kind_named.Given as goal

-- those that are left tell what all do
abbrev pub invariant-loop-known : goal.invariant-loop-known
invariant-loop-known l = kind_named (map name_view (drop l.known-index l.names)) l.name ≡ kind_named (map name_view l.names) l.name
