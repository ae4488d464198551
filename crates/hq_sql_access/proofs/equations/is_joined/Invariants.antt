use Rattle.std.proofs.Common.{◌≡◌, drop, map}
use Rattle.hq_sql_tree.specs.Tree.{joins_of}
use Rattle.hq_sql_tree.specs.View.{join_view}
use Rattle.hq_sql_access.specs.Equations.{is_joined}
use Rattle.hq_sql_access.proofs.equations.is_joined.Given as goal

-- those that are left tell what all do
abbrev pub invariant-loop-join : goal.invariant-loop-join
invariant-loop-join l = is_joined (joins_of (map join_view (drop l.join-index l.joins))) l.alias ≡ is_joined (joins_of (map join_view l.joins)) l.alias
