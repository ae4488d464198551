use Rattle.std.proofs.Common.{◌≡◌, ◌≤◌, map, take, length}
use Rattle.hq_sql_tree.specs.WellFormed.{kind_at, Aliases}
use Rattle.hq_sql_check.specs.Scopes.{alias_view, stacked}
use Rattle.hq_sql_check.proofs.scope.kind_among.Given as goal

-- the aliases that are left tell what all do
abbrev pub invariant-loop-i : goal.invariant-loop-i
invariant-loop-i l =
    record {
      within : l.i ≤ length l.aliases;
      left : (outer : Aliases) → kind_at (stacked (map alias_view l.aliases) outer) l.alias l.name ≡ kind_at (stacked (map alias_view (take l.i l.aliases)) outer) l.alias l.name;
    }

abbrev pub decreases-loop-i : goal.decreases-loop-i
decreases-loop-i l = l.i
