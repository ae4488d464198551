use Rattle.std.proofs.Common.{◌≡◌, ◌≤◌, map, take, length}
use Rattle.hq_confine_rules.specs.Origins.{Shapes, shape_at}
use Rattle.hq_confine_uses.specs.Views.{alias_view, stacked}
use Rattle.hq_confine_uses.proofs.scope.shape_among.Given as goal

-- the aliases that are left tell what all do
abbrev pub invariant-loop-i : goal.invariant-loop-i
invariant-loop-i l = record {
  within : l.i ≤ length l.aliases;
  left : (outer : Shapes) → shape_at (stacked (map alias_view l.aliases) outer) l.alias ≡ shape_at (stacked (map alias_view (take l.i l.aliases)) outer) l.alias;
}

abbrev pub decreases-loop-i : goal.decreases-loop-i
decreases-loop-i l = l.i
