use Rattle.std.proofs.Common.{◌≡◌, map, drop}
use Rattle.hq_sql_cells.specs.Keys.{keys_cmp}
use Rattle.hq_sql_cells.specs.View.{cell_view}
use Rattle.hq_sql_cells.proofs.order.keys_cmp.Given as goal

-- the keys so far are equal, and those from here on decide
abbrev pub invariant-loop-at : goal.invariant-loop-at
invariant-loop-at l = keys_cmp (drop l.at l.order) (drop l.at (map cell_view l.left)) (drop l.at (map cell_view l.right)) ≡ keys_cmp l.order (map cell_view l.left) (map cell_view l.right)
