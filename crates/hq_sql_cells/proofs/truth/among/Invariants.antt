use Rattle.std.proofs.Common.{◌≡◌, map, drop}
use Rattle.hq_model.specs.Logic.{or3, among}
use Rattle.hq_sql_cells.specs.View.{cell_view}
use Rattle.hq_sql_cells.proofs.truth.among.Given as goal

-- what was found, or the rest of the items
abbrev pub invariant-loop-item : goal.invariant-loop-item
invariant-loop-item l = or3 l.found (among (map cell_view (drop l.item-index l.items)) (cell_view l.value)) ≡ among (map cell_view l.items) (cell_view l.value)
