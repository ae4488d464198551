-- The order in which the least cell, or the greatest one, stands first.
use Rattle.std.specs.Prelude.{Bool, cond, ◌&&◌, ◌||◌}
use Rattle.std.specs.declared.cmp.Ordering.{Ordering}
use Rattle.std.specs.Ordering.{flip_args, is_gt}
use Rattle.hq_base.specs.Aggregates.{is_taken}
use Rattle.hq_base.specs.Cells.{CellTree, cell_cmp}
use Rattle.hq_model.specs.Logic.{null_test}

-- ascending for the least cell, descending for the greatest
abbrev pub best_cmp : (greatest : Bool) → CellTree → CellTree → Ordering
best_cmp greatest = cond greatest (flip_args cell_cmp) cell_cmp

-- a cell that aggregates take stands before the best one so far, for which NULL stands where there is none
abbrev pub is_better : (greatest : Bool) → (best cell : CellTree) → Bool
is_better greatest best cell = is_taken cell && (null_test best || is_gt (best_cmp greatest best cell))
