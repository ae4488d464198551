use Rattle.std.proofs.Common.{◌≡◌, map, take}
use Rattle.hq_sql_access.specs.View.{named_view}
use Rattle.hq_sql_access.proofs.row.copy_cells.Given as goal

abbrev pub invariant-loop-named : goal.invariant-loop-named
invariant-loop-named l = map named_view l.copies.items ≡ map named_view (take l.named-index l.cells)
