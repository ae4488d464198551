use Rattle.std.proofs.Common.{◌≡◌, map, take}
use Rattle.hq_sql_cells.specs.View.{cell_view}
use Rattle.hq_sql_tree.specs.Meaning.{cell_named}
use Rattle.hq_sql_access.specs.View.{row_in}
use Rattle.hq_sql_output.proofs.grouped.cells_named.Given as goal

abbrev pub invariant-loop-place : goal.invariant-loop-place
invariant-loop-place l = map cell_view l.cells.items ≡ map (λ p. cell_named (row_in l.source p.position) l.name) (take l.place-index l.places)
