use Rattle.std.proofs.Common.{◌≡◌, map, take}
use Rattle.hq_load_index.specs.Keys.{cell_in}
use Rattle.hq_sql_cells.specs.View.{cell_view}
use Rattle.hq_sql_output.specs.TableRows.{values_at}
use Rattle.hq_sql_output.proofs.grouped.cells_in.Given as goal

abbrev pub invariant-loop-place : goal.invariant-loop-place
invariant-loop-place l = map cell_view l.cells.items ≡ map (λ p. cell_in (values_at l.table p.position) l.column) (take l.place-index l.places)
