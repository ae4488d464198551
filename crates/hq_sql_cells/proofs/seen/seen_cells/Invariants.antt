use Rattle.std.proofs.Common.{◌≡◌, map, take}
use Rattle.hq_sql_cells.specs.Seen.{seen_of}
use Rattle.hq_sql_cells.proofs.seen.seen_cells.Given as goal

-- the cells so far
abbrev pub invariant-loop-cell : goal.invariant-loop-cell
invariant-loop-cell l = l.seen.items ≡ map seen_of (take l.cell-index l.cells)
