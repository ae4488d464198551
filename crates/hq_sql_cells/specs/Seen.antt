-- Cells as a set of those that were seen holds them.
use Rattle.hq_sql_cells.specs.declared.cell.Cell.{Cell}
use Rattle.hq_sql_cells.specs.declared.cell.Cell.TheVariants as cell
use Rattle.hq_sql_cells.specs.declared.seen.SeenCell.{SeenCell}
use Rattle.hq_sql_cells.specs.declared.seen.SeenCell.TheVariants as seen

-- what tells a cell from others: of JSON one is like another
abbrev pub seen_of : Cell → SeenCell
seen_of cell.Null = seen.Null
seen_of (cell.Int n) = seen.Int n
seen_of (cell.Text t) = seen.Text t
seen_of (cell.Bool b) = seen.Bool b
seen_of (cell.Json j) = seen.Json
